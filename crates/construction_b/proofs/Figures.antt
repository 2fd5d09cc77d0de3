-- What figures of Construction B in range that fit give: the facts that the other laws go by, that r is the least number of all that serves, and that T
-- counts the placements. Assumes nothing.
use mathlib.Core.Path.{◌≡◌, sym}
use mathlib.Core.Bool.{true, ◌&&◌, true≢false}
use mathlib.Core.List.{List, [], ◌∷◌}
use Prim.Native.Nat.{ℕ, zero, suc, ◌+◌, ◌-◌, ◌*◌, ◌/◌, ◌%◌, ◌≤◌, ◌<◌}
use native.Mathlib.Nat.{div-add-mod, mod-lt}
use native.Mathlib.Decide.{le_ind}
use native.Mathlib.Omega.{arith}
use lib.Dec.{leb, ltb, eqb}
use lib.ListN.{length}
use Rattle.combinatorics.specs.Choose.{choose}
use Rattle.combinatorics.specs.Rank.{rank_from}
use Rattle.combinatorics.specs.Bursts.{apart, placements, reduce_from, rank_of}
use Rattle.combinatorics.specs.Stretch.{bit}
use Rattle.combinatorics.proofs.Cases.{by_le, eqb-true, le_of}
use Rattle.combinatorics.proofs.Bursts.{placed_of, of-placed}
use Rattle.combinatorics.proofs.Lists.{both}
use Rattle.cells.specs.Cut.{piece_len}
use Rattle.cells.specs.Digits.{span, places}
use Rattle.cells.proofs.Cut.{piece-next, piece-all, len-least}
use Rattle.cells.proofs.Digits.{span-places}
use Rattle.cells.specs.Figures.{max_word, max_alphabet, max_count, index_values}
use Rattle.cells.proofs.Figures.{tail-enough, tail-least}
use Rattle.construction_b.specs.Figures.{LongParams, parts, head_of, part_len, part_min, part_most, in_range, is_placement, placement_count_of, index_tail_of, fits}
use Rattle.construction_b.specs.Writing.{start_in, rank}

-- "n is 3 to 4096, q 2 to 256, .. b at least 1", as facts
pub record Ranged (f : LongParams) : Type 0 where
  pub n-least : 3 ≤ f.n
  pub n-most : f.n ≤ max_word
  pub q-least : 2 ≤ f.q
  pub q-most : f.q ≤ max_alphabet
  pub b-least : 1 ≤ f.b

-- figures that can be served
pub record Served (f : LongParams) : Type 0 where
  pub range : Ranged f
  pub short : f.b ≤ f.n / parts
  pub room : index_tail_of f < f.n / parts

pub ranged : (f : LongParams) → in_range f ≡ true → Ranged f
unfolding in_range
ranged f e =
    let x₁ = both (leb 3 f.n && leb f.n max_word && leb 2 f.q && leb f.q max_alphabet) (leb 1 f.b) e in
    let x₂ = both (leb 3 f.n && leb f.n max_word && leb 2 f.q) (leb f.q max_alphabet) x₁.0 in
    let x₃ = both (leb 3 f.n && leb f.n max_word) (leb 2 f.q) x₂.0 in
    let x₄ = both (leb 3 f.n) (leb f.n max_word) x₃.0 in
    record {
      n-least = le_of 3 f.n x₄.0;
      n-most = le_of f.n max_word x₄.1;
      q-least = le_of 2 f.q x₃.1;
      q-most = le_of f.q max_alphabet x₂.1;
      b-least = le_of 1 f.b x₁.1;
    }

pub serve : (f : LongParams) → in_range f ≡ true → fits f ≡ true → Served f
unfolding fits part_min
serve f i h =
    let x = both (leb f.b (part_min f)) (ltb (index_tail_of f) (part_min f)) h in
    record { range = ranged f i; short = le_of f.b (part_min f) x.0; room = le_of (suc (index_tail_of f)) (part_min f) x.1 }

-- ---- Parts

-- a part has L symbols at least
pub part-next : (f : LongParams) (k : ℕ) → head_of f k + f.n / parts ≤ head_of f (suc k)
part-next f k = omega (arith, piece-next f.n parts k, len-least f.n parts k)

pub part-rises : (f : LongParams) (a b : ℕ) → a ≤ b → head_of f a ≤ head_of f b
part-rises f a b l = le_ind (λ (k : ℕ). head_of f a ≤ head_of f k) (omega arith) (λ k _ g. omega (arith, part-next f k)) b l

pub part_end : (f : LongParams) → head_of f parts ≡ f.n
part_end f = piece-all f.n parts (omega arith)

-- and n/3, rounded up, at most
pub part-most : (f : LongParams) (i : ℕ) → i < parts → part_len f i ≤ part_most f
unfolding piece_len part_most
part-most f i l =
    let three : 0 < parts = omega arith in
    by_le (parts - f.n % parts) i (λ t. f.n / parts + bit t ≤ (f.n + 2) / parts)
    (λ h. omega (arith, div-add-mod f.n parts, div-add-mod (f.n + 2) parts, mod-lt (f.n + 2) three))
    (λ _. omega (arith, div-add-mod f.n parts, div-add-mod (f.n + 2) parts, mod-lt (f.n + 2) three))

-- ---- "r is the least for which the I-block's first 1 + r symbols spell at least n/3, rounded up, values"

-- where figures fit the I-block spells how far into any part a run can end
pub index-enough : (f : LongParams) → Served f → part_most f ≤ index_values f.q 1 (index_tail_of f)
unfolding index_tail_of part_min
index-enough f ok = tail-enough f.q 1 (part_most f) (part_min f) ok.room

-- and no smaller number of further symbols would do, of all numbers
pub index-least : (f : LongParams) (r : ℕ) → part_most f ≤ index_values f.q 1 r → index_tail_of f ≤ r
unfolding index_tail_of
index-least f = tail-least f.q 1 (part_most f) (part_min f)

-- the same by the places of the digits
pub span-enough : (f : LongParams) → Served f → part_most f ≤ span f.q (places 1 (index_tail_of f))
span-enough f ok = rw (span-places f.q 1 (index_tail_of f)) (index-enough f ok)

-- ---- A placement: its one start

pub placed-start : (f : LongParams) (ss : List ℕ) → is_placement f ss ≡ true → (ss ≡ start_in ss ∷ []) × (start_in ss + f.b ≤ f.n)
unfolding is_placement
placed-start f [] e = absurd (true≢false (sym e))
placed-start f (s ∷ []) e = ((λ i. s ∷ []), (placed_of f.b f.n 0 (s ∷ []) (both (eqb 1 1) (apart f.b f.n 0 (s ∷ [])) e).1).1)
placed-start f (s ∷ t ∷ ss) e =
    let l : length (s ∷ t ∷ ss) ≡ 1 = eqb-true (length (s ∷ t ∷ ss)) 1 (both (eqb (length (s ∷ t ∷ ss)) 1) (apart f.b f.n 0 (s ∷ t ∷ ss)) e).0 in
    absurd (omega (arith, l))

pub start-placed : (f : LongParams) (s : ℕ) → s + f.b ≤ f.n → is_placement f (s ∷ []) ≡ true
unfolding is_placement
start-placed f s l = of-placed f.b f.n 0 (s ∷ []) (omega arith, l)

-- ---- Rank and T

choose_one : (c : ℕ) → choose c 1 ≡ c
unfolding choose
choose_one zero = λ i. 0
choose_one (suc c) = omega (arith, choose_one c)

-- the rank of one run is its start
pub rank-is : (f : LongParams) (s : ℕ) → rank f (s ∷ []) ≡ s
unfolding rank_of reduce_from rank_from
rank-is f s =
    let z : s - 0 * (f.b - 1) ≡ s = omega arith in
    rw (z, choose_one s) (omega arith)

-- T is the base's count of placements
pub count-is : (f : LongParams) → f.b ≤ f.n → placement_count_of f ≡ placements f.n 1 f.b
unfolding placement_count_of placements
count-is f l =
    let z : f.n - 1 * f.b + 1 ≡ f.n - f.b + 1 = omega arith in
    rw z (sym (choose_one (f.n - f.b + 1)))

-- so ticket 11's limit on the count is never met, and needs no test
pub counted : (f : LongParams) → Ranged f → placement_count_of f ≤ max_count
unfolding placement_count_of
counted f r = omega (arith, r.n-most)
