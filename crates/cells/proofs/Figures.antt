-- Laws of the figures that every construction has: ranges as facts, counts, the least number of symbols that spell so many values, and placements as
-- facts. Assumes nothing.
use mathlib.Core.Path.{◌≡◌, sym, ◌∙◌}
use mathlib.Core.Bool.{Bool, true, false, ◌&&◌, true≢false}
use mathlib.Core.List.{List}
use Prim.Native.Nat.{ℕ, ◌≤◌, ◌<◌}
use native.Mathlib.Omega.{arith}
use lib.Dec.{leb, eqb}
use lib.ListN.{length, get_or}
use Rattle.combinatorics.specs.Bursts.{apart, in_burst}
use Rattle.combinatorics.specs.Lists.{all_below}
use Rattle.combinatorics.proofs.Cases.{by_le, by_bool, le_of, leb-holds, leb-fails, eqb_same, eqb-true}
use Rattle.combinatorics.proofs.Bursts.{Placed, placed_of, of-placed}
use Rattle.combinatorics.proofs.Lists.{both}
use Rattle.combinatorics.proofs.Stretch.{first-true, first-false}
use Rattle.cells.specs.Figures.{Params, max_word, max_alphabet, max_bursts, max_count, counted, too_many, count_out, in_range, is_placement, index_values}
use Rattle.cells.specs.Figures.{least_tail}

-- "n is 3 to 4096, q 2 to 256, m 1 to 8, b at least 1", as facts
pub record Ranged (f : Params) : Type 0 where
  pub n-least : 3 ≤ f.n
  pub n-most : f.n ≤ max_word
  pub q-least : 2 ≤ f.q
  pub q-most : f.q ≤ max_alphabet
  pub m-least : 1 ≤ f.m
  pub m-most : f.m ≤ max_bursts
  pub b-least : 1 ≤ f.b

pub ranged : (f : Params) → in_range f ≡ true → Ranged f
unfolding in_range
ranged f = go (leb 3 f.n) (leb f.n max_word) (leb 2 f.q) (leb f.q max_alphabet) (leb 1 f.m) (leb f.m max_bursts) (leb 1 f.b)
    (le_of 3 f.n) (le_of f.n max_word) (le_of 2 f.q) (le_of f.q max_alphabet) (le_of 1 f.m) (le_of f.m max_bursts) (le_of 1 f.b)
  where
    go : (a b c d e g h : Bool) → (a ≡ true → 3 ≤ f.n) → (b ≡ true → f.n ≤ max_word) → (c ≡ true → 2 ≤ f.q) → (d ≡ true → f.q ≤ max_alphabet)
        → (e ≡ true → 1 ≤ f.m) → (g ≡ true → f.m ≤ max_bursts) → (h ≡ true → 1 ≤ f.b) → (a && b && c && d && e && g && h) ≡ true → Ranged f
    go a b c d e g h fa fb fc fd fe fg fh all =
        let x₁ = both (a && b && c && d && e && g) h all in
        let x₂ = both (a && b && c && d && e) g x₁.0 in
        let x₃ = both (a && b && c && d) e x₂.0 in
        let x₄ = both (a && b && c) d x₃.0 in
        let x₅ = both (a && b) c x₄.0 in
        let x₆ = both a b x₅.0 in
        record {
          n-least = fa x₆.0;
          n-most = fb x₆.1;
          q-least = fc x₅.1;
          q-most = fd x₄.1;
          m-least = fe x₃.1;
          m-most = fg x₂.1;
          b-least = fh x₁.1;
        }

-- the facts as the test again, and a figure out of range
pub in-range : (f : Params) → Ranged f → in_range f ≡ true
unfolding in_range
in-range f r =
    rw (
      leb-holds 3 f.n r.n-least,
      leb-holds f.n max_word r.n-most,
      leb-holds 2 f.q r.q-least,
      leb-holds f.q max_alphabet r.q-most,
      leb-holds 1 f.m r.m-least,
      leb-holds f.m max_bursts r.m-most,
      leb-holds 1 f.b r.b-least,
    )

pub out_of_range : (f : Params) → ¬ Ranged f → in_range f ≡ false
out_of_range f h = by_bool (in_range f) (λ t. absurd (h (ranged f t))) (λ e. e)

-- ---- a count, "its value or .. that it exceeds 9223372036854775807"

pub count-given : (t : ℕ) → t ≤ max_count → count_out t ≡ counted t
count-given t h = rw (leb-holds t max_count h)

pub count-over : (t : ℕ) → max_count < t → count_out t ≡ too_many
count-over t h = rw (leb-fails t max_count h)

-- ---- "r is the least whole number for which m such I-blocks together spell at least T values"

-- the least below a limit is the least of all
pub tail-enough : (q m count limit : ℕ) → least_tail q m count limit < limit → count ≤ index_values q m (least_tail q m count limit)
unfolding least_tail
tail-enough q m count limit h =
    le_of count (index_values q m (least_tail q m count limit)) (first-true limit 0 (λ r. leb count (index_values q m r)) (omega (arith, h)))

pub tail-least : (q m count limit r : ℕ) → count ≤ index_values q m r → least_tail q m count limit ≤ r
unfolding least_tail
tail-least q m count limit r h =
    by_le (least_tail q m count limit) r (λ _. least_tail q m count limit ≤ r) (λ l. l)
    (λ l. absurd (true≢false (sym (leb-holds count (index_values q m r) h) ∙ first-false limit 0 r (λ r. leb count (index_values q m r)) (omega arith) l)))

-- ---- A placement, as a test and as facts

pub placed-starts : (f : Params) (ss : List ℕ) → is_placement f ss ≡ true → Placed f.b f.n 0 ss × (length ss ≡ f.m)
unfolding is_placement
placed-starts f ss e =
    let b = both (eqb (length ss) f.m) (apart f.b f.n 0 ss) e in
    (placed_of f.b f.n 0 ss b.1, eqb-true (length ss) f.m b.0)

pub starts-placed : (f : Params) (ss : List ℕ) → Placed f.b f.n 0 ss → length ss ≡ f.m → is_placement f ss ≡ true
unfolding is_placement
starts-placed f ss h e = rw (eqb_same (length ss) f.m e) (of-placed f.b f.n 0 ss h)

-- ---- What an accepted word tells

-- a placement, and a message of k symbols whose word the found one is outside the bursts
pub record Accepted (f : Params) (k : ℕ) (word : List ℕ → List ℕ → List ℕ) (w ss ms : List ℕ) : Type 0 where
  pub placed : Placed f.b f.n 0 ss
  pub count : length ss ≡ f.m
  pub message : length ms ≡ k
  pub symbols : all_below f.q ms ≡ true
  pub outside : (x : ℕ) → x < f.n → in_burst f.b ss x ≡ false → get_or w x 0 ≡ get_or (word ss ms) x 0
