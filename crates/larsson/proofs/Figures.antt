-- What figures in range that fit give: R is the least number of all that serves, and where the sub-blocks stand. Assumes nothing.
use mathlib.Core.Path.{◌≡◌, sym, ◌∙◌}
use mathlib.Core.Bool.{Bool, true, false, ◌&&◌, true≢false}
use Prim.Native.Nat.{ℕ, zero, suc, ◌+◌, ◌*◌, ◌^◌, ◌≤◌, ◌<◌}
use native.Mathlib.Nat.{mul-le-mul_left, pow-zero, pow-suc, pow-le-pow_left, pow-le-pow_right}
use native.Mathlib.Decide.{le_ind}
use native.Mathlib.Omega.{arith}
use lib.Dec.{leb}
use Rattle.combinatorics.specs.Bursts.{contracted, placements}
use Rattle.combinatorics.specs.Choose.{choose}
use Rattle.combinatorics.proofs.Cases.{by_le, by_bool, leb-holds, le_of}
use Rattle.combinatorics.proofs.Choose.{pascal, choose-zero, choose-none}
use Rattle.combinatorics.proofs.Lists.{both}
use Rattle.combinatorics.proofs.Stretch.{first-true, first-false, first-within}
use Rattle.cells.specs.Cut.{piece_len}
use Rattle.cells.specs.Digits.{span}
use Rattle.cells.proofs.Cut.{piece-zero, piece-next, piece-all, len_grows, len-least, len-most}
use Rattle.cells.proofs.Digits.{span-plain}
use Rattle.cells.specs.Figures.{Params, in_range, placement_count_of, max_count}
use Rattle.cells.proofs.Figures.{Ranged, ranged}
use Rattle.larsson.specs.Figures.{sub_len_of, sub_blocks, gaps, gap_total_of, gap_len, sub_start, fits}
use Rattle.larsson.specs.Writing.{rank_places}

-- figures that can be served
pub record Served (f : Params) : Type 0 where
  pub range : Ranged f
  pub total : f.m * f.b ≤ f.n
  pub counted : placement_count_of f ≤ max_count
  pub room : sub_blocks f * sub_len_of f ≤ f.n
  pub short : f.b ≤ gap_len f 0 + 1

pub serve : (f : Params) → in_range f ≡ true → fits f ≡ true → Served f
unfolding fits
serve f i h =
    let x = both (leb (f.m * f.b) f.n && leb (placement_count_of f) max_count && leb (sub_blocks f * sub_len_of f) f.n) (leb f.b (gap_len f 0 + 1)) h in
    let y = both (leb (f.m * f.b) f.n && leb (placement_count_of f) max_count) (leb (sub_blocks f * sub_len_of f) f.n) x.0 in
    let z = both (leb (f.m * f.b) f.n) (leb (placement_count_of f) max_count) y.0 in
    record {
      range = ranged f i;
      total = le_of (f.m * f.b) f.n z.0;
      counted = le_of (placement_count_of f) max_count z.1;
      room = le_of (sub_blocks f * sub_len_of f) f.n y.1;
      short = le_of f.b (gap_len f 0 + 1) x.1;
    }

-- the facts as the test again, and figures that don't fit
pub fitting : (f : Params) → f.m * f.b ≤ f.n → placement_count_of f ≤ max_count → sub_blocks f * sub_len_of f ≤ f.n → f.b ≤ gap_len f 0 + 1 → fits f ≡ true
unfolding fits
fitting f total counted room short =
    rw (
      leb-holds (f.m * f.b) f.n total,
      leb-holds (placement_count_of f) max_count counted,
      leb-holds (sub_blocks f * sub_len_of f) f.n room,
      leb-holds
          f.b (gap_len f 0 + 1) short,
    )

pub unfitting : (f : Params) → in_range f ≡ true → ¬ Served f → fits f ≡ false
unfitting f i h = by_bool (fits f) (λ t. absurd (h (serve f i t))) (λ e. e)

-- ---- "R is the least number of symbols that spell at least T values"

choose-pow : (n k : ℕ) → choose n k ≤ 2 ^ n
choose-pow zero zero = omega (arith, choose-zero 0, pow-zero 2)
choose-pow zero (suc k) = omega (arith, choose-none k)
choose-pow (suc n) zero = omega (arith, choose-zero n, choose-zero (suc n), choose-pow n zero, pow-suc 2 n)
choose-pow (suc n) (suc k) = omega (arith, pascal n k, choose-pow n k, choose-pow n (suc k), pow-suc 2 n)

-- so many spell every rank, wherever the runs fit in n: the bound of the search cuts nothing off
pub rank_room : (f : Params) → Ranged f → f.m * f.b ≤ f.n → placement_count_of f ≤ f.q ^ sub_len_of f
unfolding sub_len_of placements
rank_room f r total =
    let c = contracted f.n f.m f.b in
    let serves : ℕ → Bool = λ r. leb (placement_count_of f) (f.q ^ r) in
    let few : c ≤ f.n = omega (arith, total, mul-le-mul_left f.m r.b-least) in
    by_le (suc (sub_len_of f)) f.n (λ _. placement_count_of f ≤ f.q ^ sub_len_of f)
    (λ l. le_of (placement_count_of f) (f.q ^ sub_len_of f) (first-true f.n 0 serves (omega arith)))
    (λ l.
    let e : sub_len_of f ≡ f.n = omega (arith, first-within f.n 0 serves) in
    rw e (omega (arith, choose-pow c f.m, pow-le-pow_right {n = 2} (omega arith) few, pow-le-pow_left r.q-least f.n)))

-- and no smaller number does, of all numbers
pub rank-least : (f : Params) (r : ℕ) → placement_count_of f ≤ f.q ^ r → sub_len_of f ≤ r
unfolding sub_len_of
rank-least f r h =
    by_le (sub_len_of f) r (λ _. sub_len_of f ≤ r) (λ l. l)
    (λ l. absurd (true≢false (sym (leb-holds (placement_count_of f) (f.q ^ r) h)
    ∙ first-false f.n 0 r (λ r. leb (placement_count_of f) (f.q ^ r)) (omega arith) l)))

-- the same by the places of the digits
pub span-room : (f : Params) → Served f → placement_count_of f ≤ span f.q (rank_places f)
span-room f ok = rw (span-plain f.q (sub_len_of f)) (rank_room f ok.range ok.total)

-- ---- Where the sub-blocks stand

-- "shorter first"
pub gap-rises : (f : Params) (i j : ℕ) → i ≤ j → gap_len f i ≤ gap_len f j
unfolding gap_len
gap-rises f i j l =
    le_ind (λ (k : ℕ). piece_len (gap_total_of f) (gaps f) i ≤ piece_len (gap_total_of f) (gaps f) k) (omega arith)
    (λ k _ g. omega (arith, len_grows (gap_total_of f) (gaps f) k)) j l

pub gap-least : (f : Params) (i : ℕ) → gap_len f 0 ≤ gap_len f i
gap-least f i = gap-rises f 0 i (omega arith)

-- "as equal as possible"
pub gap-equal : (f : Params) (i j : ℕ) → gap_len f j ≤ gap_len f i + 1
unfolding gap_len
gap-equal f i j = omega (arith, len-most (gap_total_of f) (gaps f) j, len-least (gap_total_of f) (gaps f) i)

-- "the first at 0"
pub sub-first : (f : Params) → sub_start f 0 ≡ 0
unfolding sub_start
sub-first f = omega (arith, piece-zero (gap_total_of f) (gaps f))

-- they follow one another, with a gap between
pub sub-next : (f : Params) (i : ℕ) → sub_start f (suc i) ≡ sub_start f i + sub_len_of f + gap_len f i
unfolding sub_start gap_len
sub-next f i = omega (arith, piece-next (gap_total_of f) (gaps f) i)

pub sub-rises : (f : Params) (a b : ℕ) → a ≤ b → sub_start f a ≤ sub_start f b
sub-rises f a b l = le_ind (λ (k : ℕ). sub_start f a ≤ sub_start f k) (omega arith) (λ k _ g. omega (arith, sub-next f k)) b l

-- "the last ending the word"
pub sub-last : (f : Params) → Served f → sub_start f (2 * f.m) + sub_len_of f ≡ f.n
unfolding sub_start gap_total_of
sub-last f ok = omega (arith, piece-all (gap_total_of f) (gaps f) (omega (arith, ok.range.m-least)), ok.room)

-- none ends past the word's end
pub sub_within : (f : Params) → Served f → (i : ℕ) → i < sub_blocks f → sub_start f i + sub_len_of f ≤ f.n
sub_within f ok i l = omega (arith, sub-last f ok, sub-rises f i (2 * f.m) (omega arith))
