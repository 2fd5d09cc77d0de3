-- What figures in range that fit give: the facts that the other laws go by, and that r is the least number of all that serves. Assumes nothing.
use mathlib.Core.Path.{◌≡◌, ap, ◌∙◌}
use mathlib.Core.Bool.{true, false, cond, ◌&&◌}
use Prim.Native.Nat.{ℕ, zero, suc, ◌+◌, ◌-◌, ◌*◌, ◌/◌, ◌≤◌, ◌<◌}
use native.Mathlib.Nat.{mul_comm, mul_assoc, mul-le-mul_left, div-mul-le_self}
use native.Mathlib.Omega.{arith}
use lib.Dec.{leb, ltb}
use Rattle.combinatorics.proofs.Cases.{by_le, by_bool, le_of, leb-holds}
use Rattle.combinatorics.proofs.Lists.{both}
use Rattle.cells.specs.Digits.{span, places}
use Rattle.cells.proofs.Digits.{span-places}
use Rattle.cells.proofs.Figures.{Ranged, ranged, tail-enough, tail-least}
use Rattle.cells.specs.Figures.{Params, max_bursts, max_count, in_range}
use Rattle.construction_a.specs.Figures.{parts}
use Rattle.cells.specs.Figures.{placement_count_of, index_values}
use Rattle.construction_a.specs.Figures.{block_min, index_tail_of, fits}

-- figures that can be served
pub record Served (f : Params) : Type 0 where
  pub range : Ranged f
  pub three : 3 ≤ parts f
  pub some : 0 < f.m
  pub most : f.m ≤ parts f
  pub long : 0 < f.b
  pub total : f.m * f.b ≤ f.n
  pub counted : placement_count_of f ≤ max_count
  pub room : index_tail_of f < f.n / (parts f * f.m)
  pub short : f.b ≤ f.n / (parts f * f.m) - index_tail_of f

pub three-parts : (f : Params) → 3 ≤ parts f
unfolding parts
three-parts f = by_le f.m 2 (λ t. 3 ≤ cond t 3 f.m) (λ _. omega arith) (λ h. omega arith)

pub parts-most : (f : Params) → f.m ≤ parts f
unfolding parts
parts-most f = by_le f.m 2 (λ t. f.m ≤ cond t 3 f.m) (λ h. omega arith) (λ h. omega arith)

pub parts-few : (f : Params) → Ranged f → parts f ≤ max_bursts
unfolding parts
parts-few f r = by_le f.m 2 (λ t. cond t 3 f.m ≤ max_bursts) (λ _. omega arith) (λ _. omega (arith, r.m-most))

pub serve : (f : Params) → in_range f ≡ true → fits f ≡ true → Served f
unfolding fits block_min
serve f i h =
    let r = ranged f i in
    let c = leb (f.m * f.b) f.n && leb (placement_count_of f) max_count in
    let x = both (c && ltb (index_tail_of f) (block_min f)) (leb f.b (block_min f - index_tail_of f)) h in
    let y = both c (ltb (index_tail_of f) (block_min f)) x.0 in
    let z = both (leb (f.m * f.b) f.n) (leb (placement_count_of f) max_count) y.0 in
    record {
      range = r;
      three = three-parts f;
      some = r.m-least;
      most = parts-most f;
      long = r.b-least;
      total = le_of (f.m * f.b) f.n z.0;
      counted = le_of (placement_count_of f) max_count z.1;
      room = le_of (suc (index_tail_of f)) (block_min f) y.1;
      short = le_of f.b (block_min f - index_tail_of f) x.1;
    }

-- the facts as the test again, and figures that don't fit
pub fitting : (f : Params) → f.m * f.b ≤ f.n → placement_count_of f ≤ max_count → index_tail_of f < block_min f → f.b ≤ block_min f - index_tail_of f → fits f ≡ true
unfolding fits
fitting f total count room short =
    rw (
      leb-holds (f.m * f.b) f.n total,
      leb-holds (placement_count_of f) max_count count,
      leb-holds (suc (index_tail_of f)) (block_min f) room,
      leb-holds f.b
          (block_min f - index_tail_of f) short,
    )

pub unfitting : (f : Params) → in_range f ≡ true → ¬ Served f → fits f ≡ false
unfitting f i h = by_bool (fits f) (λ t. absurd (h (serve f i t))) (λ e. e)

-- ---- "k is n less m × (b + p + r − 1)"

sum-le-product : (a b : ℕ) → 0 < a → 0 < b → a + b - 1 ≤ a * b
sum-le-product (suc a) (suc b) g h = omega arith
sum-le-product zero b g h = absurd (omega arith)
sum-le-product (suc a) zero g h = absurd (omega arith)

-- nothing is taken from n that n does not have
pub message-room : (f : Params) → Served f → f.m * (f.b + parts f + index_tail_of f - 1) ≤ f.n
message-room f ok =
    let p = parts f in
    let L = f.n / (p * f.m) in
    let fill : f.b + p + index_tail_of f - 1 ≤ p * L =
    omega (arith, sum-le-product p L (omega (arith, ok.three)) (omega (arith, ok.room)), ok.short, ok.room) in
    let e : f.m * (p * L) ≡ L * (p * f.m) = mul_comm f.m (p * L) ∙ ap (λ (y : ℕ). y * f.m) (mul_comm p L) ∙ mul_assoc L p f.m in
    omega (arith, mul-le-mul_left f.m fill, e, div-mul-le_self f.n (p * f.m))

-- ---- "r is the least whole number for which m such I-blocks together spell at least T values"

-- where figures fit the I-blocks spell every rank
pub index-enough : (f : Params) → Served f → placement_count_of f ≤ index_values f.q f.m (index_tail_of f)
unfolding index_tail_of block_min
index-enough f ok = tail-enough f.q f.m (placement_count_of f) (block_min f) ok.room

-- and no smaller number of further symbols would do, of all numbers
pub index-least : (f : Params) (r : ℕ) → placement_count_of f ≤ index_values f.q f.m r → index_tail_of f ≤ r
unfolding index_tail_of
index-least f = tail-least f.q f.m (placement_count_of f) (block_min f)

-- the same by the places of the digits
pub span-enough : (f : Params) → Served f → placement_count_of f ≤ span f.q (places f.m (index_tail_of f))
span-enough f ok = rw (span-places f.q f.m (index_tail_of f)) (index-enough f ok)
