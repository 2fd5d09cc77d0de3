-- Lenses in whole eighths: transposing keeps the rules and undoes itself, and how the spherical equivalent moves. Assumes nothing.
use Rattle.std.proofs.Common.{◌≡◌, ℕ, zero, suc, ◌+◌, ◌-◌, ◌^◌, ◌<◌, ◌≤◌, Bool, true, cond, not, ◌&&◌, T, eqb, leb, ℤ, pos, negsuc, ◌+ℤ◌, neg_ℤ, nat_abs, sym, refl, ap, ◌∙◌, subst, arith, leb→le, le-ltb, lt-ltb, le-leb}
use lib.IntN.{+ℤ-neg_ℤ_cancel, +ℤ_assoc, +ℤ_comm, neg_ℤ-neg_ℤ}
use lib.Ieee.Fits.{and_l, and_r}
use Rattle.combinatorics.proofs.Cases.{eqb-other}
use Rattle.prescription.specs.Lens.{Lens, plano, sphere, toric, in_power_range, nonzero, keeps, turned, transposed, equivalent}
use Rattle.prescription.specs.Laws.{Moves}
use Rattle.prescription.specs.Counts.{PowerOfTwo}
use Rattle.prescription.proofs.Arithmetic.{by-lt}
use Rattle.prescription.proofs.Counting.{holds, counts-back}
use Rattle.prescription.proofs.Storing.{sum-within, sum-apart}

-- ---- What a lens that keeps the rules has

pub record ToricKept (s c : ℤ) (a : ℕ) : Type 0 where
  pub sphere-in : nat_abs s ≤ 240
  pub sum-in : nat_abs (s +ℤ c) ≤ 240
  pub other : nat_abs c ≡ 0 → ⊥
  pub low : 1 ≤ a
  pub high : a ≤ 180

not-zero : (n : ℕ) → T (not (eqb n 0)) → n ≡ 0 → ⊥
not-zero n t e = subst (λ (m : ℕ). T (not (eqb m 0))) e t

pub toric-kept : (s c : ℤ) (a : ℕ) → keeps (toric s c a) ≡ true → ToricKept s c a
unfolding keeps
toric-kept s c a h =
    let t = holds h in
    let p = in_power_range s in
    let q = in_power_range (s +ℤ c) in
    let r = nonzero c in
    let x = leb 1 a && leb a 180 in
    let front = and_l (p && q && r) x t in
    let pair = and_l (p && q) r front in
    record {
      sphere-in = leb→le (nat_abs s) 240 (and_l p q pair);
      sum-in = leb→le (nat_abs (s +ℤ c)) 240 (and_r p q pair);
      other = not-zero (nat_abs c) (and_r (p && q) r front);
      low = leb→le 1 a (and_l (leb 1 a) (leb a 180) (and_r (p && q && r) x t));
      high = leb→le a 180 (and_r (leb 1 a) (leb a 180) (and_r (p && q && r) x t));
    }

pub keeps-toric : (s c : ℤ) (a : ℕ) → ToricKept s c a → keeps (toric s c a) ≡ true
unfolding keeps
keeps-toric s c a k =
    ap (λ (b : Bool). b && in_power_range (s +ℤ c) && nonzero c && (leb 1 a && leb a 180)) (le-leb (nat_abs s) 240 k.sphere-in)
    ∙ ap (λ (b : Bool). b && nonzero c && (leb 1 a && leb a 180)) (le-leb (nat_abs (s +ℤ c)) 240 k.sum-in)
    ∙ ap (λ (b : Bool). not b && (leb 1 a && leb a 180)) (eqb-other (nat_abs c) 0 k.other)
    ∙ ap (λ (b : Bool). b && leb a 180) (le-leb 1 a k.low)
    ∙ le-leb a 180 k.high

pub sphere-kept : (p : ℤ) → keeps (sphere p) ≡ true → nat_abs p ≤ 240
unfolding keeps
sphere-kept p h = leb→le (nat_abs p) 240 (and_l (in_power_range p) (nonzero p) (holds h))

pub cylinder-in : (s c : ℤ) (a : ℕ) → ToricKept s c a → nat_abs c ≤ 480
cylinder-in s c a k = let l = sum-apart s c in let m = k.sphere-in in let n = k.sum-in in omega arith

-- ---- Transposing

pub abs-negated : (c : ℤ) → nat_abs (neg_ℤ c) ≡ nat_abs c
abs-negated (pos zero) = refl
abs-negated (pos (suc n)) = refl
abs-negated (negsuc n) = refl

pub turned-low : (a : ℕ) → 1 ≤ a → 1 ≤ turned a
turned-low a h = by-lt 90 a (λ b. 1 ≤ cond b (a - 90) (a + 90)) (λ l. omega arith) (λ l. omega arith)

turned-high : (a : ℕ) → a ≤ 180 → turned a ≤ 180
turned-high a h = by-lt 90 a (λ b. cond b (a - 90) (a + 90) ≤ 180) (λ l. omega arith) (λ l. omega arith)

turned-back : (a : ℕ) → 1 ≤ a → a ≤ 180 → turned (turned a) ≡ a
turned-back a h k = by-lt 90 a (λ b. turned (cond b (a - 90) (a + 90)) ≡ a)
    (λ l. ap (λ (b : Bool). cond b (a - 90 - 90) (a - 90 + 90)) (le-ltb 90 (a - 90) (omega arith)) ∙ down a l)
    (λ l. ap (λ (b : Bool). cond b (a + 90 - 90) (a + 90 + 90)) (lt-ltb 90 (a + 90) (omega arith)) ∙ up a)
  where
    down : (a : ℕ) → 90 < a → a - 90 + 90 ≡ a
    down a l = omega arith

    up : (a : ℕ) → a + 90 - 90 ≡ a
    up a = omega arith

pub kept-turned : (s c : ℤ) (a : ℕ) → ToricKept s c a → ToricKept (s +ℤ c) (neg_ℤ c) (turned a)
kept-turned s c a k = record {
  sphere-in = k.sum-in;
  sum-in = subst (λ (z : ℤ). nat_abs z ≤ 240) (sym (+ℤ-neg_ℤ_cancel s c)) k.sphere-in;
  other = λ e. k.other (sym (abs-negated c) ∙ e);
  low = turned-low a k.low;
  high = turned-high a k.high;
}

pub transposed-keeps : (l : Lens) → keeps l ≡ true → keeps (transposed l) ≡ true
unfolding transposed
transposed-keeps plano h = h
transposed-keeps (sphere p) h = h
transposed-keeps (toric s c a) h = keeps-toric (s +ℤ c) (neg_ℤ c) (turned a) (kept-turned s c a (toric-kept s c a h))

pub transposed-back : (l : Lens) → keeps l ≡ true → transposed (transposed l) ≡ l
unfolding transposed
transposed-back plano h = refl
transposed-back (sphere p) h = refl
transposed-back (toric s c a) h =
    let k = toric-kept s c a h in
    ap (λ (z : ℤ). toric z (neg_ℤ (neg_ℤ c)) (turned (turned a))) (+ℤ-neg_ℤ_cancel s c)
    ∙ ap (λ (z : ℤ). toric s z (turned (turned a))) (neg_ℤ-neg_ℤ c)
    ∙ ap (λ (z : ℕ). toric s c z) (turned-back a k.low k.high)

-- ---- The spherical equivalent

pub sixteenths : PowerOfTwo 16
sixteenths = record { exponent = 4; small = omega arith; is = refl }

small-double : (c : ℤ) → nat_abs c ≤ 240 → nat_abs (c +ℤ c) < 2 ^ 53
small-double c h = let l = sum-within c c in omega arith

pub equivalent-small : (l : Lens) → keeps l ≡ true → nat_abs (equivalent l) < 2 ^ 53
unfolding equivalent
equivalent-small plano h = omega arith
equivalent-small (sphere p) h = small-double p (sphere-kept p h)
equivalent-small (toric s c a) h =
    let k = toric-kept s c a h in
    let m = k.sphere-in in
    let n = cylinder-in s c a k in
    let x = sum-within s s in
    let y = sum-within (s +ℤ s) c in
    omega arith

swap : (a b c : ℤ) → a +ℤ b +ℤ c ≡ a +ℤ c +ℤ b
swap a b c = +ℤ_assoc a b c ∙ ap (λ (z : ℤ). a +ℤ z) (+ℤ_comm b c) ∙ sym (+ℤ_assoc a c b)

pub equivalent-moves : Moves
unfolding equivalent
equivalent-moves = record {
  by-sphere = λ s c t a h k.
      ap (λ (z : ℤ). z +ℤ c) (sym (+ℤ_assoc (s +ℤ t) s t) ∙ ap (λ (z : ℤ). z +ℤ t) (swap s t s) ∙ +ℤ_assoc (s +ℤ s) t t) ∙ swap (s +ℤ s) (t +ℤ t) c;
  by-cylinder = λ s c t a h k. sym (+ℤ_assoc (s +ℤ s) c t);
  exact = λ l h. counts-back 16 sixteenths (equivalent l) (equivalent-small l h);
}
