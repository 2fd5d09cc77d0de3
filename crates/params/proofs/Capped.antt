-- Products that stop at a cap: stopping on the way changes nothing at the end. Assumes nothing.
use mathlib.Core.Path.{◌≡◌, sym, ap, ◌∙◌}
use Prim.Native.Nat.{ℕ, zero, suc, ◌*◌, ◌/◌, ◌^◌, ◌≤◌, ◌<◌, min}
use native.Mathlib.Nat.{min-le_left, min-eq_left, min-eq_right, mul_comm, mul_assoc, pow-zero, pow-suc, le-mul_of_pos_right, div-mul-le_self}
use native.Mathlib.Nat.{mul-le-mul_right, lt-div-mul-add}
use native.Mathlib.Omega.{arith}
use lib.Dec.{leb}
use Rattle.combinatorics.proofs.Cases.{by_le, leb-holds, leb-fails}

-- a product whose first factor was stopped
pub cap-left : (x y cap : ℕ) → min (min x cap * y) cap ≡ min (x * y) cap
cap-left x zero cap =
    let e : min x cap * 0 ≡ x * 0 = omega arith in
    rw e
cap-left x (suc y) cap =
    by_le x cap (λ _. min (min x cap * suc y) cap ≡ min (x * suc y) cap)
    (λ l.
    let e : min x cap ≡ x = min-eq_left l in
    rw e)
    (λ l.
    let e : min x cap ≡ cap = min-eq_right {n = cap} {m = x} (omega arith) in
    let a : cap ≤ cap * suc y = le-mul_of_pos_right cap (omega arith) in
    let b : x ≤ x * suc y = le-mul_of_pos_right x (omega arith) in
    let c : cap ≤ x * suc y = omega arith in
    rw (e, min-eq_right a, min-eq_right c))

-- and one with both stopped
pub cap-both : (x y cap : ℕ) → min (min x cap * min y cap) cap ≡ min (x * y) cap
cap-both x y cap =
    cap-left x (min y cap) cap ∙ (rw (mul_comm x (min y cap), cap-left y x cap, mul_comm y x))

-- the cap is reached where the number itself reaches it
pub cap-reached : (x cap : ℕ) → cap ≤ min x cap → cap ≤ x
cap-reached x cap h = omega (arith, min-le_left x cap)

pub cap-missed : (x cap : ℕ) → min x cap < cap → x < cap
cap-missed x cap h = by_le cap x (λ _. x < cap) (λ l. absurd (omega (arith, min-eq_right l))) (λ l. l)

-- so that numbers which stop alike reach it alike
pub reached-alike : (x y cap : ℕ) → min x cap ≡ min y cap → leb cap x ≡ leb cap y
reached-alike x y cap e =
    by_le cap y (λ t. leb cap x ≡ t) (λ l. leb-holds cap x (cap-reached x cap (omega (arith, e, min-eq_right l))))
    (λ l. leb-fails cap x (cap-missed x cap (omega (arith, e, min-le_left y cap))))

-- a product of factors that were all stopped
pub factors-capped : (x y cap r : ℕ) → min (min x cap * min y cap ^ r) cap ≡ min (x * y ^ r) cap
factors-capped x y cap zero = rw (pow-zero (min y cap), pow-zero y) (cap-left x 1 cap)
factors-capped x y cap (suc r) =
    let z = min x cap * min y cap ^ r in
    rw (pow-suc (min y cap) r, pow-suc y r, ← mul_assoc (min x cap) (min y cap ^ r) (min y cap), ← mul_assoc x (y ^ r) y)
    (sym (cap-left z (min y cap) cap) ∙ ap (λ (t : ℕ). min (t * min y cap) cap) (factors-capped x y cap r) ∙ cap-both (x * y ^ r) y cap)

-- a division tells whether a product passes the cap
pub cap-passed : (a b cap : ℕ) → 0 < b → cap / b < a → cap ≤ a * b
cap-passed a b cap h l = omega (arith, mul-le-mul_right b l, lt-div-mul-add {a = cap} h)

pub cap-kept : (a b cap : ℕ) → a ≤ cap / b → a * b ≤ cap
cap-kept a b cap l = omega (arith, mul-le-mul_right b l, div-mul-le_self cap b)
