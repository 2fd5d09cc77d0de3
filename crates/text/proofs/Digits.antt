-- Laws of numbers as text: how many digits there are, and the last of them one by one. Assumes nothing.
use mathlib.Core.Path.{◌≡◌, refl, sym, ap, ◌∙◌}
use mathlib.Core.List.{[], ◌∷◌, ◌++◌, map, map-append}
use Prim.Native.Nat.{ℕ, zero, suc, ◌+◌, ◌-◌, ◌*◌, ◌/◌, ◌%◌, ◌^◌, ◌≤◌, ◌<◌}
use native.Mathlib.Nat.{div-lt_iff_lt-mul, le-div_iff_mul-le, div-div-eq-div-mul, pow-zero, pow-suc, pow-le-pow_right, one-le-pow}
use native.Mathlib.Numerals.{add-one}
use native.Mathlib.Omega.{arith}
use lib.Dec.{ltb}
use lib.ListN.{length, replicate, length-map, length-replicate, replicate-append-replicate}
use Rattle.combinatorics.specs.Stretch.{first}
use Rattle.combinatorics.proofs.Cases.{by_le, leb-holds, leb-fails}
use Rattle.combinatorics.proofs.Stretch.{first-is, first-most, first-within}
use Rattle.cells.specs.Digits.{plain, span, spell}
use Rattle.cells.proofs.Digits.{span-plain, spell-snoc, length-spell}
use Rattle.text.specs.Text.{zero_char, decimal_len, decimal}
use Rattle.text.specs.Digits.{last_digits, IsDigitCount}

pub length-decimal : (v : ℕ) → length (decimal v) ≡ decimal_len v
unfolding decimal
length-decimal v =
    let ds = spell 10 (replicate (decimal_len v) plain) v in
    length-map ds (λ d. zero_char + d) ∙ length-spell 10 (replicate (decimal_len v) plain) v ∙ length-replicate (decimal_len v) plain

-- no more digits than hold it
pub decimal-most : (v k : ℕ) → 1 ≤ k → v < 10 ^ k → length (decimal v) ≤ k
unfolding decimal_len
decimal-most v k h l =
    rw (length-decimal v)
    (by_le k v (λ _. decimal_len v ≤ k) (λ g. first-most v 1 k (λ x. ltb v (10 ^ x)) h (omega arith) (leb-holds (suc v) (10 ^ k) l))
    (λ g. omega (arith, first-within v 1 (λ x. ltb v (10 ^ x)))))

-- 64 bits take 20 at most
pub decimal-room : (v : ℕ) → v < 2 ^ 64 → length (decimal v) ≤ 20
decimal-room v h = decimal-most v 20 (omega arith) (omega arith)

past-power : (k : ℕ) → k < 10 ^ k
past-power zero = rw (pow-zero 10) (omega arith)
past-power (suc k) = rw (pow-suc 10 k) (omega (arith, past-power k))

-- the fewest digits that hold a number, as the code counts them, are those that it takes
fewest-is : (v k : ℕ) → IsDigitCount v k → decimal_len v ≡ k
unfolding decimal_len first
fewest-is zero k (h, l, f) = by_le k 1 (λ _. 1 ≡ k) (λ g. omega arith) (λ g. absurd (omega (arith, f g, one-le-pow (k - 1) 10 (omega arith))))
fewest-is (suc v) k (h, l, f) =
    let within : k < 1 + suc v = by_le k 1 (λ _. k < 1 + suc v) (λ g. omega arith) (λ g. omega (arith, f g, past-power (k - 1))) in
    first-is (suc v) 1 k (λ x. ltb (suc v) (10 ^ x)) h within
    (λ x a b. leb-fails (suc (suc v)) (10 ^ x) (omega (arith, f (omega arith), pow-le-pow_right {n = 10} (omega arith) {i = x} {j = k - 1} (omega arith))))
    (leb-holds (suc (suc v)) (10 ^ k) l)

-- ---- What is left without the last digits

pub left-one : (v : ℕ) → v / 10 ≡ v / 10 ^ 1
left-one v = ap (λ (d : ℕ). v / d) (sym (pow-suc 10 0 ∙ ap (λ (p : ℕ). p * 10) (pow-zero 10)))

pub left-more : (v k : ℕ) → v / 10 ^ k / 10 ≡ v / 10 ^ (k + 1)
left-more v k = div-div-eq-div-mul v (10 ^ k) 10 ∙ ap (λ (d : ℕ). v / d) (sym (pow-suc 10 k) ∙ ap (λ (j : ℕ). 10 ^ j) (sym (add-one k)))

-- where something is left, so many digits do not hold it; where nothing is, they do
pub some-left : (v k : ℕ) → 0 < v / 10 ^ k → 10 ^ k ≤ v
some-left v k h =
    let p : 1 * 10 ^ k ≤ v = (le-div_iff_mul-le (one-le-pow k 10 (omega arith))).0 h in
    omega arith

pub none-left : (v k : ℕ) → v / 10 ^ k < 1 → v < 10 ^ k
none-left v k h =
    let p : v < 1 * 10 ^ k = (div-lt_iff_lt-mul (one-le-pow k 10 (omega arith))).0 h in
    omega arith

-- the last digit by itself
spell_last : (k v : ℕ) → v < 10 ^ suc k → spell 10 (replicate (suc k) plain) v ≡ spell 10 (replicate k plain) (v / 10) ++ (v % 10 ∷ [])
spell_last k v l =
    let e : replicate (suc k) plain ≡ replicate k plain ++ (plain ∷ []) =
    sym (replicate-append-replicate k 1 plain ∙ ap (λ (n : ℕ). replicate n plain) (add-one k)) in
    let z : 0 + v % 10 ≡ v % 10 = omega arith in
    let some : 0 < span 10 (replicate k plain) = rw (span-plain 10 k) (one-le-pow k 10 (omega arith)) in
    rw e (spell-snoc 10 (replicate k plain) plain v (omega arith) some (rw (← e, span-plain 10 (suc k)) l) ∙ rw z)

spell-none : (v : ℕ) → spell 10 [] v ≡ []
unfolding spell
spell-none v = refl

digits-spell : (k v : ℕ) → v < 10 ^ k → last_digits k v ≡ map (λ d. zero_char + d) (spell 10 (replicate k plain) v)
digits-spell zero v l = rw (spell-none v)
digits-spell (suc k) v l =
    let b : v < 10 ^ k * 10 = rw (← pow-suc 10 k) l in
    rw (spell_last k v l, map-append, digits-spell k (v / 10) ((div-lt_iff_lt-mul (omega arith)).1 b))

pub digits_decimal : (v k : ℕ) → IsDigitCount v k → last_digits k v ≡ decimal v
unfolding decimal
digits_decimal v k (h, l, f) = rw (fewest-is v k (h, l, f)) (digits-spell k v l)

pub count-decimal : (v k : ℕ) → IsDigitCount v k → k ≡ length (decimal v)
count-decimal v k d = sym (length-decimal v ∙ fewest-is v k d)
