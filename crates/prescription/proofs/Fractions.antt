-- What a float is worth in d-ths: the count by value (`count_of`) and the float of a count (`fraction`) undo each other, and sums, negations, products and
-- quotients of such floats are exact. `Worth d x c` says that x is c / d, minus zero left out. Assumes nothing.
use Rattle.std.proofs.Common.{◌≡◌, ℕ, zero, suc, ◌+◌, ◌-◌, ◌*◌, ◌/◌, ◌%◌, ◌^◌, ◌<◌, ◌≤◌, Bool, true, false, not, ◌&&◌, T, eqb, ltb, leb, ℤ, pos, negsuc, nat_abs, sym, refl, ap, ◌∙◌, subst, true≢false, lt_of_lt_of_le, add-zero, lt_irrefl, zero-lt-suc, mul_assoc, mul-pos, one-mul, pow-suc, div-add-mod', zero-mul, mul-one, mul_right_comm, mul-div_cancel, mul_left_comm, arith, eqb→eq, pow_pos, pow_mono, pow-add, shl_lt}
use mathlib.Core.Bool.{false≢true}
use mathlib.Core.Option.{none, some, none-ne-some}
use native.Mathlib.Nat.{mul-mod_left}
use native.Mathlib.Nat.{eq_of_mul-eq-mul_right, pow-succ'}
use lib.Ieee.{Float, nan, inf, fin, Format, binary64, prec, emax, low, up, down, round, fits}
use lib.Ieee.Fits.{and_l, and_r, up_pos, down_pos, round-fits}
use lib.Ieee.Exact.{HasValue, round_exact}
use Rattle.refusals.specs.Refusals.{must}
use Rattle.combinatorics.proofs.Cases.{eqb-other}
use Rattle.prescription.specs.Fractions.{is_negative, signed, is_minus_zero, fraction, count_of}

-- x is c / d, and no minus zero
abbrev pub Worth : ℕ → Float → ℤ → Type 0
Worth d x c = HasValue x (is_negative c) (nat_abs c) d

-- ---- Counting

whole-quotient : (x d : ℕ) → x % d ≡ 0 → x ≡ x / d * d
whole-quotient x d h = sym (div-add-mod' x d) ∙ ap (λ (r : ℕ). x / d * d + r) h ∙ add-zero (x / d * d)

-- of a float with a value that is not 0
m-above : (m : ℕ) (e : ℤ) (d : ℕ) → (eqb m 0 ≡ true → ⊥) → 0 < d → 0 < m * up e * d
m-above zero e d n p = absurd (n refl)
m-above (suc m) e d n p = mul-pos (mul-pos (zero-lt-suc m) (up_pos e)) p

signed-worth : (d : ℕ) (s : Bool) (m : ℕ) (e : ℤ) (q : ℕ) → 0 < d → m * up e * d ≡ q * down e → T (not (is_minus_zero s m)) → Worth d (fin s m e) (signed s q)
signed-worth d false m e q p h n = (refl, h)
signed-worth d true m e zero p h n =
    let above : 0 < m * up e * d = m-above m e d (λ (z : eqb m 0 ≡ true). subst (λ (b : Bool). T (not b)) z n) p in
    absurd (lt_irrefl 0 (subst (λ (x : ℕ). 0 < x) (h ∙ zero-mul (down e)) above))
signed-worth d true m e (suc q) p h n = (refl, h)

pub worth-of-count : (d : ℕ) (x : Float) (c : ℤ) → 0 < d → count_of d x ≡ some c → Worth d x c
unfolding count_of
worth-of-count d nan c p h = none-ne-some c h
worth-of-count d (inf s) c p h = none-ne-some c h
worth-of-count d (fin s m e) c p h = go (eqb (m * up e * d % down e) 0 && not (is_minus_zero s m)) (λ t. t) h
  where
    go : (b : Bool) → (T b → T (eqb (m * up e * d % down e) 0 && not (is_minus_zero s m))) → must b none (some (signed s (m * up e * d / down e))) ≡ some c
        → Worth d (fin s m e) c
    go false t h = absurd (none-ne-some c h)
    go true t h =
        let is : signed s (m * up e * d / down e) ≡ c = cc in
        subst (λ (z : ℤ). Worth d (fin s m e) z) is
        (signed-worth d s m e (m * up e * d / down e) p
        (whole-quotient (m * up e * d) (down e) (eqb→eq (m * up e * d % down e) 0 (and_l (eqb (m * up e * d % down e) 0) (not (is_minus_zero s m)) (t tt))))
        (and_r (eqb (m * up e * d % down e) 0) (not (is_minus_zero s m)) (t tt)))

worth-counts : (d : ℕ) (s : Bool) (m : ℕ) (e : ℤ) (q : ℕ) → m * up e * d ≡ q * down e → is_minus_zero s m ≡ false → count_of d (fin s m e) ≡ some (signed s q)
unfolding count_of
worth-counts d s m e q h n =
    ap (λ (x : ℕ). must (eqb (x % down e) 0 && not (is_minus_zero s m)) none (some (signed s (x / down e)))) h
    ∙ ap (λ (x : ℕ). must (eqb x 0 && not (is_minus_zero s m)) none (some (signed s (q * down e / down e)))) (mul-mod_left q (down e))
    ∙ ap (λ (x : ℕ). must (true && not (is_minus_zero s m)) none (some (signed s x))) (mul-div_cancel q (down_pos e))
    ∙ ap (λ (b : Bool). must (true && not b) none (some (signed s q))) n

not-0 : (m : ℕ) (e : ℤ) (d q : ℕ) → m * up e * d ≡ suc q * down e → eqb m 0 ≡ false
not-0 zero e d q h = absurd (lt_irrefl 0
    (subst (λ (x : ℕ). 0 < x) (sym h ∙ ap (λ (x : ℕ). x * d) (zero-mul (up e)) ∙ zero-mul d) (mul-pos (zero-lt-suc q) (down_pos e))))
not-0 (suc m) e d q h = eqb-other (suc m) 0 (λ (z : suc m ≡ 0). lt_irrefl 0 (subst (λ (x : ℕ). 0 < x) z (zero-lt-suc m)))

pub count-of-worth : (d : ℕ) (x : Float) (c : ℤ) → Worth d x c → count_of d x ≡ some c
count-of-worth d (fin true m e) (pos n) w = absurd (true≢false w.0)
count-of-worth d (fin false m e) (pos n) w = worth-counts d false m e n w.1 refl
count-of-worth d (fin true m e) (negsuc n) w = worth-counts d true m e (suc n) w.1 (not-0 m e d n w.1)
count-of-worth d (fin false m e) (negsuc n) w = absurd (false≢true w.0)
count-of-worth d nan c w = absurd w
count-of-worth d (inf s) c w = absurd w

-- ---- The float of a count is exact, for a power of two and at most 53 binary digits

below-low : (k : ℕ) → k ≤ 1074 → 1074 - k + k ≡ 1074
below-low k h = omega arith

pub round-worth : (k : ℕ) (s : Bool) (n : ℕ) → k ≤ 1074 → n < 2 ^ 53 → HasValue (round binary64 s n (2 ^ k)) s n (2 ^ k)
round-worth k s n h l =
    round_exact binary64 s n (2 ^ k) n (1074 - k) (pow_pos k) l
    (lt_of_lt_of_le (shl_lt 53 (1074 - k) l) (pow_mono (fit k)))
    (ap (λ (x : ℕ). n * 2 ^ x) (sym (below-low k h)) ∙ ap (λ (x : ℕ). n * x) (pow-add 2 (1074 - k) k) ∙ sym (mul_assoc n (2 ^ (1074 - k)) (2 ^ k)))
  where
    fit : (k : ℕ) → 53 + (1074 - k) ≤ 1074 + 1024
    fit k = omega arith

pub fraction-worth : (k : ℕ) (c : ℤ) → k ≤ 1074 → nat_abs c < 2 ^ 53 → Worth (2 ^ k) (fraction (2 ^ k) c) c
unfolding fraction
fraction-worth k c h l = round-worth k (is_negative c) (nat_abs c) h l

pub count-fraction : (k : ℕ) (c : ℤ) → k ≤ 1074 → nat_abs c < 2 ^ 53 → count_of (2 ^ k) (fraction (2 ^ k) c) ≡ some c
count-fraction k c h l = count-of-worth (2 ^ k) (fraction (2 ^ k) c) c (fraction-worth k c h l)

-- ---- A float that fits is written in one way

even_odd : (m t : ℕ) → m % 2 ≡ 1 → m ≡ 2 * t → ⊥
even_odd m t o h = omega arith

odd_pow : (m n a b : ℕ) → m % 2 ≡ 1 → n % 2 ≡ 1 → m * 2 ^ a ≡ n * 2 ^ b → (m ≡ n) × (a ≡ b)
odd_pow m n zero zero o p h = (sym (mul-one m) ∙ h ∙ mul-one n, refl)
odd_pow m n zero (suc b) o p h = absurd (even_odd m (n * 2 ^ b) o (sym (mul-one m) ∙ h ∙ ap (λ (x : ℕ). n * x) (pow-succ' 2 b) ∙ mul_left_comm n 2 (2 ^ b)))
odd_pow m n (suc a) zero o p h = absurd
    (even_odd n (m * 2 ^ a) p (sym (mul-one n) ∙ sym h ∙ ap (λ (x : ℕ). m * x) (pow-succ' 2 a) ∙ mul_left_comm m 2 (2 ^ a)))
odd_pow m n (suc a) (suc b) o p h =
    let r = odd_pow m n a b o p (eq_of_mul-eq-mul_right 2 (zero-lt-suc 1) (m * 2 ^ a) (n * 2 ^ b)
    (mul_assoc m (2 ^ a) 2 ∙ ap (λ (x : ℕ). m * x) (sym (pow-suc 2 a)) ∙ h ∙ ap (λ (x : ℕ). n * x) (pow-suc 2 b) ∙ sym (mul_assoc n (2 ^ b) 2))) in
    (r.0, ap suc r.1)

-- the powers of two on either side
ups : ℤ → ℤ → ℕ
ups (pos a) (pos b) = a
ups (pos a) (negsuc b) = a + suc b
ups (negsuc a) (pos b) = 0
ups (negsuc a) (negsuc b) = suc b

cross : (m : ℕ) (e g : ℤ) → m * up e * down g ≡ m * 2 ^ ups e g
unfolding ups
cross m (pos a) (pos b) = mul-one (m * 2 ^ a)
cross m (pos a) (negsuc b) = mul_assoc m (2 ^ a) (2 ^ suc b) ∙ ap (λ (x : ℕ). m * x) (sym (pow-add 2 a (suc b)))
cross m (negsuc a) (pos b) = mul-one (m * 1)
cross m (negsuc a) (negsuc b) = ap (λ (x : ℕ). x * 2 ^ suc b) (mul-one m)

same-exponent : (e g : ℤ) → ups e g ≡ ups g e → e ≡ g
unfolding ups
same-exponent (pos a) (pos b) h = ap pos h
same-exponent (pos a) (negsuc b) h = absurd (apart a b h)
  where
    apart : (a b : ℕ) → a + suc b ≡ 0 → ⊥
    apart a b h = omega arith
same-exponent (negsuc a) (pos b) h = absurd (apart b a h)
  where
    apart : (a b : ℕ) → 0 ≡ a + suc b → ⊥
    apart a b h = omega arith
same-exponent (negsuc a) (negsuc b) h = ap negsuc (less b a h)
  where
    less : (a b : ℕ) → suc a ≡ suc b → b ≡ a
    less a b h = omega arith

-- of a value that fits: m is odd, or it is 0 with the exponent 0
is_odd : (f : Format) (s : Bool) (m : ℕ) (e : ℤ) → T (fits f (fin s (suc m) e)) → suc m % 2 ≡ 1
unfolding fits
is_odd f s m e t =
    eqb→eq (suc m % 2) 1 (and_l (eqb (suc m % 2) 1) (ltb (suc m) (2 ^ prec f))
    (and_l (eqb (suc m % 2) 1 && ltb (suc m) (2 ^ prec f)) (leb (down e) (2 ^ low f))
    (and_l (eqb (suc m % 2) 1 && ltb (suc m) (2 ^ prec f) && leb (down e) (2 ^ low f)) (ltb (suc m * up e) (2 ^ suc (emax f) * down e)) t)))

two_up : (p : ℕ) → 0 < p → 2 * p ≡ 1 → ⊥
two_up p h e = omega arith

zero_exponent : (f : Format) (s : Bool) (e : ℤ) → T (fits f (fin s zero e)) → e ≡ pos 0
unfolding fits
zero_exponent f s e t = flat e (eqb→eq (up e * down e) 1 t)
  where
    flat : (e : ℤ) → up e * down e ≡ 1 → e ≡ pos 0
    flat (pos zero) h = refl
    flat (pos (suc k)) h = absurd (two_up (2 ^ k) (pow_pos k) (sym (pow-succ' 2 k) ∙ sym (mul-one (2 ^ suc k)) ∙ h))
    flat (negsuc k) h = absurd (two_up (2 ^ k) (pow_pos k) (sym (pow-succ' 2 k) ∙ sym (one-mul (2 ^ suc k)) ∙ h))

-- two values a / d are of one size
same_size : (x de y dg a d : ℕ) → 0 < d → x * d ≡ a * de → y * d ≡ a * dg → x * dg ≡ y * de
same_size x de y dg a d p h k =
    eq_of_mul-eq-mul_right d p (x * dg) (y * de)
    (mul_right_comm x dg d ∙ ap (λ (z : ℕ). z * dg) h ∙ mul_right_comm a de dg ∙ ap (λ (z : ℕ). z * de) (sym k) ∙ mul_right_comm y d de)

pub value-unique : (f : Format) (x y : Float) (s : Bool) (a d : ℕ) → 0 < d → T (fits f x) → T (fits f y) → HasValue x s a d → HasValue y s a d → x ≡ y
value-unique f nan y s a d p u v w z = absurd w
value-unique f (inf t) y s a d p u v w z = absurd w
value-unique f (fin t m e) nan s a d p u v w z = absurd z
value-unique f (fin t m e) (inf r) s a d p u v w z = absurd z
value-unique f (fin t m e) (fin r n g) s a d p u v w z =
    go m n u v (same_size (m * up e) (down e) (n * up g) (down g) a d p w.1 z.1)
  where
    go : (m n : ℕ) → T (fits f (fin t m e)) → T (fits f (fin r n g)) → m * up e * down g ≡ n * up g * down e → fin t m e ≡ fin r n g
    go zero zero u v h = λ i. fin ((w.0 ∙ sym z.0) i) zero ((zero_exponent f t e u ∙ sym (zero_exponent f r g v)) i)
    go zero (suc n) u v h =
        absurd (lt_irrefl 0 (subst (λ (x : ℕ). 0 < x) (sym h ∙ ap (λ (x : ℕ). x * down g) (zero-mul (up e)) ∙ zero-mul (down g))
        (mul-pos (mul-pos (zero-lt-suc n) (up_pos g)) (down_pos e))))
    go (suc m) zero u v h =
        absurd (lt_irrefl 0 (subst (λ (x : ℕ). 0 < x) (h ∙ ap (λ (x : ℕ). x * down e) (zero-mul (up g)) ∙ zero-mul (down e))
        (mul-pos (mul-pos (zero-lt-suc m) (up_pos e)) (down_pos g))))
    go (suc m) (suc n) u v h =
        let r = odd_pow (suc m) (suc n) (ups e g) (ups g e) (is_odd f t m e u) (is_odd f r n g v) (sym (cross (suc m) e g) ∙ h ∙ cross (suc n) g e) in
        λ i. fin ((w.0 ∙ sym z.0) i) (r.0 i) (same-exponent e g r.1 i)

-- a float in memory that is c / d is the float of that count
pub fraction-of-worth : (k : ℕ) (x : Float) (c : ℤ) → k ≤ 1074 → nat_abs c < 2 ^ 53 → T (fits binary64 x) → Worth (2 ^ k) x c → x ≡ fraction (2 ^ k) c
unfolding fraction
fraction-of-worth k x c h l t w =
    value-unique binary64 x (round binary64 (is_negative c) (nat_abs c) (2 ^ k)) (is_negative c) (nat_abs c) (2 ^ k) (pow_pos k) t
    (round-fits binary64 (is_negative c) (nat_abs c) (2 ^ k)) w (round-worth k (is_negative c) (nat_abs c) h l)
