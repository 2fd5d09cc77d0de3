-- How the code counts the parts that a float is: by a product that is cut to a whole number, and the bits of that number's float. Assumes nothing.
use Rattle.std.proofs.Common.{◌≡◌, ℕ, zero, suc, ◌+◌, ◌-◌, ◌*◌, ◌/◌, ◌%◌, ◌^◌, ◌<◌, ◌≤◌, min, Bool, true, false, not, ◌&&◌, T, eqb, ltb, ℤ, pos, negsuc, neg_ℤ, nat_abs, sym, refl, ap, ◌∙◌, subst, true≢false, lt_of_lt_of_le, lt_irrefl, mul-le-mul_right, zero-lt-suc, mul_assoc, div-lt_iff_lt-mul, mul-lt-mul_of_pos_right, mul-pos, zero-mul, mul-one, arith, lit<, lit≤, ltb→lt, lt→ltb, pow_pos, ltb-true, lt-ltb}
use mathlib.Core.Bool.{false≢true}
use mathlib.Core.Option.{Option, none, some}
use lib.Pow.{pow-lt}
use lib.Ieee.{Float, unlike, nan, inf, fin, binary64, up, down, round, neg, mul, div, lt, of_int, to_unsigned, is_nan, fits, to_bits, of_bits}
use lib.Ieee.Fits.{up_pos, down_pos, round-fits}
use lib.Ieee.Bits.{of_bits-to_bits}
use lib.Ieee.Exact.{HasValue}
use lib.Ieee.Scale.{round_same}
use Rattle.refusals.specs.Refusals.{must}
use Rattle.combinatorics.proofs.Cases.{eqb-other}
use Rattle.prescription.specs.Fractions.{is_negative, fraction, count_of}
use Rattle.prescription.specs.Stored.{bits_of}
use Rattle.prescription.specs.Counts.{PowerOfTwo, limit, size_in, negated_as, bits_in}
use Rattle.prescription.proofs.Fractions.{Worth, worth-of-count, round-worth, fraction-worth, count-fraction, fraction-of-worth}
use Rattle.prescription.proofs.Arithmetic.{by-lt, mul-worth, div-worth, truncated}

-- ---- Whole numbers as floats

pub whole-worth : (c : ℤ) → nat_abs c < 2 ^ 53 → HasValue (of_int binary64 c) (is_negative c) (nat_abs c) 1
unfolding of_int
whole-worth (pos n) h = round-worth 0 false n (lit≤ tt) h
whole-worth (negsuc n) h = round-worth 0 true (suc n) (lit≤ tt) h

sign-stays : (s : Bool) → unlike s false ≡ s
sign-stays true = refl
sign-stays false = refl

pub quotient : (c : ℤ) (d : ℕ) (y : Float) → nat_abs c < 2 ^ 53 → 0 < d → HasValue y false d 1 → div binary64 (of_int binary64 c) y ≡ fraction d c
unfolding fraction
quotient c d y h p w =
    div-worth (of_int binary64 c) y (is_negative c) false (nat_abs c) d 1 1 (zero-lt-suc 0) (zero-lt-suc 0) p (whole-worth c h) w
    ∙ ap (λ (z : ℕ). round binary64 (unlike (is_negative c) false) z (d * 1)) (mul-one (nat_abs c))
    ∙ ap (λ (z : ℕ). round binary64 (unlike (is_negative c) false) (nat_abs c) z) (mul-one d)
    ∙ ap (λ (s : Bool). round binary64 s (nat_abs c) d) (sign-stays (is_negative c))

pub product : (n d : ℕ) (x y : Float) → 0 < d → HasValue x false n d → HasValue y false d 1 → mul binary64 x y ≡ fraction 1 (pos n)
unfolding fraction
product n d x y p v w =
    mul-worth x y false false n d d 1 p (zero-lt-suc 0) v w
    ∙ round_same binary64 false (n * d) (d * 1) n 1 (mul-pos p (zero-lt-suc 0)) (zero-lt-suc 0) (mul_assoc n d 1)

-- ---- The tests

-- −1, 32768 and 2^64
abbrev pub minus_one : Float
minus_one = fin true 1 (pos 0)

abbrev pub reach : Float
reach = fin false 1 (pos 15)

abbrev pub reach64 : Float
reach64 = fin false 1 (pos 64)

above-0 : (a b : ℕ) → 0 < a → 0 < a + b
above-0 a b h = omega arith

pub above_minus_one : (y : Float) (n : ℕ) → HasValue y false n 1 → lt minus_one y ≡ true
unfolding lt
above_minus_one nan n v = absurd v
above_minus_one (inf s) n v = absurd v
above_minus_one (fin true m e) n v = absurd (true≢false v.0)
above_minus_one (fin false m e) n v = lt-ltb 0 (1 * down e + m * up e * 1) (above-0 (1 * down e) (m * up e * 1) (mul-pos (zero-lt-suc 0) (down_pos e)))

pub below-reach : (y : Float) (n : ℕ) → HasValue y false n 1 → n < limit → lt y reach ≡ true
unfolding lt
below-reach nan n v h = absurd v
below-reach (inf s) n v h = absurd v
below-reach (fin true m e) n v h = absurd (true≢false v.0)
below-reach (fin false m e) n v h = lt-ltb (m * up e * 1) (32768 * down e)
    (subst (λ (z : ℕ). z < 32768 * down e) (sym v.1) (mul-lt-mul_of_pos_right h (down_pos e)))

pub below_64 : (y : Float) → T (lt y reach) → T (lt y reach64)
unfolding lt
below_64 nan t = t
below_64 (inf s) t = t
below_64 (fin true m e) t = lt→ltb 0 (m * up e * 1 + 2 ^ 64 * down e) (other (m * up e * 1) (2 ^ 64 * down e) (mul-pos (lit< tt) (down_pos e)))
  where
    other : (a b : ℕ) → 0 < b → 0 < a + b
    other a b h = omega arith
below_64 (fin false m e) t =
    lt→ltb (m * up e * 1) (2 ^ 64 * down e) (lt_of_lt_of_le (ltb→lt (m * up e * 1) (32768 * down e) t) (mul-le-mul_right (down e) (lit≤ tt)))

pub cut_small : (y : Float) → T (lt y reach) → to_unsigned 64 y < limit
unfolding lt to_unsigned
cut_small nan t = absurd t
cut_small (inf true) t = lit< tt
cut_small (inf false) t = absurd t
cut_small (fin true m e) t = lit< tt
cut_small (fin false m e) t =
    least (m * up e / down e) ((div-lt_iff_lt-mul (down_pos e)).1
    (subst (λ (z : ℕ). z < 32768 * down e) (mul-one (m * up e)) (ltb→lt (m * up e * 1) (32768 * down e) t)))
  where
    least : (n : ℕ) → n < 32768 → min n (2 ^ 64 - 1) < 32768
    least n h = omega arith

-- ---- No NaN

pub value-no-nan : (x : Float) (s : Bool) (a d : ℕ) → HasValue x s a d → T (not (is_nan x))
unfolding is_nan
value-no-nan nan s a d v = absurd v
value-no-nan (inf t) s a d v = tt
value-no-nan (fin t m e) s a d v = tt

pub product-no-nan : (x y : Float) → T (lt minus_one (mul binary64 x y)) → T (not (is_nan x))
unfolding is_nan lt mul
product-no-nan nan y t = absurd t
product-no-nan (inf s) y t = tt
product-no-nan (fin s m e) y t = tt

-- ---- The answer

same_bits : (x y : Float) → T (fits binary64 x) → T (fits binary64 y) → to_bits binary64 x ≡ to_bits binary64 y → x ≡ y
same_bits x y u v h = sym (of_bits-to_bits binary64 x u) ∙ ap (of_bits binary64) h ∙ of_bits-to_bits binary64 y v

wide : (n : ℕ) → n < limit → n < 2 ^ 53
wide n h = omega arith

-- where no count in reach is possible
none_found : (o : Option ℤ) → ((n : ℕ) → o ≡ some (pos n) → n < limit → ⊥) → none ≡ size_in o
none_found none h = refl
none_found (some (negsuc n)) h = refl
none_found (some (pos n)) h = by-lt n limit (λ b. none ≡ must b none (some n)) (λ l. absurd (h n refl l)) (λ l. refl)

pub holds : {b : Bool} → b ≡ true → T b
holds e = subst T (sym e) tt

fraction-fits : (d : ℕ) (c : ℤ) → T (fits binary64 (fraction d c))
unfolding fraction
fraction-fits d c = round-fits binary64 (is_negative c) (nat_abs c) d

wide64 : (n : ℕ) → n < limit → n < 2 ^ 64
wide64 n h = omega arith

module _ (d : ℕ) (p : PowerOfTwo d) where
  pub d-above : 0 < d
  d-above = subst (λ (z : ℕ). 0 < z) (sym p.is) (pow_pos p.exponent)

  k-small : p.exponent ≤ 1074
  k-small = lower p.exponent p.small
    where
      lower : (k : ℕ) → k ≤ 15 → k ≤ 1074
      lower k h = omega arith

  pub counts-back : (c : ℤ) → nat_abs c < 2 ^ 53 → count_of d (fraction d c) ≡ some c
  counts-back c h = subst (λ (z : ℕ). count_of z (fraction z c) ≡ some c) (sym p.is) (count-fraction p.exponent c k-small h)

  pub worth-back : (c : ℤ) → nat_abs c < 2 ^ 53 → Worth d (fraction d c) c
  worth-back c h = subst (λ (z : ℕ). Worth z (fraction z c) c) (sym p.is) (fraction-worth p.exponent c k-small h)

  pub is-fraction : (x : Float) (c : ℤ) → nat_abs c < 2 ^ 53 → T (fits binary64 x) → count_of d x ≡ some c → x ≡ fraction d c
  is-fraction x c h t e =
      let w : Worth d x c = worth-of-count d x c d-above e in
      subst (λ (z : ℕ). x ≡ fraction z c) (sym p.is) (fraction-of-worth p.exponent x c k-small h t (subst (λ (z : ℕ). Worth z x c) p.is w))

  d-wide : d < 2 ^ 53
  d-wide = subst (λ (z : ℕ). z < 2 ^ 53) (sym p.is) (pow-lt (lower p.exponent p.small))
    where
      lower : (k : ℕ) → k ≤ 15 → k < 53
      lower k h = omega arith

  -- d as a float
  parts : Float
  parts = of_int binary64 (pos d)

  parts-worth : HasValue parts false d 1
  unfolding parts
  parts-worth = whole-worth (pos d) d-wide

  pub quotient_is : (n : ℕ) → n < limit → div binary64 (of_int binary64 (pos n)) (of_int binary64 (pos d)) ≡ fraction d (pos n)
  unfolding parts
  quotient_is n h = quotient (pos n) d parts (wide n h) d-above parts-worth

  pub quotient-no-nan : (n : ℕ) → n < limit → T (not (is_nan (div binary64 (of_int binary64 (pos n)) (of_int binary64 (pos d)))))
  quotient-no-nan n h = subst (λ (z : Float). T (not (is_nan z))) (sym (quotient_is n h))
      (value-no-nan (fraction d (pos n)) false n d (worth-back (pos n) (wide n h)))

  pub agrees : (x : Float) (n : ℕ) → n < limit → fits binary64 x ≡ true
      → to_bits binary64 (div binary64 (of_int binary64 (pos n)) (of_int binary64 (pos d))) ≡ to_bits binary64 x
      → some n ≡ size_in (count_of d x)
  agrees x n h t e =
      let is : fraction d (pos n) ≡ x =
      same_bits (fraction d (pos n)) x (fraction-fits d (pos n)) (holds t) (ap (to_bits binary64) (sym (quotient_is n h)) ∙ e) in
      ap (λ (b : Bool). must b none (some n)) (sym (lt-ltb n limit h))
      ∙ ap size_in (sym (ap (count_of d) (sym is) ∙ counts-back (pos n) (wide n h)))

  -- the product of a float that is n parts is n itself
  product-worth : (x : Float) (n : ℕ) → n < limit → count_of d x ≡ some (pos n) → HasValue (mul binary64 x (of_int binary64 (pos d))) false n 1
  unfolding parts
  product-worth x n h e =
      subst (λ (z : Float). HasValue z false n 1) (sym (product n d x parts d-above (worth-of-count d x (pos n) d-above e) parts-worth))
      (fraction-worth 0 (pos n) (lit≤ tt) (wide n h))

  pub differs : (x : Float) (n : ℕ) → fits binary64 x ≡ true → n ≡ to_unsigned 64 (mul binary64 x (of_int binary64 (pos d)))
      → (to_bits binary64 (div binary64 (of_int binary64 (pos n)) (of_int binary64 (pos d))) ≡ to_bits binary64 x → ⊥) → none ≡ size_in (count_of d x)
  differs x n t e f = none_found (count_of d x) (λ m is h.
      let same : n ≡ m = e ∙ truncated (mul binary64 x (of_int binary64 (pos d))) m (product-worth x m h is) (wide64 m h) in
      f (ap (to_bits binary64) (ap (λ (z : ℕ). div binary64 (of_int binary64 (pos z)) (of_int binary64 (pos d))) same ∙ quotient_is m h
      ∙ sym (is-fraction x (pos m) (wide m h) (holds t) is))))

  pub too_large : (x : Float) → lt (mul binary64 x (of_int binary64 (pos d))) reach ≡ false → none ≡ size_in (count_of d x)
  too_large x f = none_found (count_of d x)
      (λ m is h. true≢false (sym (below-reach (mul binary64 x (of_int binary64 (pos d))) m (product-worth x m h is) h) ∙ f))

  pub too_small : (x : Float) → lt minus_one (mul binary64 x (of_int binary64 (pos d))) ≡ false → none ≡ size_in (count_of d x)
  too_small x f = none_found (count_of d x) (λ m is h. true≢false (sym (above_minus_one (mul binary64 x (of_int binary64 (pos d))) m (product-worth x m h is))
      ∙ f))

-- ---- Either sign

abbrev pub zero_float : Float
zero_float = fin false 0 (pos 0)

abbrev pub eight_float : Float
eight_float = fin false 1 (pos 3)

abbrev pub two_float : Float
two_float = fin false 1 (pos 1)

pub two-worth : HasValue two_float false 2 1
two-worth = (refl, refl)

pub eight-worth : HasValue eight_float false 8 1
eight-worth = (refl, refl)

no_less : (a b : ℕ) → ltb a (0 * b) ≡ true → ⊥
no_less a b h = never a (subst (λ (z : ℕ). a < z) (zero-mul b) (ltb-true a (0 * b) h))
  where
    never : (a : ℕ) → a < 0 → ⊥
    never a h = omega arith

abs_neg : (n : ℕ) → nat_abs (neg_ℤ (pos n)) ≡ n
abs_neg zero = refl
abs_neg (suc n) = refl

negated-bits : (q : ℕ) → q < limit → (65536 - q) % 65536 ≡ bits_of (neg_ℤ (pos q))
negated-bits zero h = refl
negated-bits (suc q) h = omega arith

turn : (q : ℕ) (b : Bool) → negated_as (size_in (must b none (some (pos q)))) ≡ bits_in (must b none (some (neg_ℤ (pos q))))
turn q false = refl
turn q true =
    by-lt q limit (λ b. negated_as (must b none (some q)) ≡ must b none (some (bits_of (neg_ℤ (pos q))))) (λ l. ap some (negated-bits q l)) (λ l. refl)
    ∙ ap (λ (z : ℕ). must (ltb z limit) none (some (bits_of (neg_ℤ (pos q))))) (sym (abs_neg q))

pub negative-count : (d : ℕ) (x : Float) → lt x zero_float ≡ true → negated_as (size_in (count_of d (neg x))) ≡ bits_in (count_of d x)
unfolding lt neg count_of
negative-count d nan h = absurd (false≢true h)
negative-count d (inf true) h = refl
negative-count d (inf false) h = refl
negative-count d (fin false m e) h = absurd (no_less (m * up e * 1) (down e) h)
negative-count d (fin true zero e) h = absurd (nothing (ltb-true 0 (0 * up e * 1 + 0 * down e) h))
  where
    nothing : 0 < 0 * up e * 1 + 0 * down e → ⊥
    nothing k = lt_irrefl 0 (subst (λ (z : ℕ). 0 < z) (ap (λ (z : ℕ). z * 1 + 0 * down e) (zero-mul (up e)) ∙ ap (λ (z : ℕ). 0 + z) (zero-mul (down e))) k)
negative-count d (fin true (suc m) e) h =
    turn (suc m * up e * d / down e) (eqb (suc m * up e * d % down e) 0 && true)
    ∙ ap (λ (b : Bool). bits_in (must (eqb (suc m * up e * d % down e) 0 && not b) none (some (neg_ℤ (pos (suc m * up e * d / down e))))))
    (sym (eqb-other (suc m) 0 above))
  where
    above : suc m ≡ 0 → ⊥
    above z = lt_irrefl 0 (subst (λ (x : ℕ). 0 < x) z (zero-lt-suc m))

worth-negative : (d : ℕ) (x : Float) (n : ℕ) → Worth d x (negsuc n) → lt x zero_float ≡ true
unfolding lt
worth-negative d nan n w = absurd w
worth-negative d (inf s) n w = absurd w
worth-negative d (fin false m e) n w = absurd (false≢true w.0)
worth-negative d (fin true zero e) n w = absurd
    (lt_irrefl 0 (subst (λ (z : ℕ). 0 < z) (sym w.1 ∙ ap (λ (z : ℕ). z * d) (zero-mul (up e)) ∙ zero-mul d) (mul-pos (zero-lt-suc n) (down_pos e))))
worth-negative d (fin true (suc m) e) n w = lt-ltb 0 (suc m * up e * 1 + 0 * down e)
    (above-0 (suc m * up e * 1) (0 * down e) (mul-pos (mul-pos (zero-lt-suc m) (up_pos e)) (zero-lt-suc 0)))

pub other-count : (d : ℕ) (x : Float) → 0 < d → lt x zero_float ≡ false → size_in (count_of d x) ≡ bits_in (count_of d x)
other-count d x p h = go (count_of d x) refl
  where
    go : (o : Option ℤ) → count_of d x ≡ o → size_in o ≡ bits_in o
    go none e = refl
    go (some (pos n)) e = refl
    go (some (negsuc n)) e = absurd (true≢false (sym (worth-negative d x n (worth-of-count d x (negsuc n) p e)) ∙ h))
