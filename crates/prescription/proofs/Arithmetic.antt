-- Floats that are exact fractions: their sum, negation, product and quotient, in the same words. Assumes nothing.
use Rattle.std.proofs.Common.{◌≡◌, ℕ, zero, suc, ◌+◌, ◌-◌, ◌*◌, ◌/◌, ◌^◌, ◌<◌, ◌≤◌, min, Bool, true, false, cond, not, ◌&&◌, eqb, ltb, ℤ, pos, negsuc, ◌+ℤ◌, neg_ℤ, nat_abs, sym, refl, ap, ◌∙◌, subst, true≢false, le_of_lt, lt_irrefl, mul-le-mul_right, zero-lt-suc, mul_assoc, mul_comm, add-mul, add-sub_of_le, lt_of_mul-lt-mul_right, mul-lt-mul_of_pos_right, mul-pos, zero-mul, mul-one, mul_right_comm, le_of_mul-le-mul_right, mul-div_cancel, mul_left_comm, arith, le-ltb, lt-ltb}
use mathlib.Core.Bool.{beq}
use lib.Ieee.{Float, nan, inf, fin, Format, binary64, prec, emax, low, up, down, unlike, odd, units, round, neg, sum, add, mul, div, to_unsigned}
use lib.Ieee.Fits.{up_pos, down_pos, round_is}
use lib.Ieee.Exact.{HasValue}
use lib.Ieee.Scale.{round_same}
use Rattle.combinatorics.proofs.Cases.{by_le, eqb-other}
use Rattle.prescription.specs.Fractions.{is_negative, fraction}
use Rattle.prescription.proofs.Fractions.{Worth}

pub by-lt : (a b : ℕ) (P : Bool → Type 0) → (a < b → P true) → (b ≤ a → P false) → P (ltb a b)
by-lt a b P y n = by_le (suc a) b P y (λ l. n (omega arith))

-- ---- Sums: x / u is a / d, and y / u is b / d

module _ (x y u a b d : ℕ) (up : 0 < u) (dp : 0 < d) (h : x * d ≡ a * u) (k : y * d ≡ b * u) where
  less : x < y → a < b
  less l = lt_of_mul-lt-mul_right u (subst (λ (z : ℕ). z < b * u) h (subst (λ (z : ℕ). x * d < z) k (mul-lt-mul_of_pos_right l dp)))

  least : x ≤ y → a ≤ b
  least l = le_of_mul-le-mul_right (subst (λ (z : ℕ). z ≤ b * u) h (subst (λ (z : ℕ). x * d ≤ z) k (mul-le-mul_right d l))) up

  total : (x + y) * d ≡ (a + b) * u
  total = add-mul x y d ∙ ap (λ (z : ℕ). z + y * d) h ∙ ap (λ (z : ℕ). a * u + z) k ∙ sym (add-mul a b u)

  difference : x ≤ y → (y - x) * d ≡ (b - a) * u
  difference l =
      let p : x * d + (y - x) * d ≡ y * d = sym (add-mul x (y - x) d) ∙ ap (λ (z : ℕ). z * d) (add-sub_of_le l) in
      let q : a * u + (b - a) * u ≡ b * u = sym (add-mul a (b - a) u) ∙ ap (λ (z : ℕ). z * u) (add-sub_of_le (least l)) in
      omega arith

ltb-same : (x y u a b d : ℕ) → 0 < u → 0 < d → x * d ≡ a * u → y * d ≡ b * u → ltb x y ≡ ltb a b
ltb-same x y u a b d up dp h k =
    by-lt x y (λ t. t ≡ ltb a b) (λ l. sym (lt-ltb a b (less x y u a b d up dp h k l))) (λ l. sym (le-ltb a b (least y x u b a d up dp k h l)))

sum_same : (f : Format) (s t : Bool) (x y u a b d : ℕ) → 0 < u → 0 < d → x * d ≡ a * u → y * d ≡ b * u → sum f s x t y u ≡ sum f s a t b d
unfolding sum
sum_same f s t x y u a b d up dp h k = go (beq s t)
  where
    apart : cond (ltb x y) (round f t (y - x) u) (round f (s && ltb y x) (x - y) u) ≡ cond (ltb a b) (round f t (b - a) d) (round f (s && ltb b a) (a - b) d)
    apart =
        ap (λ (w : Bool). cond (ltb x y) (round f t (y - x) u) (round f (s && w) (x - y) u)) (ltb-same y x u b a d up dp k h)
        ∙ by-lt x y (λ w. cond w (round f t (y - x) u) (round f (s && ltb b a) (x - y) u) ≡ cond (ltb a b) (round f t (b - a) d)
        (round f (s && ltb b a) (a - b) d))
        (λ l. round_same f t (y - x) u (b - a) d up dp (difference x y u a b d up dp h k (le_of_lt l))
        ∙ ap (λ (w : Bool). cond w (round f t (b - a) d) (round f (s && ltb b a) (a - b) d)) (sym (lt-ltb a b (less x y u a b d up dp h k l))))
        (λ l. round_same f (s && ltb b a) (x - y) u (a - b) d up dp (difference y x u b a d up dp k h l)
        ∙ ap (λ (w : Bool). cond w (round f t (b - a) d) (round f (s && ltb b a) (a - b) d)) (sym (le-ltb a b (least y x u b a d up dp k h l))))

    go : (w : Bool) → cond w (round f s (x + y) u) (cond (ltb x y) (round f t (y - x) u) (round f (s && ltb y x) (x - y) u))
        ≡ cond w (round f s (a + b) d) (cond (ltb a b) (round f t (b - a) d) (round f (s && ltb b a) (a - b) d))
    go true = round_same f s (x + y) u (a + b) d up dp (total x y u a b d up dp h k)
    go false = apart

add_same : (x y : Float) (s t : Bool) (a b d : ℕ) → 0 < d → HasValue x s a d → HasValue y t b d → add binary64 x y ≡ sum binary64 s a t b d
unfolding add
add_same nan y s t a b d p v w = absurd v
add_same (inf i) y s t a b d p v w = absurd v
add_same (fin i m e) nan s t a b d p v w = absurd w
add_same (fin i m e) (inf j) s t a b d p v w = absurd w
add_same (fin i m e) (fin j n g) s t a b d p v w =
    ap (λ (z : Bool). sum binary64 z (m * up e * down g) j (n * up g * down e) (down e * down g)) v.0
    ∙ ap (λ (z : Bool). sum binary64 s (m * up e * down g) z (n * up g * down e) (down e * down g)) w.0
    ∙ sum_same binary64 s t (m * up e * down g) (n * up g * down e) (down e * down g) a b d (mul-pos (down_pos e) (down_pos g)) p
    (mul_right_comm (m * up e) (down g) d ∙ ap (λ (z : ℕ). z * down g) v.1 ∙ mul_assoc a (down e) (down g))
    (mul_right_comm (n * up g) (down e) d ∙ ap (λ (z : ℕ). z * down e) w.1 ∙ mul_assoc b (down g) (down e)
    ∙ ap (λ (z : ℕ). b * z) (mul_comm (down g) (down e)))

-- ---- The sum of two counts

under : (a b : ℕ) → a < suc b → suc b - a ≡ suc (suc b - suc a)
under a b h = omega arith

sum-of-counts : (a b : ℤ) (d : ℕ) → sum binary64 (is_negative a) (nat_abs a) (is_negative b) (nat_abs b) d ≡ fraction d (a +ℤ b)
unfolding sum fraction
sum-of-counts (pos a) (pos b) d = refl
sum-of-counts (pos a) (negsuc b) d =
    by-lt a (suc b) (λ w. cond w (round binary64 true (suc b - a) d) (round binary64 false (a - suc b) d)
    ≡ round binary64 (is_negative (cond w (negsuc (suc b - suc a)) (pos (a - suc b)))) (nat_abs (cond w (negsuc (suc b - suc a)) (pos (a - suc b)))) d)
    (λ l. ap (λ (z : ℕ). round binary64 true z d) (under a b l))
    (λ l. refl)
sum-of-counts (negsuc a) (pos b) d =
    by-lt b (suc a) (λ w. cond (ltb (suc a) b) (round binary64 false (b - suc a) d) (round binary64 w (suc a - b) d)
    ≡ round binary64 (is_negative (cond w (negsuc (suc a - suc b)) (pos (b - suc a)))) (nat_abs (cond w (negsuc (suc a - suc b)) (pos (b - suc a)))) d)
    (λ l. ap (λ (w : Bool). cond w (round binary64 false (b - suc a) d) (round binary64 true (suc a - b) d)) (le-ltb (suc a) b (le_of_lt l))
    ∙ ap (λ (z : ℕ). round binary64 true z d) (under b a l))
    (λ l. by-lt (suc a) b (λ w. cond w (round binary64 false (b - suc a) d) (round binary64 false (suc a - b) d) ≡ round binary64 false (b - suc a) d)
    (λ _. refl)
    (λ u. ap (λ (z : ℕ). round binary64 false z d) (level a b l u)))
  where
    level : (a b : ℕ) → suc a ≤ b → b ≤ suc a → suc a - b ≡ b - suc a
    level a b h k = omega arith
sum-of-counts (negsuc a) (negsuc b) d = ap (λ (z : ℕ). round binary64 true z d) (both a b)
  where
    both : (a b : ℕ) → suc a + suc b ≡ suc (suc (a + b))
    both a b = omega arith

-- the sum of a d-ths and b d-ths is exactly a + b of them
pub add-worth : (d : ℕ) (x y : Float) (a b : ℤ) → 0 < d → Worth d x a → Worth d y b → add binary64 x y ≡ fraction d (a +ℤ b)
add-worth d x y a b p v w = add_same x y (is_negative a) (is_negative b) (nat_abs a) (nat_abs b) d p v w ∙ sum-of-counts a b d

-- ---- Negation

neg-units : (f : Format) (s : Bool) (q k : ℕ) → neg (units f s q k) ≡ units f (not s) q k
unfolding neg units odd
neg-units f s q k = go (ltb (q * 2 ^ k) (2 ^ (low f + suc (emax f)))) q
  where
    go : (b : Bool) (q : ℕ) → neg (cond b (odd (suc (prec f)) s q k (low f)) (inf s)) ≡ cond b (odd (suc (prec f)) (not s) q k (low f)) (inf (not s))
    go false q = refl
    go true zero = refl
    go true (suc q) = refl

pub neg-round : (f : Format) (s : Bool) (n d : ℕ) → neg (round f s n d) ≡ round f (not s) n d
neg-round f s n d = ap neg (round_is f s n d) ∙ neg-units f s _ _ ∙ sym (round_is f (not s) n d)

-- but of zero, whose negation is minus zero
pub neg-fraction : (d : ℕ) (c : ℤ) → (nat_abs c ≡ 0 → ⊥) → neg (fraction d c) ≡ fraction d (neg_ℤ c)
unfolding fraction
neg-fraction d (pos zero) n = absurd (n refl)
neg-fraction d (pos (suc c)) n = neg-round binary64 false (suc c) d
neg-fraction d (negsuc c) n = neg-round binary64 true (suc c) d

-- ---- Products and quotients

pub mul-worth : (x y : Float) (s t : Bool) (a b d g : ℕ) → 0 < d → 0 < g → HasValue x s a d → HasValue y t b g
    → mul binary64 x y ≡ round binary64 (unlike s t) (a * b) (d * g)
unfolding mul
mul-worth nan y s t a b d g p q v w = absurd v
mul-worth (inf i) y s t a b d g p q v w = absurd v
mul-worth (fin i m e) nan s t a b d g p q v w = absurd w
mul-worth (fin i m e) (inf j) s t a b d g p q v w = absurd w
mul-worth (fin i m e) (fin j n h) s t a b d g p q v w =
    ap (λ (z : Bool). round binary64 (unlike z j) (m * up e * (n * up h)) (down e * down h)) v.0
    ∙ ap (λ (z : Bool). round binary64 (unlike s z) (m * up e * (n * up h)) (down e * down h)) w.0
    ∙ round_same binary64 (unlike s t) (m * up e * (n * up h)) (down e * down h) (a * b) (d * g) (mul-pos (down_pos e) (down_pos h)) (mul-pos p q)
    (products (m * up e) (n * up h) d g a b (down e) (down h) v.1 w.1)
  where
    products : (x y d g a b e h : ℕ) → x * d ≡ a * e → y * g ≡ b * h → x * y * (d * g) ≡ a * b * (e * h)
    products x y d g a b e h u v =
        simp (mul_assoc) (simp (mul_assoc, mul_left_comm) at (ap (λ (z : ℕ). z * (y * g)) u ∙ ap (λ (z : ℕ). a * e * z) v))

pub div-worth : (x y : Float) (s t : Bool) (a b d g : ℕ) → 0 < d → 0 < g → 0 < b → HasValue x s a d → HasValue y t b g
    → div binary64 x y ≡ round binary64 (unlike s t) (a * g) (b * d)
unfolding div
div-worth nan y s t a b d g p q r v w = absurd v
div-worth (inf i) y s t a b d g p q r v w = absurd v
div-worth (fin i m e) nan s t a b d g p q r v w = absurd w
div-worth (fin i m e) (inf j) s t a b d g p q r v w = absurd w
div-worth (fin i m e) (fin j n h) s t a b d g p q r v w =
    ap (λ (z : Bool). cond z (cond (eqb m 0) nan (inf (unlike i j))) (round binary64 (unlike i j) (m * up e * down h) (n * up h * down e)))
    (eqb-other n 0 (above n r w.1))
    ∙ ap (λ (z : Bool). round binary64 (unlike z j) (m * up e * down h) (n * up h * down e)) v.0
    ∙ ap (λ (z : Bool). round binary64 (unlike s z) (m * up e * down h) (n * up h * down e)) w.0
    ∙ round_same binary64 (unlike s t) (m * up e * down h) (n * up h * down e) (a * g) (b * d) (pos-n n (above n r w.1)) (mul-pos r p)
    (quotients (m * up e) (n * up h) d g a b (down e) (down h) v.1 w.1)
  where
    above : (n : ℕ) → 0 < b → n * up h * g ≡ b * down h → n ≡ 0 → ⊥
    above zero r k z = lt_irrefl 0 (subst (λ (x : ℕ). 0 < x) (sym k ∙ ap (λ (x : ℕ). x * g) (zero-mul (up h)) ∙ zero-mul g) (mul-pos r (down_pos h)))
    above (suc n) r k z = lt_irrefl 0 (subst (λ (x : ℕ). 0 < x) z (zero-lt-suc n))

    pos-n : (n : ℕ) → (n ≡ 0 → ⊥) → 0 < n * up h * down e
    pos-n zero k = absurd (k refl)
    pos-n (suc n) k = mul-pos (mul-pos (zero-lt-suc n) (up_pos h)) (down_pos e)

    quotients : (x y d g a b e h : ℕ) → x * d ≡ a * e → y * g ≡ b * h → x * h * (b * d) ≡ a * g * (y * e)
    quotients x y d g a b e h u v =
        simp (mul_assoc, mul_comm, mul_left_comm)
        (simp (mul_assoc, mul_comm, mul_left_comm) at (ap (λ (z : ℕ). z * (b * h)) u ∙ ap (λ (z : ℕ). a * e * z) (sym v)))

-- ---- The same value in finer parts, and as a whole number

pub finer : (x : Float) (s : Bool) (a d j : ℕ) → HasValue x s a d → HasValue x s (a * j) (d * j)
finer nan s a d j v = v
finer (inf t) s a d j v = v
finer (fin t m e) s a d j v = (v.0, sym (mul_assoc (m * up e) d j) ∙ ap (λ (z : ℕ). z * j) v.1 ∙ mul_right_comm a (down e) j)

pub truncated : (x : Float) (n : ℕ) → HasValue x false n 1 → n < 2 ^ 64 → to_unsigned 64 x ≡ n
unfolding to_unsigned
truncated nan n v l = absurd v
truncated (inf s) n v l = absurd v
truncated (fin true m e) n v l = absurd (true≢false v.0)
truncated (fin false m e) n v l =
    ap (λ (z : ℕ). min z (2 ^ 64 - 1)) (ap (λ (z : ℕ). z / down e) (sym (mul-one (m * up e)) ∙ v.1) ∙ mul-div_cancel n (down_pos e)) ∙ uncapped n (2 ^ 64) l
  where
    uncapped : (n c : ℕ) → n < c → min n (c - 1) ≡ n
    uncapped n c h = omega arith
