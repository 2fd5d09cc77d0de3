-- The bits of signed counts, and what they say of the lens that an eye in memory stands for. Assumes nothing.
use Rattle.std.proofs.Common.{◌≡◌, ℕ, suc, ◌+◌, ◌-◌, ◌<◌, ◌≤◌, Bool, true, false, cond, not, ◌&&◌, eqb, ltb, leb, ℤ, pos, negsuc, ◌+ℤ◌, nat_abs, sym, refl, ap, ◌∙◌, zero-lt-suc, arith, ltb-false, ltb-true, le-ltb, lt-ltb}
use mathlib.Core.Option.{Option, none, some, none-ne-some}
use lib.IntN.{sub_ℕ}
use borrow.Author.Tests.{lt-leb}
use lib.Ieee.{Float, binary64, add}
use Rattle.refusals.specs.Refusals.{must}
use Rattle.combinatorics.proofs.Cases.{eqb-other}
use Rattle.prescription.specs.Fractions.{count_of}
use Rattle.prescription.specs.Lens.{Lens, sphere, toric, in_power_range, nonzero, keeps}
use Rattle.prescription.specs.Eyes.{ruled, sphere_of, toric_of}
use Rattle.prescription.specs.Stored.{bits_of, count_in, fields, fields_of}
use Rattle.prescription.specs.Counts.{PowerOfTwo, limit, bits_in, stored_of, toric_keeps}
use Rattle.prescription.proofs.Fractions.{worth-of-count}
use Rattle.prescription.proofs.Arithmetic.{by-lt, add-worth}
use Rattle.prescription.proofs.Counting.{counts-back}

pub eighths : PowerOfTwo 8
eighths = record { exponent = 3; small = omega arith; is = refl }

pub halves : PowerOfTwo 2
halves = record { exponent = 1; small = omega arith; is = refl }

-- ---- Sizes of sums

sub_within : (a b : ℕ) → nat_abs (sub_ℕ a b) ≤ a + b
sub_within a b = by-lt a b (λ t. nat_abs (cond t (negsuc (b - suc a)) (pos (a - b))) ≤ a + b) (λ l. omega arith) (λ l. omega arith)

pub sum-within : (a b : ℤ) → nat_abs (a +ℤ b) ≤ nat_abs a + nat_abs b
sum-within (pos a) (pos b) = omega arith
sum-within (pos a) (negsuc b) = sub_within a (suc b)
sum-within (negsuc a) (pos b) = let h = sub_within b (suc a) in omega arith
sum-within (negsuc a) (negsuc b) = omega arith

sub-apart : (a b : ℕ) → b ≤ a + nat_abs (sub_ℕ a b)
sub-apart a b = by-lt a b (λ t. b ≤ a + nat_abs (cond t (negsuc (b - suc a)) (pos (a - b)))) (λ l. omega arith) (λ l. omega arith)

sub-apart-left : (a b : ℕ) → a ≤ b + nat_abs (sub_ℕ a b)
sub-apart-left a b = by-lt a b (λ t. a ≤ b + nat_abs (cond t (negsuc (b - suc a)) (pos (a - b)))) (λ l. omega arith) (λ l. omega arith)

pub sum-apart : (a b : ℤ) → nat_abs b ≤ nat_abs a + nat_abs (a +ℤ b)
sum-apart (pos a) (pos b) = omega arith
sum-apart (pos a) (negsuc b) = sub-apart a (suc b)
sum-apart (negsuc a) (pos b) = sub-apart-left b (suc a)
sum-apart (negsuc a) (negsuc b) = omega arith

-- ---- Bits

pub count-of-bits : (c : ℤ) → nat_abs c < limit → count_in (bits_of c) ≡ c
count-of-bits (pos n) h = ap (λ (b : Bool). cond b (pos n) (negsuc (65535 - n))) (lt-ltb n 32768 h)
count-of-bits (negsuc n) h =
    ap (λ (b : Bool). cond b (pos (65535 - n)) (negsuc (65535 - (65535 - n)))) (le-ltb (65535 - n) 32768 (omega arith)) ∙ ap negsuc (back n h)
  where
    back : (n : ℕ) → suc n < 32768 → 65535 - (65535 - n) ≡ n
    back n h = omega arith

bits-zero : (c : ℤ) → nat_abs c < limit → eqb (bits_of c) 0 ≡ eqb (nat_abs c) 0
bits-zero (pos n) h = refl
bits-zero (negsuc n) h = eqb-other (65535 - n) 0 (above n h) ∙ sym (eqb-other (suc n) 0 (other n))
  where
    above : (n : ℕ) → suc n < 32768 → 65535 - n ≡ 0 → ⊥
    above n h e = omega arith

    other : (n : ℕ) → suc n ≡ 0 → ⊥
    other n e = omega arith

pub record Told (o : Option ℤ) (u : ℕ) : Type 0 where
  pub count : ℤ
  pub is : o ≡ some count
  pub bits : u ≡ bits_of count
  pub small : nat_abs count < limit

pub bits-told : (o : Option ℤ) (u : ℕ) → some u ≡ bits_in o → Told o u
bits-told none u e = absurd (none-ne-some u (sym e))
bits-told (some c) u e = by-lt (nat_abs c) limit (λ b. some u ≡ must b none (some (bits_of c)) → Told (some c) u)
    (λ l h. record { count = c; is = refl; bits = cc; small = l })
    (λ l h. absurd (none-ne-some u (sym h)))
    e

pub beyond : (c : ℤ) → none ≡ bits_in (some c) → limit ≤ nat_abs c
beyond c = by-lt (nat_abs c) limit (λ b. none ≡ must b none (some (bits_of c)) → limit ≤ nat_abs c) (λ l h. absurd (none-ne-some (bits_of c) h)) (λ l h. l)

-- ---- What is stored

out_of_range : (c : ℤ) → 240 < nat_abs c → in_power_range c ≡ false
out_of_range c h = lt-leb (nat_abs c) 240 h

stored-must : (b : Bool) (l : Lens) → stored_of (must b none (some l)) ≡ must b none (some (fields_of l))
stored-must true l = refl
stored-must false l = refl

unruled : (l : Lens) → keeps l ≡ false → none ≡ stored_of (ruled l)
unruled l h = ap (λ (b : Bool). stored_of (must b none (some l))) (sym h)

pub sphere-out : (o : Option ℤ) → none ≡ bits_in o → none ≡ stored_of (sphere_of o)
unfolding keeps
sphere-out none h = refl
sphere-out (some c) h = unruled (sphere c) (ap (λ (b : Bool). b && nonzero c) (out_of_range c (let l = beyond c h in omega arith)))

pub sphere-stored : (o : Option ℤ) (u : ℕ) → some u ≡ bits_in o
    → stored_of (sphere_of o) ≡ must (in_power_range (count_in u) && not (eqb u 0)) none (some (fields 1 u 0 0))
unfolding keeps fields_of
sphere-stored o u h =
    let t = bits-told o u h in
    let c = t.count in
    ap (λ (x : Option ℤ). stored_of (sphere_of x)) t.is
    ∙ stored-must (keeps (sphere c)) (sphere c)
    ∙ ap (λ (z : Bool). must (in_power_range c && not z) none (some (fields 1 (bits_of c) 0 0))) (sym (bits-zero c t.small))
    ∙ ap (λ (z : ℤ). must (in_power_range z && not (eqb (bits_of c) 0)) none (some (fields 1 (bits_of c) 0 0))) (sym (count-of-bits c t.small))
    ∙ ap (λ (z : ℕ). must (in_power_range (count_in z) && not (eqb z 0)) none (some (fields 1 z 0 0))) (sym t.bits)

pub toric-out-sphere : (o p : Option ℤ) (a : ℕ) → none ≡ bits_in o → none ≡ stored_of (toric_of o p a)
unfolding keeps
toric-out-sphere none p a h = refl
toric-out-sphere (some s) none a h = refl
toric-out-sphere (some s) (some c) a h =
    unruled (toric s c a) (ap (λ (b : Bool). b && in_power_range (s +ℤ c) && nonzero c && (leb 1 a && leb a 180))
    (out_of_range s (let l = beyond s h in omega arith)))

-- a sum out of range
no-sum : (s c : ℤ) (a : ℕ) → in_power_range (s +ℤ c) ≡ false → keeps (toric s c a) ≡ false
unfolding keeps
no-sum s c a h = ap (λ (b : Bool). in_power_range s && b && nonzero c && (leb 1 a && leb a 180)) h ∙ none_left (in_power_range s)
  where
    none_left : (b : Bool) → b && false && nonzero c && (leb 1 a && leb a 180) ≡ false
    none_left true = refl
    none_left false = refl

pub toric-out-cylinder : (o p : Option ℤ) (a : ℕ) → none ≡ bits_in p → none ≡ stored_of (toric_of o p a)
unfolding keeps
toric-out-cylinder none p a h = refl
toric-out-cylinder (some s) none a h = refl
toric-out-cylinder (some s) (some c) a h = unruled (toric s c a) (go (ltb 240 (nat_abs s)) refl)
  where
    go : (b : Bool) → ltb 240 (nat_abs s) ≡ b → keeps (toric s c a) ≡ false
    go true e = ap (λ (b : Bool). b && in_power_range (s +ℤ c) && nonzero c && (leb 1 a && leb a 180)) (out_of_range s (ltb-true 240 (nat_abs s) e))
    go false e = no-sum s c a (out_of_range (s +ℤ c) (let l = beyond c h in let m = ltb-false 240 (nat_abs s) e in let n = sum-apart s c in omega arith))

-- sphere and cylinder in reach, and what their sum is then
sum-counts : (x y : Float) (s c : ℤ) → count_of 8 x ≡ some s → count_of 8 y ≡ some c → nat_abs s < limit → nat_abs c < limit
    → count_of 8 (add binary64 x y) ≡ some (s +ℤ c)
sum-counts x y s c e f h k =
    ap (count_of 8) (add-worth 8 x y s c (zero-lt-suc 7) (worth-of-count 8 x s (zero-lt-suc 7) e) (worth-of-count 8 y c (zero-lt-suc 7) f))
    ∙ counts-back 8 eighths (s +ℤ c) (let l = sum-within s c in omega arith)

pub toric-out-sum : (x y : Float) (u v a : ℕ) → some u ≡ bits_in (count_of 8 x) → some v ≡ bits_in (count_of 8 y) → none ≡ bits_in (count_of 8 (add binary64 x y))
    → none ≡ stored_of (toric_of (count_of 8 x) (count_of 8 y) a)
toric-out-sum x y u v a h k n =
    let s = bits-told (count_of 8 x) u h in
    let c = bits-told (count_of 8 y) v k in
    let far : limit ≤ nat_abs (s.count +ℤ c.count) =
    beyond (s.count +ℤ c.count) (n ∙ ap bits_in (sum-counts x y s.count c.count s.is c.is s.small c.small)) in
    unruled (toric s.count c.count a) (no-sum s.count c.count a (out_of_range (s.count +ℤ c.count) (omega arith)))
    ∙ ap (λ (o : Option ℤ). stored_of (toric_of o (some c.count) a)) (sym s.is)
    ∙ ap (λ (o : Option ℤ). stored_of (toric_of (count_of 8 x) o a)) (sym c.is)

pub toric-stored : (x y : Float) (u v w a : ℕ) → some u ≡ bits_in (count_of 8 x) → some v ≡ bits_in (count_of 8 y)
    → some w ≡ bits_in (count_of 8 (add binary64 x y))
    → stored_of (toric_of (count_of 8 x) (count_of 8 y) a) ≡ must (toric_keeps u w v a) none (some (fields 2 u v a))
unfolding keeps fields_of
toric-stored x y u v w a h k n =
    let s = bits-told (count_of 8 x) u h in
    let c = bits-told (count_of 8 y) v k in
    let t = bits-told (count_of 8 (add binary64 x y)) w n in
    let S = s.count in
    let C = c.count in
    let sum : t.count ≡ S +ℤ C = some-injective t.count (S +ℤ C) (sym t.is ∙ sum-counts x y S C s.is c.is s.small c.small) in
    ap (λ (o : Option ℤ). stored_of (toric_of o (count_of 8 y) a)) s.is
    ∙ ap (λ (o : Option ℤ). stored_of (toric_of (some S) o a)) c.is
    ∙ stored-must (keeps (toric S C a)) (toric S C a)
    ∙ ap (λ (z : Bool). must (in_power_range S && in_power_range (S +ℤ C) && not z && (leb 1 a && leb a 180)) none (some (fields 2 (bits_of S) (bits_of C) a)))
    (sym (bits-zero C c.small))
    ∙ ap (λ (z : ℤ). must (in_power_range z && in_power_range (S +ℤ C) && not (eqb (bits_of C) 0) && (leb 1 a && leb a 180)) none
    (some (fields 2 (bits_of S) (bits_of C) a)))
    (sym (count-of-bits S s.small))
    ∙ ap (λ (z : ℤ). must (in_power_range (count_in (bits_of S)) && in_power_range z && not (eqb (bits_of C) 0) && (leb 1 a && leb a 180)) none
    (some (fields 2 (bits_of S) (bits_of C) a))) (sym sum ∙ sym (count-of-bits t.count t.small) ∙ ap count_in (sym t.bits))
    ∙ ap (λ (z : ℕ). must (toric_keeps z w (bits_of C) a) none (some (fields 2 z (bits_of C) a))) (sym s.bits)
    ∙ ap (λ (z : ℕ). must (toric_keeps u w z a) none (some (fields 2 u z a))) (sym c.bits)
  where
    some-injective : (a b : ℤ) → some a ≡ some b → a ≡ b
    some-injective a b h = cc

-- ---- One test of several

pub no_second : (p q : Bool) → q ≡ false → p && q ≡ false
no_second true q h = h
no_second false q h = refl

pub no_third : (p q r : Bool) → r ≡ false → p && q && r ≡ false
no_third p q r h = no_second (p && q) r h

pub no-first-of-three : (p q r : Bool) → p ≡ false → p && q && r ≡ false
no-first-of-three p q r h = ap (λ (b : Bool). b && q && r) h

pub must-not : {A : Type 0} (b : Bool) (x y : A) → b ≡ false → must b x y ≡ x
must-not b x y h = ap (λ (t : Bool). must t x y) h

pub must-be : {A : Type 0} (b : Bool) (x y : A) → b ≡ true → must b x y ≡ y
must-be b x y h = ap (λ (t : Bool). must t x y) h

pub passed : {A : Type 0} (b : Bool) (o : Option A) (x : A) → must b none o ≡ some x → (b ≡ true) × (o ≡ some x)
passed true o x h = (refl, h)
passed false o x h = absurd (none-ne-some x h)
