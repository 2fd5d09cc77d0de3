-- Eyes in memory: what they stand for, transposed and as a spherical equivalent, float by float. Assumes nothing.
use Rattle.std.proofs.Common.{◌≡◌, ℕ, suc, ◌*◌, ◌^◌, ◌<◌, ◌≤◌, Bool, true, false, ℤ, pos, negsuc, ◌+ℤ◌, nat_abs, sym, refl, ap, ◌∙◌, subst, zero-lt-suc, mul-one, arith, lit≤}
use mathlib.Core.Option.{Option, none, some, none-ne-some}
use Rattle.std.specs.Prelude.{Some, Option as Optional}
use lib.Ieee.{Float, fin, binary64, unlike, round, neg, add, mul, fits}
use lib.Ieee.Exact.{HasValue}
use Rattle.refusals.specs.Refusals.{must}
use Rattle.prescription.specs.declared.eyes.Eye.{Eye}
use Rattle.prescription.specs.declared.eyes.Eye.TheVariants.{Plano, Sphere, Toric}
use Rattle.prescription.specs.declared.fields.StoredEye.{StoredEye}
use Rattle.prescription.specs.Fractions.{is_negative, fraction, count_of}
use Rattle.prescription.specs.Lens.{Lens, plano, sphere, toric, keeps, turned, transposed, equivalent}
use Rattle.prescription.specs.Eyes.{ruled, sphere_of, toric_of, lens_of, eye_of}
use Rattle.prescription.specs.Counts.{stored_as, stored_of}
use Rattle.prescription.specs.Outcomes.{answered, or_refused, transpose_out, equivalent_out}
use Rattle.prescription.specs.Laws.{SameBits}
use Rattle.prescription.proofs.Fractions.{Worth, worth-of-count, fraction-of-worth}
use Rattle.prescription.proofs.Arithmetic.{add-worth, neg-fraction, mul-worth, finer}
use Rattle.prescription.proofs.Counting.{holds, counts-back, worth-back, is-fraction}
use Rattle.prescription.proofs.Storing.{eighths, sum-within}
use Rattle.prescription.proofs.Lenses.{toric-kept, sphere-kept, cylinder-in, transposed-keeps, transposed-back, sixteenths}

-- ---- By what is stored of it

pub record SphereIs (p : Float) : Type 0 where
  pub count : ℤ
  pub is : count_of 8 p ≡ some count
  pub kept : keeps (sphere count) ≡ true

sphere-of : (o : Option ℤ) (p : Float) (e : StoredEye) → count_of 8 p ≡ o → some e ≡ stored_of (sphere_of o) → SphereIs p
sphere-of none p e i h = absurd (none-ne-some e (sym h))
sphere-of (some c) p e i h = go (keeps (sphere c)) refl h
  where
    go : (b : Bool) → keeps (sphere c) ≡ b → some e ≡ stored_of (must b none (some (sphere c))) → SphereIs p
    go false k h = absurd (none-ne-some e (sym h))
    go true k h = record { count = c; is = i; kept = k }

pub sphere-is : (p : Float) (e : StoredEye) → some e ≡ stored_of (lens_of (Sphere p)) → SphereIs p
unfolding lens_of
sphere-is p e h = sphere-of (count_of 8 p) p e refl h

pub record ToricIs (x y : Float) (a : ℕ) : Type 0 where
  pub s : ℤ
  pub c : ℤ
  pub s-is : count_of 8 x ≡ some s
  pub c-is : count_of 8 y ≡ some c
  pub kept : keeps (toric s c a) ≡ true

toric-of : (o q : Option ℤ) (x y : Float) (a : ℕ) (e : StoredEye) → count_of 8 x ≡ o → count_of 8 y ≡ q → some e ≡ stored_of (toric_of o q a) → ToricIs x y a
toric-of none q x y a e i j h = absurd (none-ne-some e (sym h))
toric-of (some s) none x y a e i j h = absurd (none-ne-some e (sym h))
toric-of (some s) (some c) x y a e i j h = go (keeps (toric s c a)) refl h
  where
    go : (b : Bool) → keeps (toric s c a) ≡ b → some e ≡ stored_of (must b none (some (toric s c a))) → ToricIs x y a
    go false k h = absurd (none-ne-some e (sym h))
    go true k h = record { s = s; c = c; s-is = i; c-is = j; kept = k }

pub toric-is : (x y : Float) (a : ℕ) (e : StoredEye) → some e ≡ stored_of (lens_of (Toric x y a)) → ToricIs x y a
unfolding lens_of
toric-is x y a e h = toric-of (count_of 8 x) (count_of 8 y) x y a e refl refl h

-- the same of an eye whose fields are kept
module _ {self : Eye} {r : Optional StoredEye} {e : StoredEye} (kept : r ≡ Some e) (stored : stored_as r ≡ stored_of (lens_of self)) where
  fields-of : (eye : Eye) → self ≡ eye → some e ≡ stored_of (lens_of eye)
  fields-of eye is = sym (ap stored_as kept) ∙ stored ∙ ap (λ (x : Eye). stored_of (lens_of x)) is

  pub sphere-told : {p : Float} → self ≡ Sphere p → SphereIs p
  sphere-told {p} is = sphere-is p e (fields-of (Sphere p) is)

  pub toric-told : {x y : Float} {a : ℕ} → self ≡ Toric x y a → ToricIs x y a
  toric-told {x} {y} {a} is = toric-is x y a e (fields-of (Toric x y a) is)

-- ---- The lens, and the eye of a lens

pub rule-kept : (l : Lens) → keeps l ≡ true → ruled l ≡ some l
rule-kept l h = ap (λ (b : Bool). must b none (some l)) h

pub sphere-lens : (p : Float) (i : SphereIs p) → lens_of (Sphere p) ≡ some (sphere i.count)
unfolding lens_of
sphere-lens p i = ap sphere_of i.is ∙ rule-kept (sphere i.count) i.kept

pub toric-lens : (x y : Float) (a : ℕ) (i : ToricIs x y a) → lens_of (Toric x y a) ≡ some (toric i.s i.c a)
unfolding lens_of
toric-lens x y a i =
    ap (λ (o : Option ℤ). toric_of o (count_of 8 y) a) i.s-is ∙ ap (λ (o : Option ℤ). toric_of (some i.s) o a) i.c-is
    ∙ rule-kept (toric i.s i.c a) i.kept

small : (n m : ℕ) → n ≤ m → m ≤ 1024 → n < 2 ^ 53
small n m h k = omega arith

pub sphere-eye : (p : Float) (i : SphereIs p) → fits binary64 p ≡ true → Sphere p ≡ eye_of (sphere i.count)
unfolding eye_of
sphere-eye p i t = ap Sphere (is-fraction 8 eighths p i.count (small (nat_abs i.count) 240 (sphere-kept i.count i.kept) (omega arith)) (holds t)
    i.is)

pub toric-eye : (x y : Float) (a : ℕ) (i : ToricIs x y a) → fits binary64 x ≡ true → fits binary64 y ≡ true → Toric x y a ≡ eye_of (toric i.s i.c a)
unfolding eye_of
toric-eye x y a i t u =
    let k = toric-kept i.s i.c a i.kept in
    ap (λ (z : Float). Toric z y a) (is-fraction 8 eighths x i.s (small (nat_abs i.s) 240 k.sphere-in (omega arith)) (holds t) i.s-is)
    ∙ ap (λ (z : Float). Toric (fraction 8 i.s) z a)
    (is-fraction 8 eighths y i.c (small (nat_abs i.c) 480 (cylinder-in i.s i.c a k) (omega arith)) (holds u) i.c-is)

-- the eye of a lens stands for that lens
pub lens-back : (l : Lens) → keeps l ≡ true → lens_of (eye_of l) ≡ some l
unfolding lens_of eye_of
lens-back plano h = refl
lens-back (sphere p) h = ap sphere_of (counts-back 8 eighths p (small (nat_abs p) 240 (sphere-kept p h) (omega arith))) ∙ rule-kept (sphere p) h
lens-back (toric s c a) h =
    let k = toric-kept s c a h in
    ap (λ (o : Option ℤ). toric_of o (count_of 8 (fraction 8 c)) a) (counts-back 8 eighths s (small (nat_abs s) 240 k.sphere-in (omega arith)))
    ∙ ap (λ (o : Option ℤ). toric_of (some s) o a) (counts-back 8 eighths c (small (nat_abs c) 480 (cylinder-in s c a k) (omega arith)))
    ∙ rule-kept (toric s c a) h

-- ---- Transposing

pub transposes : (e : Eye) (l : Lens) → lens_of e ≡ some l → transpose_out e ≡ answered (eye_of (transposed l))
unfolding transpose_out
transposes e l h = ap (or_refused (λ m. eye_of (transposed m))) h

-- the sum and the negation are those of the counts
pub toric-transposed : (x y : Float) (a : ℕ) (i : ToricIs x y a) → fits binary64 y ≡ true
    → Toric (add binary64 x y) (neg y) (turned a) ≡ eye_of (transposed (toric i.s i.c a))
unfolding eye_of transposed
toric-transposed x y a i u =
    let k = toric-kept i.s i.c a i.kept in
    ap (λ (z : Float). Toric z (neg y) (turned a)) (add-worth 8 x y i.s i.c (zero-lt-suc 7) (worth-of-count 8 x i.s (zero-lt-suc 7) i.s-is)
    (worth-of-count 8 y i.c (zero-lt-suc 7) i.c-is))
    ∙ ap (λ (z : Float). Toric (fraction 8 (i.s +ℤ i.c)) z (turned a))
    (ap neg (is-fraction 8 eighths y i.c (small (nat_abs i.c) 480 (cylinder-in i.s i.c a k) (omega arith)) (holds u) i.c-is)
    ∙ neg-fraction 8 i.c k.other)

same_bits : (e : Eye) → SameBits e e
same_bits Plano = tt
same_bits (Sphere p) = refl
same_bits (Toric s c a) = (refl, refl, refl)

-- "Twice gives the original bits"
pub restored : (e f : Eye) (l : Lens) → keeps l ≡ true → e ≡ eye_of l → f ≡ eye_of (transposed l) → (g : Eye) × (transpose_out f ≡ answered g) × SameBits g e
restored e f l h i j = (
  e,
  ap transpose_out j ∙ transposes (eye_of (transposed l)) (transposed l) (lens-back (transposed l) (transposed-keeps l h))
      ∙ ap (λ (m : Lens). answered (eye_of m)) (transposed-back l h) ∙ ap answered (sym i),
  same_bits e,
)

-- ---- The spherical equivalent

doubled-sign : (c : ℤ) → is_negative c ≡ is_negative (c +ℤ c)
doubled-sign (pos n) = refl
doubled-sign (negsuc n) = refl

doubled-size : (c : ℤ) → nat_abs c * 2 ≡ nat_abs (c +ℤ c)
doubled-size (pos n) = omega arith
doubled-size (negsuc n) = omega arith

-- c eighths are 2 c sixteenths
doubled : (x : Float) (c : ℤ) → Worth 8 x c → Worth 16 x (c +ℤ c)
doubled x c w =
    subst (λ (b : Bool). HasValue x b (nat_abs (c +ℤ c)) 16) (doubled-sign c)
    (subst (λ (n : ℕ). HasValue x (is_negative c) n 16) (doubled-size c) (finer x (is_negative c) (nat_abs c) 8 2 w))

pub equivalents : (e : Eye) (l : Lens) → lens_of e ≡ some l → equivalent_out e ≡ answered (fraction 16 (equivalent l))
unfolding equivalent_out
equivalents e l h = ap (or_refused (λ m. fraction 16 (equivalent m))) h

pub sphere-equivalent : (p : Float) (i : SphereIs p) → fits binary64 p ≡ true → answered p ≡ equivalent_out (Sphere p)
unfolding equivalent
sphere-equivalent p i t =
    let l = sum-within i.count i.count in
    let m = sphere-kept i.count i.kept in
    ap answered (fraction-of-worth 4 p (i.count +ℤ i.count) (lit≤ tt) (omega arith) (holds t)
    (doubled p i.count (worth-of-count 8 p i.count (zero-lt-suc 7) i.is)))
    ∙ sym (equivalents (Sphere p) (sphere i.count) (sphere-lens p i))

abbrev pub half_float : Float
half_float = fin false 1 (negsuc 0)

-- half of c eighths is c sixteenths
halved : (y : Float) (c : ℤ) → Worth 8 y c → mul binary64 y half_float ≡ fraction 16 c
unfolding fraction
halved y c w = mul-worth y half_float (is_negative c) false (nat_abs c) 1 8 2 (zero-lt-suc 7) (zero-lt-suc 1) w (refl, refl) ∙ go c
  where
    go : (c : ℤ) → round binary64 (unlike (is_negative c) false) (nat_abs c * 1) 16 ≡ round binary64 (is_negative c) (nat_abs c) 16
    go (pos n) = ap (λ (z : ℕ). round binary64 false z 16) (mul-one n)
    go (negsuc n) = ap (λ (z : ℕ). round binary64 true z 16) (mul-one (suc n))

pub toric-equivalent : (x y : Float) (a : ℕ) (i : ToricIs x y a) → answered (add binary64 x (mul binary64 y half_float)) ≡ equivalent_out (Toric x y a)
unfolding equivalent
toric-equivalent x y a i =
    let k = toric-kept i.s i.c a i.kept in
    let half : Worth 16 (mul binary64 y half_float) i.c =
    subst (λ (z : Float). Worth 16 z i.c) (sym (halved y i.c (worth-of-count 8 y i.c (zero-lt-suc 7) i.c-is)))
    (worth-back 16 sixteenths i.c (small (nat_abs i.c) 480 (cylinder-in i.s i.c a k) (omega arith))) in
    ap answered (add-worth 16 x (mul binary64 y half_float) (i.s +ℤ i.s) i.c (zero-lt-suc 15)
    (doubled x i.s (worth-of-count 8 x i.s (zero-lt-suc 7) i.s-is)) half)
    ∙ sym (equivalents (Toric x y a) (toric i.s i.c a) (toric-lens x y a i))
