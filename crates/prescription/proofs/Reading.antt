-- The eye of four stored fields. Assumes nothing.
use Rattle.std.proofs.Common.{◌≡◌, ℕ, ◌-◌, ◌^◌, ◌<◌, ◌≤◌, Bool, true, false, cond, ◌&&◌, eqb, ltb, leb, List, [], ◌∷◌, length, take, drop, ℤ, pos, negsuc, nat_abs, sym, refl, ap, ◌∙◌, arith, le-ltb, lt-ltb, le-leb}
use mathlib.Core.Option.{Option, none, some, none-ne-some, some-injective}
use borrow.Author.Tests.{lt-leb}
use lib.Ieee.{Float}
use Rattle.refusals.specs.Refusals.{must, bad_prescription}
use Rattle.combinatorics.proofs.Cases.{eqb-other, by-eq}
use Rattle.combinatorics.specs.Lists.{all, all_below}
use Rattle.cells.proofs.Walk.{rest-is}
use Rattle.prescription.specs.declared.eyes.Eye.{Eye}
use Rattle.prescription.specs.declared.eyes.Eye.TheVariants.{Sphere, Toric}
use Rattle.prescription.specs.declared.fields.StoredEye.{StoredEye}
use Rattle.prescription.specs.Fractions.{fraction, count_of}
use Rattle.prescription.specs.Lens.{Lens, plano, sphere, toric, keeps}
use Rattle.prescription.specs.Eyes.{ruled, sphere_of, toric_of, lens_of, eye_of, is_distance, joined_eyes, prescription_of}
use Rattle.prescription.specs.Stored.{count_in, lens_in, stored_len, prescribed_at, prescribed_in}
use Rattle.prescription.specs.Outcomes.{answered, refused, or_refused, distanced, read_text_out}
use Rattle.prescription.proofs.Arithmetic.{by-lt}
use Rattle.prescription.proofs.Counting.{counts-back}
use Rattle.prescription.proofs.Storing.{eighths, no_second}

-- ---- By kind

-- the lens of fields of each kind
by_kind : StoredEye → ℕ → Option Lens
by_kind f k =
    cond (eqb k 0) (must (eqb f.sphere 0 && eqb f.cylinder 0 && eqb f.axis 0) none (some plano))
    (cond (eqb k 1) (must (eqb f.cylinder 0 && eqb f.axis 0) none (ruled (sphere (count_in f.sphere))))
    (cond (eqb k 2) (ruled (toric (count_in f.sphere) (count_in f.cylinder) f.axis))
    none))

by-kind : (f : StoredEye) (k : ℕ) → f.kind ≡ k → lens_in f ≡ by_kind f k
unfolding lens_in by_kind
by-kind f k e = ap (by_kind f) e

pub plano-in : (f : StoredEye) → f.kind ≡ 0 → lens_in f ≡ must (eqb f.sphere 0 && eqb f.cylinder 0 && eqb f.axis 0) none (some plano)
unfolding by_kind
plano-in f e = by-kind f 0 e

pub sphere-in : (f : StoredEye) → f.kind ≡ 1 → lens_in f ≡ must (eqb f.cylinder 0 && eqb f.axis 0) none (ruled (sphere (count_in f.sphere)))
unfolding by_kind
sphere-in f e = by-kind f 1 e

pub toric-in : (f : StoredEye) → f.kind ≡ 2 → lens_in f ≡ ruled (toric (count_in f.sphere) (count_in f.cylinder) f.axis)
unfolding by_kind
toric-in f e = by-kind f 2 e

pub other-in : (f : StoredEye) → (f.kind ≡ 0 → ⊥) → (f.kind ≡ 1 → ⊥) → (f.kind ≡ 2 → ⊥) → lens_in f ≡ none
unfolding lens_in
other-in f a b c = simp (eqb-other f.kind 0 a, eqb-other f.kind 1 b, eqb-other f.kind 2 c)

-- ---- The answers

pub refused-in : (f : StoredEye) → lens_in f ≡ none → refused bad_prescription ≡ or_refused eye_of (lens_in f)
refused-in f h = sym (ap (or_refused eye_of) h)

count_small : (u : ℕ) → nat_abs (count_in u) < 2 ^ 53
count_small u = by-lt u 32768 (λ b. nat_abs (cond b (pos u) (negsuc (65535 - u))) < 2 ^ 53) (λ l. omega arith) (λ l. omega arith)

pub sphere-read : (u : ℕ) (x : Float) → x ≡ fraction 8 (count_in u)
    → or_refused (λ _. Sphere x) (lens_of (Sphere x)) ≡ or_refused eye_of (ruled (sphere (count_in u)))
unfolding lens_of eye_of
sphere-read u x e =
    ap (λ (y : Float). or_refused (λ _. Sphere y) (sphere_of (count_of 8 y))) e
    ∙ ap (λ (o : Option ℤ). or_refused (λ _. Sphere (fraction 8 (count_in u))) (sphere_of o)) (counts-back 8 eighths (count_in u) (count_small u))
    ∙ go (keeps (sphere (count_in u)))
  where
    go : (b : Bool) → or_refused (λ _. Sphere (fraction 8 (count_in u))) (must b none (some (sphere (count_in u)))) ≡ or_refused eye_of
        (must b none (some (sphere (count_in u))))
    go true = refl
    go false = refl

pub toric-read : (u v a : ℕ) (x y : Float) → x ≡ fraction 8 (count_in u) → y ≡ fraction 8 (count_in v)
    → or_refused (λ _. Toric x y a) (lens_of (Toric x y a)) ≡ or_refused eye_of (ruled (toric (count_in u) (count_in v) a))
unfolding lens_of eye_of
toric-read u v a x y e f =
    let s = count_in u in
    let c = count_in v in
    ap (λ (z : Float). or_refused (λ _. Toric z y a) (toric_of (count_of 8 z) (count_of 8 y) a)) e
    ∙ ap (λ (z : Float). or_refused (λ _. Toric (fraction 8 s) z a) (toric_of (count_of 8 (fraction 8 s)) (count_of 8 z) a)) f
    ∙ ap (λ (o : Option ℤ). or_refused (λ _. Toric (fraction 8 s) (fraction 8 c) a) (toric_of o (count_of 8 (fraction 8 c)) a))
    (counts-back 8 eighths s (count_small u))
    ∙ ap (λ (o : Option ℤ). or_refused (λ _. Toric (fraction 8 s) (fraction 8 c) a) (toric_of (some s) o a)) (counts-back 8 eighths c (count_small v))
    ∙ go s c (keeps (toric s c a))
  where
    go : (s c : ℤ) (b : Bool) → or_refused (λ _. Toric (fraction 8 s) (fraction 8 c) a) (must b none (some (toric s c a))) ≡ or_refused eye_of
        (must b none (some (toric s c a)))
    go s c true = refl
    go s c false = refl

-- ---- Both eyes

pub record EyeRead (o : Option Lens) (e : Eye) : Type 0 where
  pub lens : Lens
  pub lens-is : o ≡ some lens
  pub eye-is : e ≡ eye_of lens

pub eye-read : (o : Option Lens) (e : Eye) → answered e ≡ or_refused eye_of o → EyeRead o e
eye-read none e h = absurd (none-ne-some e (sym (ap (λ x. x.value) h)))
eye-read (some l) e h = record { lens = l; lens-is = refl; eye-is = some-injective e (eye_of l) (ap (λ x. x.value) h) }

pub both_read : (r l : Option Lens) (e f : Eye) (h : ℕ) → EyeRead r e → EyeRead l f → distanced e f h ≡ or_refused prescription_of (joined_eyes r l (some (pos h)))
unfolding prescription_of
both_read r l e f h i j =
    ap (λ (x : Eye). distanced x f h) i.eye-is
    ∙ ap (λ (x : Eye). distanced (eye_of i.lens) x h) j.eye-is
    ∙ go (is_distance h)
    ∙ ap (λ (o : Option Lens). or_refused prescription_of (joined_eyes o (some j.lens) (some (pos h)))) (sym i.lens-is)
    ∙ ap (λ (o : Option Lens). or_refused prescription_of (joined_eyes r o (some (pos h)))) (sym j.lens-is)
  where
    go : (b : Bool) → must b (refused bad_prescription) (answered (prescription_of (record { right = i.lens; left = j.lens; halves = h })))
        ≡ or_refused prescription_of (must b none (some (record { right = i.lens; left = j.lens; halves = h })))
    go true = refl
    go false = refl

-- ---- The whole text

zero-below : (x : ℕ) → ltb x 1 ≡ eqb x 0
zero-below x = by-eq x 0 (λ t. ltb x 1 ≡ t) (λ e. lt-ltb x 1 (omega arith)) (λ e. le-ltb x 1 (omega arith))

pub zeros-below : (xs : List ℕ) → all_below 1 xs ≡ all (λ x. eqb x 0) xs
unfolding all
zeros-below [] = refl
zeros-below (x ∷ xs) = ap (λ (b : Bool). b && all (λ y. ltb y 1) xs) (zero-below x) ∙ ap (λ (b : Bool). eqb x 0 && b) (zeros-below xs)

pub zeros-behind : (text : List ℕ) (r : Bool) → r ≡ all_below 1 (take (length text - stored_len) (drop stored_len text))
    → r ≡ all (λ x. eqb x 0) (drop stored_len text)
zeros-behind text r h = h ∙ ap (all_below 1) (rest-is stored_len text) ∙ zeros-below (drop stored_len text)

pub text-short : (text : List ℕ) → length text < stored_len → refused bad_prescription ≡ read_text_out text
unfolding read_text_out prescribed_in
text-short text h = ap (λ (b : Bool). or_refused prescription_of (must (b && all (λ x. eqb x 0) (drop stored_len text)) none (prescribed_at text)))
    (sym (lt-leb stored_len (length text) h))

pub text-behind : (text : List ℕ) → all (λ x. eqb x 0) (drop stored_len text) ≡ false → refused bad_prescription ≡ read_text_out text
unfolding read_text_out prescribed_in
text-behind text h =
    ap (λ (b : Bool). or_refused prescription_of (must b none (prescribed_at text)))
    (sym (no_second (leb stored_len (length text)) (all (λ x. eqb x 0) (drop stored_len text)) h))

pub text-read : (text : List ℕ) → stored_len ≤ length text → all (λ x. eqb x 0) (drop stored_len text) ≡ true
    → or_refused prescription_of (prescribed_at text) ≡ read_text_out text
unfolding read_text_out prescribed_in
text-read text l h =
    ap (λ (b : Bool). or_refused prescription_of (must (true && b) none (prescribed_at text))) (sym h)
    ∙ ap (λ (b : Bool). or_refused prescription_of (must (b && all (λ x. eqb x 0) (drop stored_len text)) none (prescribed_at text)))
    (sym (le-leb stored_len (length text) l))

-- ---- The pupil distance

pub distance-fits : (r l : Eye) (h : ℕ) (x : Float) → 80 ≤ h → h ≤ 160 → x ≡ fraction 2 (pos h)
    → answered (record { right = r; left = l; pupil_distance = x }) ≡ distanced r l h
distance-fits r l h x j k e =
    ap (λ (z : Float). answered (record { right = r; left = l; pupil_distance = z })) e
    ∙ ap (λ (b : Bool). must (true && b) (refused bad_prescription) (answered (record { right = r; left = l; pupil_distance = fraction 2 (pos h) })))
    (sym (le-leb h 160 k))
    ∙ ap (λ (b : Bool). must (b && leb h 160) (refused bad_prescription) (answered (record { right = r; left = l; pupil_distance = fraction 2 (pos h) })))
    (sym (le-leb 80 h j))
