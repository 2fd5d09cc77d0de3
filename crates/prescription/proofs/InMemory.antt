-- Prescriptions in memory: the floats of one that keeps the rules stand for it, no others do, and nothing else is stood for (`HeldExactly`).
-- Assumes nothing.
use Rattle.std.proofs.Common.{◌≡◌, ℕ, ◌^◌, ◌<◌, Bool, true, ◌&&◌, leb, ℤ, pos, negsuc, sym, refl, ap, ◌∙◌, subst, arith, leb→le}
use mathlib.Core.Option.{Option, none, some, none-ne-some, some-injective}
use lib.Ieee.{Float, binary64, fits}
use Rattle.refusals.specs.Refusals.{must}
use Rattle.combinatorics.proofs.Lists.{both}
use Rattle.prescription.specs.declared.eyes.Eye.{Eye}
use Rattle.prescription.specs.declared.eyes.Eye.TheVariants.{Plano, Sphere, Toric}
use Rattle.prescription.specs.declared.texts.Prescription.{Prescription}
use Rattle.prescription.specs.Fractions.{fraction, count_of}
use Rattle.prescription.specs.Lens.{Lens, plano, sphere, toric, keeps}
use Rattle.prescription.specs.Eyes.{lens_of, eye_of, eye_fits, is_distance, Prescribed, KeepsRules, joined_eyes, prescribed_of, prescription_of}
use Rattle.prescription.specs.Eyes.{prescription_fits}
use Rattle.prescription.specs.Stored.{fields_of}
use Rattle.prescription.specs.Counts.{stored_of}
use Rattle.prescription.specs.Laws.{HeldExactly}
use Rattle.prescription.proofs.Counting.{holds, counts-back, is-fraction}
use Rattle.prescription.proofs.Storing.{halves, passed}
use Rattle.prescription.proofs.LensOfEye.{sphere-is, sphere-lens, sphere-eye, toric-is, toric-lens, toric-eye, lens-back}

-- ---- An eye that stands for a lens

pub record EyeHolds (e : Eye) (l : Lens) : Type 0 where
  pub kept : keeps l ≡ true
  pub is : eye_fits e ≡ true → e ≡ eye_of l

pub eye-holds : (e : Eye) (l : Lens) → lens_of e ≡ some l → EyeHolds e l
unfolding lens_of eye_of keeps
eye-holds Plano l h =
    let is : plano ≡ l = some-injective plano l h in
    record { kept = ap keeps (sym is); is = λ _. ap eye_of is }
eye-holds (Sphere p) l h =
    let i = sphere-is p (fields_of l) (sym (ap stored_of h)) in
    let is : sphere i.count ≡ l = some-injective (sphere i.count) l (sym (sphere-lens p i) ∙ h) in
    record { kept = ap keeps (sym is) ∙ i.kept; is = λ t. sphere-eye p i t ∙ ap eye_of is }
eye-holds (Toric x y a) l h =
    let i = toric-is x y a (fields_of l) (sym (ap stored_of h)) in
    let is : toric i.s i.c a ≡ l = some-injective (toric i.s i.c a) l (sym (toric-lens x y a i) ∙ h) in
    record {
      kept = ap keeps (sym is) ∙ i.kept;
      is = λ t. let u = both (fits binary64 x) (fits binary64 y) t in toric-eye x y a i u.0 u.1 ∙ ap eye_of is;
    }

-- ---- Both eyes and the pupil distance

pub record JoinedTold (r l : Option Lens) (h : Option ℤ) (x : Prescribed) : Type 0 where
  pub right_is : r ≡ some x.right
  pub left_is : l ≡ some x.left
  pub halves-is : h ≡ some (pos x.halves)
  pub distance : is_distance x.halves ≡ true

pub joined-told : (r l : Option Lens) (h : Option ℤ) (x : Prescribed) → joined_eyes r l h ≡ some x → JoinedTold r l h x
joined-told none l h x e = absurd (none-ne-some x e)
joined-told (some r) none h x e = absurd (none-ne-some x e)
joined-told (some r) (some l) none x e = absurd (none-ne-some x e)
joined-told (some r) (some l) (some (negsuc n)) x e = absurd (none-ne-some x e)
joined-told (some r) (some l) (some (pos n)) x e =
    let y : Prescribed = record { right = r; left = l; halves = n } in
    let p = passed (is_distance n) (some y) x e in
    subst (JoinedTold (some r) (some l) (some (pos n))) (some-injective y x p.1)
    (record { right_is = refl; left_is = refl; halves-is = refl; distance = p.0 })

distance-small : (h : ℕ) → is_distance h ≡ true → h < 2 ^ 53
distance-small h e = let l = leb→le h 160 (holds (both (leb 80 h) (leb h 160) e).1) in omega arith

stands : (x : Prescribed) → KeepsRules x → prescribed_of (prescription_of x) ≡ some x
unfolding prescribed_of prescription_of
stands x k =
    let distance = count_of 2 (fraction 2 (pos x.halves)) in
    ap (λ (o : Option Lens). joined_eyes o (lens_of (eye_of x.left)) distance) (lens-back x.right k.right_kept)
    ∙ ap (λ (o : Option Lens). joined_eyes (some x.right) o distance) (lens-back x.left k.left-kept)
    ∙ ap (joined_eyes (some x.right) (some x.left)) (counts-back 2 halves (pos x.halves) (distance-small x.halves k.distance))
    ∙ ap (λ (b : Bool). must b none (some x)) k.distance

told : (p : Prescription) (x : Prescribed) → prescribed_of p ≡ some x → JoinedTold (lens_of p.right) (lens_of p.left) (count_of 2 p.pupil_distance) x
unfolding prescribed_of
told p x h = joined-told (lens_of p.right) (lens_of p.left) (count_of 2 p.pupil_distance) x h

alone : (p : Prescription) (x : Prescribed) → prescription_fits p ≡ true → prescribed_of p ≡ some x → p ≡ prescription_of x
unfolding prescription_of
alone p x t h =
    let j = told p x h in
    let eyes = both (eye_fits p.right && eye_fits p.left) (fits binary64 p.pupil_distance) t in
    let each = both (eye_fits p.right) (eye_fits p.left) eyes.0 in
    let right = (eye-holds p.right x.right j.right_is).is each.0 in
    let left = (eye-holds p.left x.left j.left_is).is each.1 in
    ap (λ (e : Eye). record { right = e; left = p.left; pupil_distance = p.pupil_distance }) right
    ∙ ap (λ (e : Eye). record { right = eye_of x.right; left = e; pupil_distance = p.pupil_distance }) left
    ∙ ap (λ (z : Float). record { right = eye_of x.right; left = eye_of x.left; pupil_distance = z })
    (is-fraction 2 halves p.pupil_distance (pos x.halves) (distance-small x.halves j.distance) (holds eyes.1) j.halves-is)

ruled : (p : Prescription) (x : Prescribed) → prescribed_of p ≡ some x → KeepsRules x
ruled p x h =
    let j = told p x h in
    record {
      right_kept = (eye-holds p.right x.right j.right_is).kept;
      left-kept = (eye-holds p.left x.left j.left_is).kept;
      distance = j.distance;
    }

pub held-exactly : HeldExactly
held-exactly = record { stands = stands; alone = alone; ruled = ruled }
