-- Eyes and prescriptions in memory, and the counts that they stand for. Assumes nothing.
use Rattle.std.specs.Prelude.{◌≡◌, ℕ, Bool, true, ◌&&◌, ℤ, pos, negsuc, nat_le}
use Rattle.std.proofs.Math.Option.{Option, none, some}
use Rattle.std.specs.Float.{binary64}
use Rattle.std.specs.Float.Ieee.{fits}
use Rattle.refusals.specs.Refusals.{must}
use Rattle.prescription.specs.declared.eyes.Eye.{Eye}
use Rattle.prescription.specs.declared.eyes.Eye.TheVariants.{Plano, Sphere, Toric}
use Rattle.prescription.specs.declared.texts.Prescription.{Prescription}
use Rattle.prescription.specs.Fractions.{fraction, count_of}
use Rattle.prescription.specs.Lens.{Lens, plano, sphere, toric, keeps}

-- ---- An eye

-- a lens that keeps the rules, or none: what stands "outside these rules" stands for no lens
abbrev pub ruled : Lens → Option Lens
ruled l = must (keeps l) none (some l)

-- of the counts that floats are, where they are counts
abbrev pub sphere_of : Option ℤ → Option Lens
sphere_of none = none
sphere_of (some p) = ruled (sphere p)

abbrev pub toric_of : Option ℤ → Option ℤ → ℕ → Option Lens
toric_of none c a = none
toric_of (some s) none a = none
toric_of (some s) (some c) a = ruled (toric s c a)

-- the lens that an eye in memory stands for, by its eighths of a dioptre; none for a "value in memory outside these rules"
unfoldable pub lens_of : Eye → Option Lens
lens_of Plano = some plano
lens_of (Sphere p) = sphere_of (count_of 8 p)
lens_of (Toric s c a) = toric_of (count_of 8 s) (count_of 8 c) a

-- "In memory powers are dioptres"
unfoldable pub eye_of : Lens → Eye
eye_of plano = Plano
eye_of (sphere p) = Sphere (fraction 8 p)
eye_of (toric s c a) = Toric (fraction 8 s) (fraction 8 c) a

-- ---- A prescription

-- "Both eyes and the pupil distance make one prescription": in eighths of a dioptre, and half millimetres
pub record Prescribed : Type 0 where
  pub right : Lens
  pub left : Lens
  pub halves : ℕ

-- "one byte of pupil distance in half millimetres, 80 to 160"
abbrev pub is_distance : ℕ → Bool
is_distance h = nat_le 80 h && nat_le h 160

abbrev pub joined_eyes : Option Lens → Option Lens → Option ℤ → Option Prescribed
joined_eyes none l h = none
joined_eyes (some r) none h = none
joined_eyes (some r) (some l) none = none
joined_eyes (some r) (some l) (some (negsuc h)) = none
joined_eyes (some r) (some l) (some (pos h)) = must (is_distance h) none (some (record { right = r; left = l; halves = h }))

-- what a prescription in memory stands for
unfoldable pub prescribed_of : Prescription → Option Prescribed
prescribed_of p = joined_eyes (lens_of p.right) (lens_of p.left) (count_of 2 p.pupil_distance)

-- "In memory powers are dioptres and the pupil distance millimetres"
unfoldable pub prescription_of : Prescribed → Prescription
prescription_of x = record { right = eye_of x.right; left = eye_of x.left; pupil_distance = fraction 2 (pos x.halves) }

-- ---- What laws ask for

-- both eyes and the pupil distance keep the rules
pub record KeepsRules (x : Prescribed) : Type 0 where
  pub right_kept : keeps x.right ≡ true
  pub left-kept : keeps x.left ≡ true
  pub distance : is_distance x.halves ≡ true

-- floats of 64 bits, as memory has them
abbrev pub eye_fits : Eye → Bool
eye_fits Plano = true
eye_fits (Sphere p) = fits binary64 p
eye_fits (Toric s c a) = fits binary64 s && fits binary64 c

abbrev pub prescription_fits : Prescription → Bool
prescription_fits p = eye_fits p.right && eye_fits p.left && fits binary64 p.pupil_distance
