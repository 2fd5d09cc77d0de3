-- An eye as a program in another language holds it: marks, its kind and its axis as bytes, and powers, sphere and cylinder as floats. What transposing and the
-- spherical equivalent answer such a program, and what their lent buffers hold afterwards, for every input. Assumes nothing.
use Rattle.std.specs.Prelude.{◌≡◌, Bool, true, cond, ◌&&◌, List, [], ◌∷◌, ℕ, eqb, length, Float}
use Rattle.std.proofs.Math.Option.{Option, none, some}
use Rattle.std.specs.Float.{binary64}
use Rattle.std.specs.Float.Ieee.{to_bits, of_bits, fits}
use Rattle.refusals.specs.Refusals.{must, served, wrong_length}
use Rattle.prescription.specs.declared.eyes.Eye.{Eye}
use Rattle.prescription.specs.declared.eyes.Eye.TheVariants.{Plano, Sphere, Toric}
use Rattle.prescription.specs.Lens.{Lens}
use Rattle.prescription.specs.Eyes.{lens_of}
use Rattle.prescription.specs.Outcomes.{Answered, transpose_out, equivalent_out}

-- ---- Values that are given

-- what a power is that the kind doesn't use: all bits 0, so that minus zero is another
abbrev pub plus_zero : Float
plus_zero = of_bits binary64 0

abbrev pub is_plus_zero : Float → Bool
is_plus_zero x = eqb (to_bits binary64 x) 0

-- values that are no eye are taken as this one, which is "outside these rules" too (`outside` below): "A kind 1 power .. never 0"
abbrev pub no_eye : Eye
no_eye = Sphere plus_zero

-- "kind byte 0, 1 or 2" of "plano, a sphere with its power, or a toric with sphere, cylinder and axis"; "unused fields are 0"
unfoldable pub eye_from : ℕ → Float → Float → ℕ → Eye
eye_from kind s c a =
    cond (eqb kind 0) (must (is_plus_zero s && is_plus_zero c && eqb a 0) no_eye Plano)
    (cond (eqb kind 1) (must (is_plus_zero c && eqb a 0) no_eye (Sphere s))
    (cond (eqb kind 2) (Toric s c a)
    no_eye))

-- ---- Values that are handed out

abbrev pub eye_kind : Eye → ℕ
eye_kind Plano = 0
eye_kind (Sphere p) = 1
eye_kind (Toric s c a) = 2

abbrev pub eye_sphere : Eye → Float
eye_sphere Plano = plus_zero
eye_sphere (Sphere p) = p
eye_sphere (Toric s c a) = s

abbrev pub eye_cylinder : Eye → Float
eye_cylinder Plano = plus_zero
eye_cylinder (Sphere p) = plus_zero
eye_cylinder (Toric s c a) = c

abbrev pub eye_axis : Eye → ℕ
eye_axis Plano = 0
eye_axis (Sphere p) = 0
eye_axis (Toric s c a) = a

abbrev pub marks_of : Eye → List ℕ
marks_of e = eye_kind e ∷ eye_axis e ∷ []

abbrev pub powers_of : Eye → List Float
powers_of e = eye_sphere e ∷ eye_cylinder e ∷ []

-- an eye that is handed out is the one that its values give; values that are no eye keep no rules; and of an eye that keeps them, the values that gave it
-- are handed out
pub record EyesComeBack : Type 0 where
  pub back : (e : Eye) → eye_from (eye_kind e) (eye_sphere e) (eye_cylinder e) (eye_axis e) ≡ e
  pub outside : lens_of no_eye ≡ none
  pub given : (kind : ℕ) (s c : Float) (a : ℕ) (l : Lens) → fits binary64 s ≡ true → fits binary64 c ≡ true → lens_of (eye_from kind s c a) ≡ some l
      → (marks_of (eye_from kind s c a) ≡ kind ∷ a ∷ []) × (powers_of (eye_from kind s c a) ≡ s ∷ c ∷ [])

-- ---- Transposing: 3 for the lent buffers, then 16

-- the answer, and what the lent marks and powers hold afterwards
pub record PowersLent : Type 0 where
  pub answer : ℕ
  pub marks : List ℕ
  pub powers : List Float

abbrev pub powers_lent : List ℕ → List Float → ℕ → PowersLent
powers_lent marks powers a = record { answer = a; marks = marks; powers = powers }

-- where there is a value, its marks and powers; "Every refusal returns its number only; output buffers .. keep their contents."
abbrev pub value_lent : {A : Type 0} → (A → List ℕ) → (A → List Float) → List ℕ → List Float → ℕ → Option A → PowersLent
value_lent f g marks powers a none = powers_lent marks powers a
value_lent f g marks powers a (some x) = powers_lent (f x) (g x) a

abbrev pub answer_lent : {A : Type 0} → (A → List ℕ) → (A → List Float) → List ℕ → List Float → Answered A → PowersLent
answer_lent f g marks powers o = value_lent f g marks powers o.number o.value

unfoldable pub transpose_lent : Eye → List ℕ → List Float → PowersLent
transpose_lent e marks powers =
    must (eqb (length marks) 2 && eqb (length powers) 2) (powers_lent marks powers wrong_length)
    (answer_lent marks_of powers_of marks powers (transpose_out e))

-- "Twice gives the original bits": what is handed out for values, given again, is answered with these values
abbrev pub TransposesBack : Type 0
TransposesBack =
    (kind a k b : ℕ) (s c t d : Float) (marks : List ℕ) (powers : List Float) → fits binary64 s ≡ true → fits binary64 c ≡ true
    → transpose_lent (eye_from kind s c a) marks powers ≡ powers_lent (k ∷ b ∷ []) (t ∷ d ∷ []) served
    → transpose_lent (eye_from k t d b) marks powers ≡ powers_lent (kind ∷ a ∷ []) (s ∷ c ∷ []) served

-- ---- The spherical equivalent: 3 for the lent buffer, then 16

pub record PowerLent : Type 0 where
  pub answer : ℕ
  pub power : List Float

abbrev pub power_lent : List Float → ℕ → PowerLent
power_lent power a = record { answer = a; power = power }

abbrev pub equivalent_lent_as : List Float → ℕ → Option Float → PowerLent
equivalent_lent_as power a none = power_lent power a
equivalent_lent_as power a (some x) = power_lent (x ∷ []) a

unfoldable pub equivalent_lent : Eye → List Float → PowerLent
equivalent_lent e power =
    must (eqb (length power) 1) (power_lent power wrong_length)
    (equivalent_lent_as power (equivalent_out e).number (equivalent_out e).value)
