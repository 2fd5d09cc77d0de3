-- What is promised of prescriptions, as statements about the definitions. Assumes nothing.
use Rattle.std.specs.Prelude.{◌≡◌, ℕ, true, List, length, ℤ, ◌+ℤ◌, to_bits, Float, Result, Ok, Err}
use Rattle.std.proofs.Math.Option.{some}
use Rattle.std.specs.Float.{binary64}
use Rattle.refusals.specs.declared.Refusal.{Refusal}
use Rattle.refusals.specs.Refusals.{served}
use Rattle.combinatorics.specs.Lists.{all_below}
use Rattle.prescription.specs.declared.eyes.Eye.{Eye}
use Rattle.prescription.specs.declared.eyes.Eye.TheVariants.{Plano, Sphere, Toric}
use Rattle.prescription.specs.declared.texts.Prescription.{Prescription}
use Rattle.prescription.specs.Fractions.{fraction, count_of}
use Rattle.prescription.specs.Lens.{Lens, toric, keeps, equivalent}
use Rattle.prescription.specs.Eyes.{Prescribed, KeepsRules, prescribed_of, prescription_of, prescription_fits}
use Rattle.prescription.specs.Outcomes.{answered, transpose_out, equivalent_out, read_text_out, written_text, write_text_out}

-- ---- One lens

-- two eyes are the same case with the same bits
abbrev pub SameBits : Eye → Eye → Type 0
SameBits Plano Plano = Unit {0}
SameBits Plano (Sphere q) = ⊥
SameBits Plano (Toric t d b) = ⊥
SameBits (Sphere p) Plano = ⊥
SameBits (Sphere p) (Sphere q) = to_bits binary64 p ≡ to_bits binary64 q
SameBits (Sphere p) (Toric t d b) = ⊥
SameBits (Toric s c a) Plano = ⊥
SameBits (Toric s c a) (Sphere q) = ⊥
SameBits (Toric s c a) (Toric t d b) = (to_bits binary64 s ≡ to_bits binary64 t) × (to_bits binary64 c ≡ to_bits binary64 d) × (a ≡ b)

-- "Twice gives the original bits": an accepted answer transposes to an eye with the bits of the one given
abbrev pub RestoresBits : Eye → Result Eye Refusal → Type 0
RestoresBits e (Ok f) = (g : Eye) × (transpose_out f ≡ answered g) × SameBits g e
RestoresBits e (Err r) = Unit {0}

-- "for one toric lens, altering the sphere by t eighths moves it t eighths, altering the cylinder by t moves it half that, while the lens keeps to these
-- rules": in sixteenths of a dioptre, 2 t and t; and each equivalent is the float of that count, exactly
pub record Moves : Type 0 where
  pub by-sphere : (s c t : ℤ) (a : ℕ) → keeps (toric s c a) ≡ true → keeps (toric (s +ℤ t) c a) ≡ true
      → equivalent (toric (s +ℤ t) c a) ≡ equivalent (toric s c a) +ℤ (t +ℤ t)
  pub by-cylinder : (s c t : ℤ) (a : ℕ) → keeps (toric s c a) ≡ true → keeps (toric s (c +ℤ t) a) ≡ true
      → equivalent (toric s (c +ℤ t) a) ≡ equivalent (toric s c a) +ℤ t
  pub exact : (l : Lens) → keeps l ≡ true → count_of 16 (fraction 16 (equivalent l)) ≡ some (equivalent l)

-- so many d-ths more: both floats are whole numbers of d-ths, and y is t of them above x
pub record MovedBy (d : ℕ) (t : ℤ) (x y : Float) : Type 0 where
  pub count : ℤ
  pub before : count_of d x ≡ some count
  pub after : count_of d y ≡ some (count +ℤ t)

-- the same of what the call answers for a toric in memory and for the altered one; "while the lens keeps to these rules" is that both are answered
pub record AnswersMove : Type 0 where
  pub by-sphere : (s u c x y : Float) (a : ℕ) (t : ℤ) → MovedBy 8 t s u
      → equivalent_out (Toric s c a) ≡ answered x → equivalent_out (Toric u c a) ≡ answered y → MovedBy 16 (t +ℤ t) x y
  pub by-cylinder : (s c d x y : Float) (a : ℕ) (t : ℤ) → MovedBy 8 t c d
      → equivalent_out (Toric s c a) ≡ answered x → equivalent_out (Toric s d a) ≡ answered y → MovedBy 16 t x y

-- ---- A prescription

-- "In memory powers are dioptres and the pupil distance millimetres, in floats, exact": what keeps the rules is held by floats that stand for it, by no
-- other floats, and nothing else is
pub record HeldExactly : Type 0 where
  pub stands : (x : Prescribed) → KeepsRules x → prescribed_of (prescription_of x) ≡ some x
  pub alone : (p : Prescription) (x : Prescribed) → prescription_fits p ≡ true → prescribed_of p ≡ some x → p ≡ prescription_of x
  pub ruled : (p : Prescription) (x : Prescribed) → prescribed_of p ≡ some x → KeepsRules x

-- what was written as a text reads back as it was, float by float; and a text of bytes that is read is the one that its prescription is written as
pub record TextsReadBack : Type 0 where
  pub written-reads : (p : Prescription) (text : List ℕ) → prescription_fits p ≡ true → (write_text_out p text).answer ≡ served
      → read_text_out (write_text_out p text).text ≡ answered p
  pub read-writes : (p : Prescription) (text lent : List ℕ) → all_below 256 text ≡ true → length lent ≡ length text → read_text_out text ≡ answered p
      → write_text_out p lent ≡ written_text served text
