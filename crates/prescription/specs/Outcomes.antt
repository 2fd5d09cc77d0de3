-- What the calls on eyes, prescriptions and texts answer, for every input. "The prescription calls refuse with 16 .. any text or value in memory outside
-- these rules (minus zero and a part of an eighth included)". Assumes nothing.
use Rattle.std.specs.Prelude.{ℕ, List, length, pos, nat_le, Float, Result, Ok, Err}
use Rattle.std.proofs.Math.Option.{Option, none, some}
use Rattle.refusals.specs.declared.Refusal.{Refusal}
use Rattle.refusals.specs.Refusals.{must, served, bad_prescription}
use Rattle.refusals.specs.Numbers.{number_of}
use Rattle.prescription.specs.declared.eyes.Eye.{Eye}
use Rattle.prescription.specs.declared.texts.Prescription.{Prescription}
use Rattle.prescription.specs.Fractions.{fraction}
use Rattle.prescription.specs.Lens.{transposed, equivalent}
use Rattle.prescription.specs.Eyes.{lens_of, eye_of, is_distance, Prescribed, prescribed_of, prescription_of}
use Rattle.prescription.specs.Stored.{stored_len, prescribed_in, text_of}

-- an answer's number, and its value where it has one
pub record Answered (A : Type 0) : Type 0 where
  pub number : ℕ
  pub value : Option A

abbrev pub answered : {A : Type 0} → A → Answered A
answered x = record { number = served; value = some x }

abbrev pub refused : {A : Type 0} → ℕ → Answered A
refused a = record { number = a; value = none }

-- where nothing keeps the rules, 16
abbrev pub or_refused : {A B : Type 0} → (A → B) → Option A → Answered B
or_refused f none = refused bad_prescription
or_refused f (some x) = answered (f x)

-- ---- What an answer says, case by case: 0 and the value, or the refusal

abbrev pub eye_answered : Result Eye Refusal → Answered Eye
eye_answered (Ok e) = answered e
eye_answered (Err r) = refused (number_of r)

abbrev pub power_answered : Result Float Refusal → Answered Float
power_answered (Ok x) = answered x
power_answered (Err r) = refused (number_of r)

abbrev pub prescription_answered : Result Prescription Refusal → Answered Prescription
prescription_answered (Ok p) = answered p
prescription_answered (Err r) = refused (number_of r)

-- both eyes with a pupil distance in half millimetres
abbrev pub distanced : Eye → Eye → ℕ → Answered Prescription
distanced r l h = must (is_distance h) (refused bad_prescription) (answered (record { right = r; left = l; pupil_distance = fraction 2 (pos h) }))

-- ---- The outcomes

-- "Transposing adds the cylinder to the sphere and changes the cylinder's sign": the eye of the transposed lens
unfoldable pub transpose_out : Eye → Answered Eye
transpose_out e = or_refused (λ l. eye_of (transposed l)) (lens_of e)

-- "The spherical equivalent, sphere plus half the cylinder, is exact": the dioptres of the lens's sixteenths
unfoldable pub equivalent_out : Eye → Answered Float
equivalent_out e = or_refused (λ l. fraction 16 (equivalent l)) (lens_of e)

-- "Both eyes and the pupil distance make one prescription": what the text stands for, in dioptres and millimetres
unfoldable pub read_text_out : List ℕ → Answered Prescription
read_text_out text = or_refused prescription_of (prescribed_in text)

-- the answer, and what the lent text holds afterwards
pub record Written : Type 0 where
  pub answer : ℕ
  pub text : List ℕ

abbrev pub written_text : ℕ → List ℕ → Written
written_text a text = record { answer = a; text = text }

abbrev pub written_or : List ℕ → Option Prescribed → Written
written_or text none = written_text bad_prescription text
written_or text (some x) = written_text served (text_of (length text) x)

-- the text of what the prescription stands for; a text below 13 bytes is a "payload below 17 bytes"
unfoldable pub write_text_out : Prescription → List ℕ → Written
write_text_out p text = must (nat_le stored_len (length text)) (written_text bad_prescription text) (written_or text (prescribed_of p))
