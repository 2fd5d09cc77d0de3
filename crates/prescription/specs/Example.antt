-- One prescription worked out by hand, and floats that are no count of eighths. Assumes nothing.
use Rattle.std.specs.Prelude.{◌≡◌, ℕ, List, [], ◌∷◌, ℤ, pos, negsuc, from_bits, to_bits}
use Rattle.std.proofs.Math.Option.{Option, none}
use Rattle.std.specs.Float.{binary64}
use Rattle.prescription.specs.Fractions.{fraction, count_of}
use Rattle.prescription.specs.Lens.{Lens, sphere, toric, transposed, equivalent}
use Rattle.prescription.specs.Eyes.{Prescribed}
use Rattle.prescription.specs.Stored.{text_of}

-- right −1.25, +0.5 at 90 degrees; left +3; 62.5 mm
abbrev pub right_lens : Lens
right_lens = toric (negsuc 9) (pos 4) 90

abbrev pub prescribed_example : Prescribed
prescribed_example = record { right = right_lens; left = sphere (pos 24); halves = 125 }

-- its text of 15 bytes, 02FFF600045A 010018000000 7D 0000
abbrev pub example_text : List ℕ
example_text = 2 ∷ 255 ∷ 246 ∷ 0 ∷ 4 ∷ 90 ∷ 1 ∷ 0 ∷ 24 ∷ 0 ∷ 0 ∷ 0 ∷ 125 ∷ 0 ∷ 0 ∷ []

-- how many eighths the float of 64 bits is
abbrev pub eighths_of : ℕ → Option ℤ
eighths_of bits = count_of 8 (from_bits binary64 bits)

pub record ExampleHolds : Type 0 where
  pub text : text_of 15 prescribed_example ≡ example_text
  -- −0.75, −0.5 at 180 degrees
  pub transposes : transposed right_lens ≡ toric (negsuc 5) (negsuc 3) 180
  -- −1.25 + 0.25 is −16 sixteenths
  pub equals : equivalent right_lens ≡ negsuc 15
  -- −1.25 dioptres and 62.5 mm, by their bits
  pub power : to_bits binary64 (fraction 8 (negsuc 9)) ≡ 13831680355561635840
  pub distance : to_bits binary64 (fraction 2 (pos 125)) ≡ 4633992910331707392
  -- minus zero, a sixteenth, a NaN and infinity are none
  pub minus-zero : eighths_of 9223372036854775808 ≡ none
  pub sixteenth : eighths_of 4589168020290535424 ≡ none
  pub no_number : eighths_of 9221120237041090560 ≡ none
  pub infinity : eighths_of 9218868437227405312 ≡ none
