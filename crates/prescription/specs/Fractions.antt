-- Floats that are an exact count of equal parts: eighths of a dioptre, halves of a millimetre. Assumes nothing.
use Rattle.std.specs.Prelude.{ℕ, ◌*◌, ◌/◌, ◌%◌, Bool, true, false, not, ◌&&◌, ℤ, pos, negsuc, neg_ℤ, ◌==◌, unsigned_abs, Float}
use Rattle.std.proofs.Math.Option.{Option, none, some}
use Rattle.std.specs.Float.{nan, inf, fin, binary64}
use Rattle.std.specs.Float.Ieee.{up, down, round}
use Rattle.refusals.specs.Refusals.{must}

abbrev pub is_negative : ℤ → Bool
is_negative (pos n) = false
is_negative (negsuc n) = true

-- n with a sign, true for minus
abbrev pub signed : Bool → ℕ → ℤ
signed true n = neg_ℤ (pos n)
signed false n = pos n

-- "In memory powers are dioptres and the pupil distance millimetres, in floats, exact": the float nearest to c / d, which is c / d itself where d
-- is a power of two and c has at most 53 binary digits (`count-fraction`)
unfoldable pub fraction : ℕ → ℤ → Float
fraction d c = round binary64 (is_negative c) (unsigned_abs c) d

-- "minus zero": the sign, and no size
abbrev pub is_minus_zero : Bool → ℕ → Bool
is_minus_zero s m = s && m == 0

-- how many d-ths a float is, where it is a whole number of them; "minus zero and a part of an eighth included", a NaN and an infinity are none
unfoldable pub count_of : ℕ → Float → Option ℤ
count_of d nan = none
count_of d (inf s) = none
count_of d (fin s m e) = must (m * up e * d % down e == 0 && not (is_minus_zero s m)) none (some (signed s (m * up e * d / down e)))
