-- What the inner functions on counts answer and ask for. Assumes nothing.
use Rattle.std.specs.Prelude.{◌≡◌, ℕ, ◌+◌, ◌-◌, ◌/◌, ◌%◌, ◌^◌, ◌≤◌, Bool, not, ◌&&◌, List, ◌∷◌, ◌++◌, length, replicate, ℤ, pos, negsuc, ◌==◌, nat_le, nat_lt, slice_set, unsigned_abs, Some, None}
use Rattle.std.specs.Prelude.{Option as Optional}
use Rattle.std.proofs.Math.Option.{Option, none, some}
use Rattle.refusals.specs.Refusals.{must, served, bad_prescription}
use Rattle.prescription.specs.declared.fields.StoredEye.{StoredEye}
use Rattle.prescription.specs.Lens.{Lens, in_power_range}
use Rattle.prescription.specs.Stored.{bits_of, count_in, fields_of, bytes_of, stored_len}
use Rattle.prescription.specs.Eyes.{is_distance}
use Rattle.prescription.specs.Outcomes.{Written, written_text}

-- so many parts that floats have them exactly: a power of two
pub record PowerOfTwo (d : ℕ) : Type 0 where
  pub exponent : ℕ
  pub small : exponent ≤ 15
  pub is : d ≡ 2 ^ exponent

-- sizes of signed 16-bit counts are below
abbrev pub limit : ℕ
limit = 32768

abbrev pub count_as : Optional ℕ → Option ℕ
count_as (Some n) = some n
count_as None = none

-- a count that is not negative and in reach
abbrev pub size_in : Option ℤ → Option ℕ
size_in none = none
size_in (some (pos n)) = must (nat_lt n limit) none (some n)
size_in (some (negsuc n)) = none

-- the bits of a count in reach
abbrev pub bits_in : Option ℤ → Option ℕ
bits_in none = none
bits_in (some c) = must (nat_lt (unsigned_abs c) limit) none (some (bits_of c))

abbrev pub negated_as : Option ℕ → Option ℕ
negated_as none = none
negated_as (some n) = some ((65536 - n) % 65536)

-- ---- Stored eyes

abbrev pub stored_as : Optional StoredEye → Option StoredEye
stored_as (Some e) = some e
stored_as None = none

abbrev pub stored_of : Option Lens → Option StoredEye
stored_of none = none
stored_of (some l) = some (fields_of l)

-- a toric's fields keep the rules; t are the bits of sphere plus cylinder
abbrev pub toric_keeps : ℕ → ℕ → ℕ → ℕ → Bool
toric_keeps s t c a = in_power_range (count_in s) && in_power_range (count_in t) && not (c == 0) && (nat_le 1 a && nat_le a 180)

-- ---- Texts

-- six bytes of an eye in a text
abbrev pub with_eye : List ℕ → ℕ → StoredEye → List ℕ
with_eye t at e =
    slice_set (slice_set (slice_set (slice_set (slice_set (slice_set t at e.kind) (at + 1) (e.sphere / 256)) (at + 2) (e.sphere % 256)) (at + 3) (e.cylinder / 256)) (at + 4)
    (e.cylinder % 256))
    (at + 5) e.axis

-- a text of t bytes that holds both eyes and the pupil distance
unfoldable pub stored_text : ℕ → StoredEye → StoredEye → ℕ → List ℕ
stored_text t r l h = bytes_of r ++ (bytes_of l ++ (h ∷ replicate (t - stored_len) 0))

-- it is stored where the distance keeps the rule
unfoldable pub stored_out : List ℕ → StoredEye → StoredEye → ℕ → Written
stored_out text r l h = must (is_distance h) (written_text bad_prescription text) (written_text served (stored_text (length text) r l h))
