-- A prescription as the text of a job: thirteen bytes, then zeros. Assumes nothing.
use Rattle.std.specs.Prelude.{ℕ, ◌+◌, ◌-◌, ◌*◌, ◌/◌, ◌%◌, cond, ◌&&◌, List, [], ◌∷◌, ◌++◌, length, drop, replicate, ℤ, pos, negsuc, ◌==◌, nat_eq, nat_le, nat_lt, slice_index}
use Rattle.std.proofs.Math.Option.{Option, none, some}
use Rattle.refusals.specs.Refusals.{must}
use Rattle.combinatorics.specs.Lists.{all}
use Rattle.prescription.specs.declared.fields.StoredEye.{StoredEye}
use Rattle.prescription.specs.Lens.{Lens, plano, sphere, toric}
use Rattle.prescription.specs.Eyes.{ruled, Prescribed, joined_eyes}

-- ---- An eye: "kind byte 0, 1 or 2, sphere and cylinder as signed 16-bit counts of eighths of a dioptre, high byte first, and an axis byte"

-- a signed 16-bit count as the number of its bits, and back
abbrev pub bits_of : ℤ → ℕ
bits_of (pos n) = n
bits_of (negsuc n) = 65535 - n

abbrev pub count_in : ℕ → ℤ
count_in u = cond (nat_lt u 32768) (pos u) (negsuc (65535 - u))

-- the four fields
abbrev pub fields : ℕ → ℕ → ℕ → ℕ → StoredEye
fields k s c a = record { kind = k; sphere = s; cylinder = c; axis = a }

-- "unused fields are 0"
unfoldable pub fields_of : Lens → StoredEye
fields_of plano = fields 0 0 0 0
fields_of (sphere p) = fields 1 (bits_of p) 0 0
fields_of (toric s c a) = fields 2 (bits_of s) (bits_of c) a

-- the lens of four fields that keep the rules; none for another kind, or where an unused field is not 0
unfoldable pub lens_in : StoredEye → Option Lens
lens_in f =
    cond (f.kind == 0) (must (f.sphere == 0 && f.cylinder == 0 && f.axis == 0) none (some plano))
    (cond (f.kind == 1) (must (f.cylinder == 0 && f.axis == 0) none (ruled (sphere (count_in f.sphere))))
    (cond (f.kind == 2) (ruled (toric (count_in f.sphere) (count_in f.cylinder) f.axis))
    none))

-- the four fields take six bytes
abbrev pub eye_len : ℕ
eye_len = 6

abbrev pub bytes_of : StoredEye → List ℕ
bytes_of f = f.kind ∷ f.sphere / 256 ∷ f.sphere % 256 ∷ f.cylinder / 256 ∷ f.cylinder % 256 ∷ f.axis ∷ []

-- and back
abbrev pub byte_at : List ℕ → ℕ → ℕ
byte_at text i = slice_index text i

abbrev pub fields_at : List ℕ → ℕ → StoredEye
fields_at text i =
    fields (byte_at text i) (byte_at text (i + 1) * 256 + byte_at text (i + 2)) (byte_at text (i + 3) * 256 + byte_at text (i + 4)) (byte_at text (i + 5))

-- ---- The whole: "right eye first: ..; after both eyes, one byte of pupil distance ..; then zeros"

abbrev pub stored_len : ℕ
stored_len = 13

-- as a text of t bytes, of which there are 13 at least
unfoldable pub text_of : ℕ → Prescribed → List ℕ
text_of t x = bytes_of (fields_of x.right) ++ (bytes_of (fields_of x.left) ++ (x.halves ∷ replicate (t - stored_len) 0))

-- what the first thirteen bytes stand for
abbrev pub prescribed_at : List ℕ → Option Prescribed
prescribed_at text = joined_eyes (lens_in (fields_at text 0)) (lens_in (fields_at text eye_len)) (some (pos (byte_at text 12)))

-- what a text stands for; none for "any text .. outside these rules"
unfoldable pub prescribed_in : List ℕ → Option Prescribed
prescribed_in text = must (nat_le stored_len (length text) && all (λ x. nat_eq x 0) (drop stored_len text)) none (prescribed_at text)
