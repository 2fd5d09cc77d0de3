-- What an eye is, without its data, and the byte of each kind. Assumes nothing.
use Rattle.std.specs.Prelude.{◌≡◌, ℕ, ◌<◌, Result, MatchResult}
use Rattle.refusals.specs.declared.Refusal.{Refusal}
use Rattle.refusals.specs.declared.Refusal.TheVariants.{Prescription}
use Rattle.prescription.specs.declared.eyes.Eye.{Eye}
use Rattle.prescription.specs.declared.eyes.Eye.TheVariants.{Plano as PlanoEye, Sphere as SphereEye, Toric as ToricEye}
use Rattle.prescription.specs.declared.eyes.Kind.{Kind}
use Rattle.prescription.specs.declared.eyes.Kind.TheVariants.{Plano, Sphere, Toric}

-- "kind byte 0, 1 or 2" of "plano, a sphere with its power, or a toric with sphere, cylinder and axis"
abbrev pub byte_of : Kind → ℕ
byte_of Plano = 0
byte_of Sphere = 1
byte_of Toric = 2

abbrev pub kind_of_eye : Eye → Kind
kind_of_eye PlanoEye = Plano
kind_of_eye (SphereEye p) = Sphere
kind_of_eye (ToricEye s c a) = Toric

-- the kind of a byte, or 16 of a byte that is none's
abbrev pub NamesKind : ℕ → Result Kind Refusal → Type 0
NamesKind byte r = MatchResult r (λ kind. byte_of kind ≡ byte) (λ e. (e ≡ Prescription) × (2 < byte))
