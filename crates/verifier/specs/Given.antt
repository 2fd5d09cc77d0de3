-- What the check's inner functions ask for. Assumes nothing.
use Rattle.std.specs.Prelude.{◌≡◌, List, ℕ, length}
use Rattle.codes.specs.declared.WordLayout.{WordLayout}
use Rattle.codes.specs.Given.{Serves}

-- the layout of figures that fit, and a word of n symbols, with room for another
pub record ExpectedWord (l : WordLayout) (w expected : List ℕ) : Type 0 where
  pub serves : Serves l
  pub complete : length w ≡ l.n
  pub room : length expected ≡ l.n
