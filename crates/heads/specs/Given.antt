-- What the reader's inner functions may count on: a layout's shape, and a found word of its length. Assumes nothing.
use Rattle.std.specs.Prelude.{◌≡◌, List, ℕ, length}
use Rattle.params.specs.Given.{Shaped}
use Rattle.params.specs.declared.Layout.{Layout}

-- a word that is complete
pub record CompleteWord (l : Layout) (w : List ℕ) : Type 0 where
  pub layout : Shaped l
  pub complete : length w ≡ l.n
