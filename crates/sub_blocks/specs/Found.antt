-- What the reader's inner functions may count on, and what the majority of a found word's sub-blocks is. Assumes nothing.
use Rattle.std.specs.Prelude.{◌≡◌, true, List, ℕ, ◌≤◌, ◌<◌, length}
use Rattle.std.proofs.Math.Option.{none, some}
use Rattle.combinatorics.specs.Lists.{all_below}
use Rattle.cells.specs.Digits.{value}
use Rattle.cells.specs.Erasures.{found_bound}
use Rattle.cells.specs.Figures.{Params}
use Rattle.larsson.specs.Figures.{sub_blocks}
use Rattle.larsson.specs.Writing.{rank_places}
use Rattle.larsson.specs.Reading.{sub_symbols, sub_value, found}
use Rattle.larsson_params.specs.declared.LarssonLayout.{LarssonLayout}
use Rattle.larsson_params.specs.Given.{LarssonLayoutFits}

-- a word that is complete, and has no value above q
pub record FoundWord (l : LarssonLayout) (w : List ℕ) : Type 0 where
  pub layout : LarssonLayoutFits l
  pub complete : length w ≡ l.n
  pub symbols : all_below (found_bound l.q) w ≡ true

-- what the symbols of sub-block i spell, where none is silent
unfoldable pub spelled_at : Params → List ℕ → ℕ → ℕ
spelled_at f w i = value f.q (rank_places f) (sub_symbols f w i)

-- a sub-block that has a value
pub record SubBlockValued (f : Params) (w : List ℕ) (i : ℕ) : Type 0 where
  pub within : i < sub_blocks f
  pub valued : sub_value f w i ≡ some (spelled_at f w i)

-- the sub-block has the value that the reader takes, or no sub-block has such a value
pub record MajorityAt (f : Params) (w : List ℕ) (i : ℕ) : Type 0 where
  pub holding : i < sub_blocks f → SubBlockValued f w i
  pub taken : i < sub_blocks f → found f w ≡ some (spelled_at f w i)
  pub nowhere : sub_blocks f ≤ i → found f w ≡ none
