-- What is asked of a layout and a placement where sub-blocks bear the rank, and what the array of their kinds says. Assumes nothing.
use Rattle.std.specs.Prelude.{◌≡◌, cond, List, ℕ, ◌<◌, get_or}
use Rattle.cells.specs.Figures.{Params}
use Rattle.larsson.specs.Figures.{sub_blocks}
use Rattle.larsson.specs.Writing.{bears}
use Rattle.placements.specs.declared.Placement.{Placement}
use Rattle.blocks.specs.Blocks.{burst_kind, index_kind}
use Rattle.larsson_params.specs.declared.LarssonLayout.{LarssonLayout}
use Rattle.larsson_params.specs.Given.{LarssonLayoutFits}

-- m starts, and sub-blocks that have a symbol
pub record BurstsOfLayout (l : LarssonLayout) (at : Placement) : Type 0 where
  pub layout : LarssonLayoutFits l
  pub count : at.count ≡ l.m
  pub some : 0 < l.sub_len

-- an array that has the kind of each sub-block: an index block where it bears the rank. Every other, touched by a run or not, is walked as a burst block:
-- it has no head cells (`head_cells`), and what no run has of it holds the message
abbrev pub BearersOf : Params → List ℕ → List ℕ → Type 0
BearersOf f ss kinds = (i : ℕ) → i < sub_blocks f → get_or kinds i 0 ≡ cond (bears f ss i) index_kind burst_kind
