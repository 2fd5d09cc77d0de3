-- What the writer's inner functions ask for. Assumes nothing.
use Rattle.std.specs.Prelude.{◌≡◌, true, List, ℕ, length}
use Rattle.cells.specs.Figures.{is_placement}
use Rattle.placements.specs.declared.Placement.{Placement}
use Rattle.placements.specs.Bridge.{starts_in}
use Rattle.larsson_params.specs.declared.LarssonLayout.{LarssonLayout}
use Rattle.larsson_params.specs.Given.{larsson_figures_of, LarssonLayoutFits}

-- figures that fit, a placement of their bursts, a message of k symbols and a word of n
pub record LarssonWritable (l : LarssonLayout) (at : Placement) (ms out : List ℕ) : Type 0 where
  pub layout : LarssonLayoutFits l
  pub count : at.count ≡ l.m
  pub placed : is_placement (larsson_figures_of l) (starts_in at) ≡ true
  pub sent : length ms ≡ l.message_len
  pub room : length out ≡ l.n
