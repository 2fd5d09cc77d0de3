-- What inner functions of the layers above may count on: a layout of figures that fit the Larsson code. Assumes nothing.
use Rattle.std.specs.Prelude.{◌≡◌, true, List, ℕ, ◌<◌, get_or}
use Rattle.cells.specs.Figures.{Params, params, in_range}
use Rattle.larsson.specs.Figures.{sub_blocks, sub_start, fits}
use Rattle.larsson_params.specs.declared.LarssonLayout.{LarssonLayout}
use Rattle.larsson_params.specs.Answer.{LarssonLaidOut}

-- the figures of a layout
abbrev pub larsson_figures_of : LarssonLayout → Params
larsson_figures_of l = params l.n l.q l.m l.b

-- they fit, and the layout is theirs
pub record LarssonLayoutFits (l : LarssonLayout) : Type 0 where
  pub range : in_range (larsson_figures_of l) ≡ true
  pub fit : fits (larsson_figures_of l) ≡ true
  pub laid : LarssonLaidOut (larsson_figures_of l) l

-- the first position of each sub-block, and behind them the word's length
abbrev pub SubStartsOf : Params → List ℕ → Type 0
SubStartsOf f starts = ((i : ℕ) → i < sub_blocks f → get_or starts i 0 ≡ sub_start f i) × (get_or starts (sub_blocks f) 0 ≡ f.n)
