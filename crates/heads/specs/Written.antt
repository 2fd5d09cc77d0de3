-- What the value of index blocks is asked for. Assumes nothing.
use Rattle.std.specs.Prelude.{◌≡◌, false, List, ℕ, ◌≤◌, ◌<◌, length, get_or, replicate}
use Rattle.cells.specs.Digits.{Place, plain}
use Rattle.construction_a.specs.Figures.{blocks}
use Rattle.construction_a.specs.Reading.{looks_fixed, first_symbols_with, written_with}
use Rattle.params.specs.declared.Layout.{Layout}
use Rattle.params.specs.Given.{figures_of}
use Rattle.heads.specs.Given.{CompleteWord}

-- the first 1 + r symbols of blocks, by the layout's own r, and what they spell
abbrev pub first_symbols_in : Layout → List ℕ → List ℕ → List ℕ
first_symbols_in l = first_symbols_with l.index_tail (figures_of l)

abbrev pub written_in : Layout → List ℕ → List ℕ → ℕ
written_in l = written_with l.index_tail (figures_of l)

-- blocks of a found word, none of which looks F
pub record OpenHeads (l : Layout) (w ks : List ℕ) : Type 0 where
  pub finding : CompleteWord l w
  pub within : (j : ℕ) → j < l.m → get_or ks j 0 < blocks (figures_of l)
  pub open-heads : (j : ℕ) → j < l.m → looks_fixed (figures_of l) w (get_or ks j 0) ≡ false

-- a block with r symbols behind its first, which is not 0
pub record LeadsIn (q r : ℕ) (block : List ℕ) : Type 0 where
  pub alphabet : 2 ≤ q
  pub room : r < length block
  pub lead : 1 ≤ get_or block 0 0

-- a plain place for each of some digits
abbrev pub plain_places : List ℕ → List Place
plain_places ds = replicate (length ds) plain
