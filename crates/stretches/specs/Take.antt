-- What taking a message out of a word block by block asks for, and gives back. Assumes nothing.
use Rattle.std.specs.Prelude.{◌≡◌, List, ◌++◌, ℕ, ◌+◌, ◌-◌, ◌≤◌, ◌<◌, length, take, drop}
use Rattle.combinatorics.specs.Stretch.{tabulate}
use Rattle.cells.specs.Cells.{Cell, message, pick}
use Rattle.cells.specs.Plan.{kind_in}
use Rattle.cells.proofs.Walk.{tally}
use Rattle.cells.specs.Figures.{max_word}
use Rattle.placements.specs.declared.Placement.{Placement}
use Rattle.placements.specs.Bridge.{starts_in}
use Rattle.stretches.specs.declared.Walk.{Walk}
use Rattle.stretches.specs.declared.taking.Taking.{Taking}
use Rattle.stretches.specs.Walk.{frame_by, next_start}
use Rattle.stretches.specs.ByBlock.{EntersBlock, PlacedIn, Walks}
use Rattle.stretches.specs.Fill.{MessageFor}

-- a placement's blocks, a complete word, and a buffer for its message
pub record Takeable (w : Walk) (at : Placement) (heads kinds ws out : List ℕ) : Type 0 where
  pub walks : Walks w at heads kinds
  pub whole : length ws ≡ w.n
  pub room : MessageFor w at heads kinds out

-- a complete word over an alphabet, and a placement of its bursts
pub record Scannable (w : Walk) (q : ℕ) (at : Placement) (ws : List ℕ) : Type 0 where
  pub bursts : PlacedIn w at
  pub alphabet : 1 ≤ q
  pub short : w.b ≤ max_word
  pub whole : length ws ≡ w.n

-- the message cells before x are taken out of w, of n cells; what lies behind them may be anything
pub record Taken (n : ℕ) (kd : ℕ → Cell) (w : List ℕ) (x : ℕ) (out : List ℕ) (taken : ℕ) : Type 0 where
  pub made : take taken out ≡ pick message (tabulate x 0 kd) w
  pub count : taken ≡ tally message (tabulate x 0 kd)
  pub size : tally message (tabulate n 0 kd) ≡ length out

-- a message that is taken so far, with the word that the rest is taken from
pub record Takes (w : Walk) (at : Placement) (heads kinds ws out : List ℕ) (x taken : ℕ) : Type 0 where
  pub walks : Walks w at heads kinds
  pub whole : length ws ≡ w.n
  pub so_far : Taken w.n (kind_in (frame_by w heads kinds (starts_in at))) ws x out taken

-- the message is taken up to here
abbrev pub TakenTo : Walk → Placement → List ℕ → List ℕ → List ℕ → List ℕ → Taking → Type 0
TakenTo w at heads kinds ws out here = Takes w at heads kinds ws out here.at here.taken

-- the walk comes to a block, or to the word's end
abbrev pub ComesTo : Walk → Placement → List ℕ → List ℕ → ℕ → Taking → Type 0
ComesTo w at heads kinds block here = EntersBlock (frame_by w heads kinds (starts_in at)) w.b (starts_in at) block here.at here.passed
    × (here.stop ≡ next_start w.n (starts_in at) here.passed)

abbrev pub Enters : Walk → Placement → List ℕ → List ℕ → ℕ → Taking → Type 0
Enters w at heads kinds block here = (block < w.blocks) × ComesTo w at heads kinds block here

-- the cells up to a position stand behind what was taken
pub record CellsTaken (ws before after : List ℕ) (to : ℕ) (from here : Taking) : Type 0 where
  pub at-is : here.at ≡ to
  pub taken_is : here.taken ≡ from.taken + (to - from.at)
  pub passed_is : here.passed ≡ from.passed
  pub stop_is : here.stop ≡ from.stop
  pub made : take (from.taken + (to - from.at)) after ≡ take from.taken before ++ take (to - from.at) (drop from.at ws)
  pub size : length after ≡ length before
