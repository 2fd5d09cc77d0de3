-- What filling a word block by block asks for, and gives back. Assumes nothing.
use Rattle.std.specs.Prelude.{◌≡◌, List, ◌++◌, ℕ, suc, ◌+◌, ◌-◌, ◌*◌, ◌≤◌, ◌<◌, length, take, drop, replicate}
use Rattle.combinatorics.specs.Stretch.{tabulate}
use Rattle.cells.specs.Cells.{Cell, digit, message, weave}
use Rattle.cells.specs.Plan.{kind_in, plan_in}
use Rattle.cells.proofs.Walk.{tally}
use Rattle.placements.specs.declared.Placement.{Placement}
use Rattle.placements.specs.Bridge.{starts_in}
use Rattle.stretches.specs.declared.Walk.{Walk}
use Rattle.stretches.specs.declared.fill.Filling.{Filling}
use Rattle.stretches.specs.Walk.{frame_by, index_before, digits_by, next_start}
use Rattle.stretches.specs.ByBlock.{EntersBlock, Past, Walks}

-- digits for the head of each index block
abbrev pub DigitsFor : Walk → List ℕ → List ℕ → Type 0
DigitsFor w kinds ds = (j : ℕ) → j < index_before kinds w.blocks → j * w.digit_step + w.head_len ≤ length ds

-- a symbol for each cell of the message
abbrev pub MessageFor : Walk → Placement → List ℕ → List ℕ → List ℕ → Type 0
MessageFor w at heads kinds ms = tally message (plan_in (frame_by w heads kinds (starts_in at))) ≡ length ms

-- a placement's blocks, digits, a message and room for the word
pub record Fillable (w : Walk) (at : Placement) (heads kinds ds ms out : List ℕ) : Type 0 where
  pub walks : Walks w at heads kinds
  pub digits-lent : DigitsFor w kinds ds
  pub message-lent : MessageFor w at heads kinds ms
  pub room : length out ≡ w.n

-- the cells before x are filled, from so many digits and so much of the message; what lies behind them may be anything
pub record Filled (n : ℕ) (kd : ℕ → Cell) (ds ms : List ℕ) (x : ℕ) (out : List ℕ) (spelled sent : ℕ) : Type 0 where
  pub made : take x out ≡ weave (tabulate x 0 kd) ds ms
  pub digits : spelled ≡ tally digit (tabulate x 0 kd)
  pub message : sent ≡ tally message (tabulate x 0 kd)
  pub size : length out ≡ n

-- a word that is filled so far, with the digits and the message that the rest is filled from
pub record Resumes (w : Walk) (at : Placement) (heads kinds ds ms out : List ℕ) (x indexed sent : ℕ) : Type 0 where
  pub walks : Walks w at heads kinds
  pub digits-lent : DigitsFor w kinds ds
  pub message-lent : MessageFor w at heads kinds ms
  pub filled : Filled w.n (kind_in (frame_by w heads kinds (starts_in at))) (digits_by w kinds ds) ms x out (indexed * w.head_len) sent

-- ---- What the functions that fill a block ask for, and give back

-- the word is filled up to here
abbrev pub FilledTo : Walk → Placement → List ℕ → List ℕ → List ℕ → List ℕ → List ℕ → Filling → Type 0
FilledTo w at heads kinds ds ms out here = Resumes w at heads kinds ds ms out here.at here.indexed here.sent

-- the walk comes to a block, or to the word's end, past the index blocks before it
abbrev pub ComesTo : Walk → Placement → List ℕ → List ℕ → ℕ → Filling → Type 0
ComesTo w at heads kinds block here =
    EntersBlock (frame_by w heads kinds (starts_in at)) w.b (starts_in at) block here.at here.passed × (here.indexed ≡ index_before kinds block)
    × (here.stop ≡ next_start w.n (starts_in at) here.passed)

abbrev pub Enters : Walk → Placement → List ℕ → List ℕ → ℕ → Filling → Type 0
Enters w at heads kinds block here = (block < w.blocks) × ComesTo w at heads kinds block here

-- the walk has passed a block's head
abbrev pub HeadPassed : Walk → Placement → List ℕ → List ℕ → ℕ → Filling → Type 0
HeadPassed w at heads kinds block here =
    Past (frame_by w heads kinds (starts_in at)) w.b (starts_in at) block here.at here.passed × (here.indexed ≡ index_before kinds (suc block))
    × (here.stop ≡ next_start w.n (starts_in at) here.passed)

-- the next symbols of the message stand in the cells up to a position
pub record MessageFilled (ms before after : List ℕ) (to : ℕ) (from here : Filling) : Type 0 where
  pub at-is : here.at ≡ to
  pub indexed-is : here.indexed ≡ from.indexed
  pub sent_is : here.sent ≡ from.sent + (to - from.at)
  pub passed_is : here.passed ≡ from.passed
  pub stop_is : here.stop ≡ from.stop
  pub made : take to after ≡ take from.at before ++ take (to - from.at) (drop from.sent ms)
  pub size : length after ≡ length before

-- and 0 in the cells of the next burst
pub record BurstFilled (b : ℕ) (before after : List ℕ) (from here : Filling) : Type 0 where
  pub at-is : here.at ≡ from.at + b
  pub indexed-is : here.indexed ≡ from.indexed
  pub sent_is : here.sent ≡ from.sent
  pub passed_is : here.passed ≡ from.passed + 1
  pub made : take (from.at + b) after ≡ take from.at before ++ replicate b 0
  pub size : length after ≡ length before
