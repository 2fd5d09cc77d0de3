-- `take_message` meets its contract: the message of the blocks so far is taken. Assumes nothing.
use Prim.Native.Nat.{ℕ}
use Rattle.cells.specs.Cells.{Cell}
use Rattle.cells.specs.Plan.{kind_in}
use Rattle.placements.specs.Bridge.{starts_in}
use Rattle.blocks.specs.Numbers.{kind_numbers}
use Rattle.stretches.specs.Walk.{frame_by}
use Rattle.stretches.proofs.ByBlock.{walkable, entering-first}
use Rattle.stretches.proofs.Picking.{taken_start}
use Rattle.stretches.proofs.taking.take_message.Goals as goal
use Rattle.stretches.proofs.taking.take_message.Goals.{Start}

-- ---- What the contract lends

abbrev kd : Start → ℕ → Cell
kd s = kind_in (frame_by s.args.walk s.args.heads.now (kind_numbers s.args.kinds.now) (starts_in s.args.at))

-- ---- What is left of the code

pub loop-block-init : goal.loop-block-init
loop-block-init c =
    let R = c.requires.tables in (
      (entering-first (walkable R.walks), c.next_start.ensures),
      record { walks = R.walks; whole = R.whole; so_far = taken_start c.args.walk.n (kd (goal.at.loop-block-init c).Start) c.args.word.now c.args.message.now R.room },
    )
