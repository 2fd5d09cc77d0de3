-- `fill_cells` meets its contract: the blocks so far are filled. Assumes nothing.
use mathlib.Core.Path.{◌≡◌}
use mathlib.Core.List.{List}
use Prim.Native.Nat.{ℕ, ◌*◌}
use native.Mathlib.Numerals.{add-one}
use native.Mathlib.Omega.{arith}
use Rattle.combinatorics.specs.Stretch.{sum}
use Rattle.cells.specs.Cells.{Cell}
use Rattle.cells.specs.Plan.{kind_in}
use Rattle.placements.specs.Bridge.{starts_in}
use Rattle.blocks.specs.Numbers.{kind_numbers}
use Rattle.stretches.specs.Walk.{frame_by, digits_by}
use Rattle.stretches.proofs.ByBlock.{walkable, entering-first}
use Rattle.stretches.proofs.Filling.{filled-start}
use Rattle.stretches.proofs.fill.fill_cells.Goals as goal
use Rattle.stretches.proofs.fill.fill_cells.Goals.{Start}

-- ---- What the contract lends

abbrev kd : Start → ℕ → Cell
kd s = kind_in (frame_by s.args.walk s.args.heads.now (kind_numbers s.args.kinds.now) (starts_in s.args.at))

abbrev ds : Start → List ℕ
ds s = digits_by s.args.walk (kind_numbers s.args.kinds.now) s.args.digits.now

-- ---- What is left of the code

pub loop-block-init : goal.loop-block-init
unfolding sum
loop-block-init c =
    let R = c.requires.tables in
    let none : 0 * c.args.walk.head_len ≡ 0 = omega arith in (
      (entering-first (walkable R.walks), omega arith, c.next_start.ensures),
      record {
        walks = R.walks;
        digits-lent = R.digits-lent;
        message-lent = R.message-lent;
        filled = rw none (filled-start c.args.walk.n (kd (goal.at.loop-block-init c).Start) (ds (goal.at.loop-block-init c).Start) c.args.message.now c.args.word.now R.room);
      },
    )

pub loop-block-preserved : goal.loop-block-preserved
loop-block-preserved c =
    let t = c.loop-block in
    let r = c.fill_block-here.ensures in
    (rw (add-one t.block) r.1, r.0)
