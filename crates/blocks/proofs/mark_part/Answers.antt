-- `mark_part` meets its contract: the first j blocks of the part are marked. Assumes nothing.
use mathlib.Core.Path.{◌≡◌}
use Prim.Native.Nat.{◌+◌, ◌*◌}
use native.Mathlib.Omega.{arith}
use lib.ListN.{length-set}
use Rattle.construction_a.specs.Writing.{whole, is_index_in}
use Rattle.blocks.specs.declared.Kind.TheVariants.{Index}
use Rattle.blocks.specs.Numbers.{kind_numbers}
use Rattle.blocks.specs.Blocks.{burst_set}
use Rattle.blocks.proofs.Numbers.{length-kinds, kinds-set}
use Rattle.blocks.proofs.Marks.{mark-none, mark-more, mark-same, within, within_none, within_more, within-part}
use Rattle.blocks.proofs.mark_part.Goals as goal

pub loop-j-init : goal.loop-j-init
loop-j-init c =
    let from = c.args.part * c.args.m in
    (c.requires.2, λ k. mark-none (within from 0) (kind_numbers c.args.kinds.now) k (within_none from k))

pub loop-j-preserved : goal.loop-j-preserved
loop-j-preserved c =
    let a = c.args in (
      simp length-set c.loop-j.invariant.0,
      rw (kinds-set c.loop-j.kinds (a.part * a.m + c.loop-j.j) Index)
          (mark-more (within (a.part * a.m) c.loop-j.j) (within (a.part * a.m) (c.loop-j.j + 1))
          (kind_numbers a.kinds.now) (kind_numbers c.loop-j.kinds) (a.part * a.m + c.loop-j.j) (omega (arith, length-kinds c.loop-j.kinds))
          c.loop-j.invariant.1 (within_more (a.part * a.m) c.loop-j.j)),
    )

pub returns : goal.returns
returns c =
    let a = c.args in
    let e : c.loop-j.j ≡ a.m = omega arith in
    λ k. mark-same (within (a.part * a.m) c.loop-j.j) (is_index_in a.m (burst_set (kind_numbers a.kinds.now)) (whole a.part)) (kind_numbers a.kinds.now) (kind_numbers c.loop-j.kinds) k
    (c.loop-j.invariant.1 k)
    (rw e (within-part a.m a.part k (burst_set (kind_numbers a.kinds.now)) (omega arith)))
