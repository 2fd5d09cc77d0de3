-- `Layout::block_head` meets its contract: the array has it. Assumes nothing.
use native.Mathlib.Omega.{arith}
use Rattle.params.proofs.Shape.{blocks-fit}
use Rattle.params.proofs.Layout.block_head.Goals as goal

pub offset_bounds-heads-k : goal.offset_bounds-heads-k
offset_bounds-heads-k c = omega (arith, blocks-fit c.args.self c.requires.0, c.requires.2)

pub bounds-heads-k : goal.bounds-heads-k
bounds-heads-k c = omega (arith, blocks-fit c.args.self c.requires.0, c.requires.2)
