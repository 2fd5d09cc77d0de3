-- `shuffle` meets its contract: the first 2 × i symbols are shuffled. Assumes nothing.
use native.Mathlib.Omega.{arith}
use lib.ListN.{length-set}
use Rattle.lanes.proofs.TileLaws.{shuffle-turn, shuffle-done}
use Rattle.lanes.proofs.tile.shuffle.Goals as goal

pub loop-i-preserved : goal.loop-i-preserved
loop-i-preserved c = (
  simp (length-set, length-set) c.loop-i.invariant.0,
  shuffle-turn c.args.from.now c.loop-i.to c.loop-i.i (omega arith) c.loop-i.invariant.0 c.loop-i.invariant.1,
)

pub returns : goal.returns
returns c = let l = c.loop-i in shuffle-done c.args.from.now l.to l.i (omega arith) (omega arith) l.invariant.0 l.invariant.1
