-- `copy_lines` meets its contract: the lines so far are copied. Assumes nothing.
use Rattle.lanes.specs.Transposing.{LinesCopied}
use Rattle.lanes.proofs.tile.copy_lines.Given as goal

abbrev pub invariant-loop-k : goal.invariant-loop-k
invariant-loop-k l = LinesCopied l.at l.step l.from l.onto l.stride l.k l.initial.to l.to
