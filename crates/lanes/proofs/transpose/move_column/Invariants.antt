-- `move_column` meets its contract: the rows so far are moved. Assumes nothing.
use Prim.Native.Nat.{◌+◌}
use Rattle.lanes.specs.Transposing.{CellsMoved}
use Rattle.lanes.proofs.transpose.move_column.Given as goal

abbrev pub invariant-loop-j : goal.invariant-loop-j
invariant-loop-j l = CellsMoved l.rows l.columns l.from l.initial.to l.to l.i (l.i + 1) 0 l.j
