-- `move_columns` meets its contract: the columns so far are moved. Assumes nothing.
use Rattle.lanes.specs.Transposing.{CellsMoved}
use Rattle.lanes.proofs.transpose.move_columns.Given as goal

abbrev pub invariant-loop-i : goal.invariant-loop-i
invariant-loop-i l = CellsMoved l.rows l.columns l.from l.initial.to l.to l.left l.i 0 l.rows
