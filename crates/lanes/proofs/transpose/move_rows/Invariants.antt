-- `move_rows` meets its contract: the rows so far are moved. Assumes nothing.
use Rattle.lanes.specs.Transposing.{CellsMoved}
use Rattle.lanes.proofs.transpose.move_rows.Given as goal

abbrev pub invariant-loop-j : goal.invariant-loop-j
invariant-loop-j l = CellsMoved l.rows l.columns l.from l.initial.to l.to 0 l.right l.top l.j
