-- `move_row` meets its contract: the columns so far are moved. Assumes nothing.
use Prim.Native.Nat.{◌+◌}
use Rattle.lanes.specs.Transposing.{CellsMoved}
use Rattle.lanes.proofs.transpose.move_row.Given as goal

abbrev pub invariant-loop-i : goal.invariant-loop-i
invariant-loop-i l = CellsMoved l.rows l.columns l.from l.initial.to l.to 0 l.i l.j (l.j + 1)
