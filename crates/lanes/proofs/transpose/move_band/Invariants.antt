-- `move_band` meets its contract: the tiles so far are moved. Assumes nothing.
use Prim.Native.Nat.{◌+◌, ◌*◌}
use Rattle.lanes.specs.Transposing.{CellsMoved}
use Rattle.lanes.proofs.transpose.move_band.Given as goal

abbrev pub invariant-loop-k : goal.invariant-loop-k
invariant-loop-k l = CellsMoved l.rows l.columns l.from l.initial.to l.to l.left (l.left + 16) 0 (l.k * 16)
