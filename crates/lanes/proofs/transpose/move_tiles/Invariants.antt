-- `move_tiles` meets its contract: the bands so far are moved. Assumes nothing.
use Prim.Native.Nat.{◌*◌}
use Rattle.lanes.specs.Transposing.{CellsMoved}
use Rattle.lanes.proofs.transpose.move_tiles.Given as goal

abbrev pub invariant-loop-k : goal.invariant-loop-k
invariant-loop-k l = CellsMoved l.rows l.columns l.from l.initial.to l.to 0 (l.k * 16) 0 (l.down * 16)
