-- `transpose` meets its contract: tiles, what is below them, what is beside them. Assumes nothing.
use Prim.Native.Nat.{◌*◌, ◌/◌}
use native.Mathlib.Omega.{arith}
use Rattle.lanes.proofs.Transposing.{moved-right, moved_down, moved_all}
use Rattle.lanes.proofs.transpose.transpose.Goals as goal

pub returns : goal.returns
returns c =
    let a = c.args in
    let tiles = c.move_tiles in
    let below = c.move_rows in
    let beside = c.move_columns in
    let first = tiles.new.to in
    let second = below.new.to in
    let third = beside.new.to in
    let across = a.columns / 16 * 16 in
    let down = a.rows / 16 * 16 in
    moved_all a.rows a.columns a.from.now a.to.now third c.requires.room
    (moved-right a.rows a.columns a.from.now a.to.now second third 0 across a.columns 0 a.rows (omega arith) (omega arith)
    (omega arith) (omega arith)
    (moved_down a.rows a.columns a.from.now a.to.now first second 0 across 0 down a.rows (omega arith) (omega arith) (omega arith)
    (omega arith) tiles.ensures below.ensures)
    beside.ensures)
