-- `move_column` meets its contract: the rows so far are moved. Assumes nothing.
use mathlib.Core.Path.{◌∙◌}
use Prim.Native.Nat.{◌+◌, ◌*◌}
use native.Mathlib.Omega.{arith}
use lib.ListN.{get_or, set}
use Rattle.lanes.specs.Transposing.{CellsMoved}
use Rattle.lanes.proofs.Transposing.{moved-cell, moved_down}
use Rattle.lanes.proofs.transpose.move_column.Goals as goal
use Rattle.lanes.proofs.transpose.move_column.Goals.{In-loop-j}

-- it is moved
cell-moved : (c : In-loop-j) → (let a = c.args in let l = c.loop-j in
    CellsMoved a.rows a.columns a.from.now l.to (set l.to (a.i * a.rows + l.j) (get_or a.from.now (l.j * a.columns + a.i) 0))
    a.i (a.i + 1) l.j (l.j + 1))
cell-moved c =
    let a = c.args in
    let p = c.requires in
    let l = c.loop-j in
    moved-cell a.rows a.columns a.from.now l.to a.i l.j (l.invariant.size ∙ p.0.room) p.1 (omega arith)

pub loop-j-preserved : goal.loop-j-preserved
loop-j-preserved c =
    let a = c.args in
    let l = c.loop-j in
    moved_down a.rows a.columns a.from.now a.to.now l.to _ a.i (a.i + 1) 0 l.j (l.j + 1)
    (omega arith) (omega arith) (omega arith) (omega arith) l.invariant (cell-moved (goal.at.loop-j-preserved c).In-loop-j)
