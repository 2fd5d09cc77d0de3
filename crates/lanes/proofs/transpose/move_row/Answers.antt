-- `move_row` meets its contract: the columns so far are moved. Assumes nothing.
use mathlib.Core.Path.{◌∙◌}
use Prim.Native.Nat.{◌+◌, ◌*◌}
use native.Mathlib.Omega.{arith}
use lib.ListN.{get_or, set}
use Rattle.lanes.specs.Transposing.{CellsMoved}
use Rattle.lanes.proofs.Transposing.{moved-cell, moved-right}
use Rattle.lanes.proofs.transpose.move_row.Goals as goal
use Rattle.lanes.proofs.transpose.move_row.Goals.{In-loop-i}

-- it is moved
cell-moved : (c : In-loop-i) → (let a = c.args in let l = c.loop-i in
    CellsMoved a.rows a.columns a.from.now l.to (set l.to (l.i * a.rows + a.j) (get_or a.from.now (a.j * a.columns + l.i) 0))
    l.i (l.i + 1) a.j (a.j + 1))
cell-moved c =
    let a = c.args in
    let p = c.requires in
    let l = c.loop-i in
    moved-cell a.rows a.columns a.from.now l.to l.i a.j (l.invariant.size ∙ p.0.room) (omega arith) p.2

pub loop-i-preserved : goal.loop-i-preserved
loop-i-preserved c =
    let a = c.args in
    let l = c.loop-i in
    moved-right a.rows a.columns a.from.now a.to.now l.to _ 0 l.i (l.i + 1) a.j (a.j + 1)
    (omega arith) (omega arith) (omega arith) (omega arith) l.invariant (cell-moved (goal.at.loop-i-preserved c).In-loop-i)
