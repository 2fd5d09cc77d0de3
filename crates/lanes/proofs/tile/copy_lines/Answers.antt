-- `copy_lines` meets its contract: the lines so far are copied. Assumes nothing.
use native.Mathlib.Omega.{arith}
use Rattle.lanes.proofs.TileLaws.{lines-on}
use Rattle.lanes.proofs.tile.copy_lines.Goals as goal

pub loop-k-preserved : goal.loop-k-preserved
loop-k-preserved c =
    let a = c.args in
    let p = c.requires in
    let l = c.loop-k in
    let copied = c.copy_prefix in
    lines-on a.at a.step a.from.now a.onto a.stride l.k a.to.now l.to copied.new.to p.0 p.1
    (omega arith) copied.ensures l.invariant
