-- `placement_from` meets its contract: no starts where the bytes are not theirs, and otherwise those that the bytes are. Assumes nothing.
use mathlib.Core.Path.{◌≡◌, ap, ◌∙◌}
use Prim.Native.Nat.{◌*◌}
use native.Mathlib.Omega.{arith}
use lib.ListN.{length}
use Rattle.cells.specs.Outcomes.{held}
use Rattle.lent.proofs.StartLaws.{starts-read}
use Rattle.lent.proofs.Covering.{placed-all}
use Rattle.lent.proofs.starts.placement_from.Goals as goal

pub returns : goal.returns
returns c =
    let a = c.args in
    let bs = a.bytes.now in
    let size : length bs ≡ 2 * a.m = c.if-bytes-m.false in
    c.placement_at.ensures ∙ ap held (starts-read bs a.m size) ∙ placed-all a.m bs (omega arith) size
