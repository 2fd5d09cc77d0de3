-- `spoil_defects` meets its contract: the strip is damaged before position x, and as it was from there on. Assumes nothing.
use native.Mathlib.Omega.{arith}
use Rattle.cells.specs.Outcomes.{defect_at}
use Rattle.roundtrip.proofs.Damaging.{damage-done}
use Rattle.lanes_roundtrip.proofs.defects.spoil_defects.Goals as goal

pub returns : goal.returns
returns c =
    let a = c.args in
    let t = c.loop-x in
    damage-done (defect_at a.map.now) a.damage.now a.interleaved.now t.x t.interleaved t.invariant
    (omega (arith, t.invariant.size, c.loop-x-test.false))
