-- `spoil_defects` meets its contract: the strip is damaged before position x, and as it was from there on. Assumes nothing.
use Rattle.cells.specs.Outcomes.{defect_at}
use Rattle.roundtrip.proofs.Damaging.{Damaged}
use Rattle.lanes_roundtrip.proofs.defects.spoil_defects.Given as goal

abbrev pub invariant-loop-x : goal.invariant-loop-x
invariant-loop-x l = Damaged (defect_at l.map) l.damage l.initial.interleaved l.x l.interleaved
