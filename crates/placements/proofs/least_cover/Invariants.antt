-- `least_cover` meets its contract: the scan finds the greedy placement, and ends at 0 exactly when that covers. Assumes nothing.
use Rattle.construction_a.specs.Outcomes.{defect_at}
use Rattle.placements.proofs.Scanning.{Scanning}
use Rattle.placements.proofs.least_cover.Given as goal

abbrev pub invariant-loop-i : goal.invariant-loop-i
invariant-loop-i l = Scanning l.n l.m l.b (defect_at l.map) l.i l.start l.end l.found
