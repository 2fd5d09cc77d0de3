-- `last_end` meets its contract: no defect stands from x on. Assumes nothing.
use mathlib.Core.Path.{◌≡◌}
use Rattle.combinatorics.specs.Stretch.{last_end}
use Rattle.construction_a.specs.Outcomes.{defect_at}
use Rattle.placements.proofs.last_end.Given as goal

abbrev pub invariant-loop-x : goal.invariant-loop-x
invariant-loop-x l = last_end (defect_at l.map) l.x ≡ last_end (defect_at l.map) l.below
