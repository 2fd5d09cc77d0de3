-- `Placement::unrank` meets its contract: the i starts still to come are those of the rank that is left. Assumes nothing.
use Prim.Native.Nat.{◌-◌, ◌≤◌, ◌<◌}
use Rattle.combinatorics.specs.Choose.{choose}
use Rattle.combinatorics.specs.Bursts.{starts_of}
use Rattle.combinatorics.proofs.Loops.{starts_down}
use Rattle.cells.specs.Figures.{max_word, max_count}
use Rattle.placements.proofs.Filling.{Filling}
use Rattle.placements.proofs.Placement.unrank.Given as goal

abbrev pub invariant-loop-i : goal.invariant-loop-i
invariant-loop-i l =
    (l.below ≤ max_word) × (choose l.below l.i ≤ max_count) × (l.left < choose l.below l.i)
    × Filling (starts_of l.n l.m l.b l.rank) (starts_down (l.b - 1) l.below l.i l.left) l.m l.i l.found
