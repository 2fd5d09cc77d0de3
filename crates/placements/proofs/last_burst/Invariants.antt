-- `last_burst` meets its contract: the number sought lies from `low` on and below `high`. Assumes nothing.
use mathlib.Core.Path.{◌≡◌}
use Prim.Native.Nat.{◌-◌, ◌≤◌, ◌<◌}
use Rattle.combinatorics.specs.Choose.{choose}
use Rattle.placements.proofs.last_burst.Given as goal

abbrev pub invariant-loop-low : goal.invariant-loop-low
invariant-loop-low l =
    (l.low < l.high) × (l.high ≤ l.below) × (choose l.low l.number ≤ l.rank) × (l.rank < choose l.high l.number) × (l.share ≡ choose l.low l.number)

abbrev pub decreases-loop-low : goal.decreases-loop-low
decreases-loop-low l = l.high - l.low
