-- `Placement::rank` meets its contract: what is summed and what the bursts from j on add make the rank. Assumes nothing.
use mathlib.Core.Path.{◌≡◌}
use Prim.Native.Nat.{◌+◌, ◌-◌}
use lib.ListN.{drop}
use Rattle.combinatorics.specs.Bursts.{rank_of}
use Rattle.combinatorics.proofs.Loops.{rank_left}
use Rattle.placements.specs.Bridge.{starts_in}
use Rattle.placements.proofs.Placement.rank.Given as goal

abbrev pub invariant-loop-j : goal.invariant-loop-j
invariant-loop-j l =
    (l.rank + rank_left (l.b - 1) l.j (drop l.j (starts_in l.self)) ≡ rank_of l.b (starts_in l.self))
