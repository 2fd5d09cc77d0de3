-- `Placement::apart` meets its contract: the bursts from j on are apart past `free` exactly when all are. Assumes nothing.
use mathlib.Core.Path.{◌≡◌}
use Prim.Native.Nat.{◌+◌, ◌^◌, ◌<◌}
use lib.ListN.{drop}
use Rattle.combinatorics.specs.Bursts.{apart}
use Rattle.placements.specs.Bridge.{starts_in}
use Rattle.placements.proofs.Placement.apart.Given as goal

abbrev pub invariant-loop-j : goal.invariant-loop-j
invariant-loop-j l =
    (l.free < 2 ^ 16 + l.b) × (apart l.b l.n l.free (drop l.j (starts_in l.self)) ≡ apart l.b l.n 0 (starts_in l.self))
