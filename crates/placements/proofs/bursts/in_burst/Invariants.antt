-- `in_burst` meets its contract: the bursts before j don't have the position. Assumes nothing.
use mathlib.Core.Path.{◌≡◌}
use lib.ListN.{drop}
use Rattle.combinatorics.specs.Bursts.{in_burst}
use Rattle.placements.specs.Bridge.{starts_in}
use Rattle.placements.proofs.bursts.in_burst.Given as goal

abbrev pub invariant-loop-j : goal.invariant-loop-j
invariant-loop-j l = (in_burst l.b (drop l.j (starts_in l.at)) l.x ≡ in_burst l.b (starts_in l.at) l.x)
