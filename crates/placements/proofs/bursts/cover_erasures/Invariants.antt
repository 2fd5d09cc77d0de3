-- `cover_erasures` meets its contract: the erasures before `from` lie in bursts, and those from burst j on decide. Assumes nothing.
use lib.ListN.{drop}
use Rattle.placements.specs.Bridge.{starts_in}
use Rattle.placements.proofs.Positions.{Tested}
use Rattle.placements.proofs.bursts.cover_erasures.Given as goal

abbrev pub invariant-loop-j : goal.invariant-loop-j
invariant-loop-j l = Tested l.b l.q l.word (starts_in l.at) l.from (drop l.j (starts_in l.at))
