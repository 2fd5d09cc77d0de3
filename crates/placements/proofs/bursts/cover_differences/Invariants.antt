-- `cover_differences` meets its contract: the differences before position x lie in bursts. Assumes nothing.
use Rattle.combinatorics.proofs.Cover.{Covers}
use Rattle.placements.specs.Bridge.{starts_in, differ_at}
use Rattle.placements.proofs.bursts.cover_differences.Given as goal

abbrev pub invariant-loop-x : goal.invariant-loop-x
invariant-loop-x l = Covers (differ_at l.word l.other) l.b l.x (starts_in l.at)
