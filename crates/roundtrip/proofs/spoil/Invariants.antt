-- `spoil` meets its contract: the word is damaged before position x, and as it was from there on. Assumes nothing.
use Rattle.combinatorics.specs.Bursts.{in_burst}
use Rattle.placements.specs.Bridge.{starts_in}
use Rattle.roundtrip.proofs.Damaging.{Damaged}
use Rattle.roundtrip.proofs.spoil.Given as goal

abbrev pub invariant-loop-x : goal.invariant-loop-x
invariant-loop-x l = Damaged (in_burst l.b (starts_in l.at)) l.damage l.initial.word l.x l.word
