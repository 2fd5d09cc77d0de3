-- `make_calls` meets its contract. The invariant: the calls from `i` on make the rest of the outcome. Assumes nothing.
use Rattle.jobs.specs.Slots.{entries}
use Rattle.ledger.proofs.Turns.{Replaying}
use Rattle.ledger.proofs.make_calls.Given as goal

abbrev pub invariant-loop-i : goal.invariant-loop-i
invariant-loop-i l = Replaying (entries l.initial.table) l.letters l.numbers l.answers (entries l.table) l.i
