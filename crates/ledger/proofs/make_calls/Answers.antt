-- `make_calls` meets its contract. The invariant: the calls from `i` on make the rest of the outcome. Assumes nothing.
use mathlib.Core.Path.{refl}
use native.Mathlib.Omega.{arith}
use Rattle.jobs.specs.Slots.{entries}
use Rattle.ledger.proofs.Turns.{call-made, calls-made}
use Rattle.ledger.proofs.make_calls.Goals as goal

pub loop-i-preserved : goal.loop-i-preserved
loop-i-preserved c =
    rw c.answer.ensures
    (call-made (entries c.args.start) c.args.letters.now c.args.numbers.now c.loop-i.answers (entries c.loop-i.table) c.loop-i.i
    c.loop-i.invariant (omega arith) c.requires.numbers_fit
    c.list_call-out.result c.list_call-out.ensures)

pub returns : goal.returns
returns c =
    calls-made (entries c.args.start) c.args.letters.now c.args.numbers.now c.loop-i.answers (entries c.loop-i.table) c.loop-i.i
    c.loop-i.invariant (omega arith) c.loop-i.table refl
