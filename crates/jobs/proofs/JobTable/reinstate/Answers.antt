-- `JobTable::reinstate` meets its contract. Assumes nothing.
use Rattle.refusals.specs.Numbers.{answer_of}
use mathlib.Core.Path.{refl, ◌∙◌}
use Rattle.jobs.specs.Table.{holds, reinstate_at}
use Rattle.jobs.specs.Slots.{entries}
use Rattle.jobs.proofs.Decisions.{Decided, twice-refused, entry-decides}
use Rattle.jobs.proofs.JobTable.reinstate.Goals as goal
use Rattle.jobs.proofs.JobTable.reinstate.Goals.{After-lookup-entry}

decided : (l : After-lookup-entry)
    → Decided reinstate_at (entries l.args.self) l.args.number l.lookup-entry.result
decided l =
    let a = l.args in
    entry-decides reinstate_at (entries a.self) a.number l.twice.ensures l.if-twice.false l.lookup-entry.ensures

pub returns-then-twice : goal.returns-then-twice
returns-then-twice c =
    let a = c.args in
    c.refuse.ensures answer_of ∙ twice-refused reinstate_at (entries a.self) a.number c.twice.ensures c.if-twice.true

pub returns-in-Cancelled : goal.returns-in-Cancelled
returns-in-Cancelled c =
    c.put.ensures (holds c.args.number) c.slot_of.ensures.slot
    ∙ (decided (goal.at.returns-in-Cancelled c).After-lookup-entry).stores c.restored.result _ c.in-Cancelled.is refl
    (rw c.restored.ensures)

pub returns-in-Open : goal.returns-in-Open
returns-in-Open c = c.refuse-in-Open.ensures answer_of ∙ (decided (goal.at.returns-in-Open c).After-lookup-entry).gives _ c.in-Open.is

pub returns-in-OnHold : goal.returns-in-OnHold
returns-in-OnHold c = c.refuse-in-OnHold.ensures answer_of ∙ (decided (goal.at.returns-in-OnHold c).After-lookup-entry).gives _ c.in-OnHold.is

pub returns-in-Free : goal.returns-in-Free
returns-in-Free c = c.refuse-in-Free.ensures answer_of ∙ (decided (goal.at.returns-in-Free c).After-lookup-entry).gives _ c.in-Free.is
