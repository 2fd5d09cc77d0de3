-- `JobTable::release` meets its contract. Assumes nothing.
use Rattle.refusals.specs.Numbers.{answer_of}
use mathlib.Core.Path.{refl, ◌∙◌}
use Rattle.jobs.specs.declared.Entry.TheVariants.{Open}
use Rattle.jobs.specs.Table.{holds, release_at}
use Rattle.jobs.specs.Slots.{entries}
use Rattle.jobs.proofs.Decisions.{Decided, twice-refused, entry-decides}
use Rattle.jobs.proofs.JobTable.release.Goals as goal
use Rattle.jobs.proofs.JobTable.release.Goals.{After-lookup-entry}

decided : (l : After-lookup-entry)
    → Decided release_at (entries l.args.self) l.args.number l.lookup-entry.result
decided l =
    let a = l.args in
    entry-decides release_at (entries a.self) a.number l.twice.ensures l.if-twice.false l.lookup-entry.ensures

pub returns-then-twice : goal.returns-then-twice
returns-then-twice c =
    let a = c.args in
    c.refuse.ensures answer_of ∙ twice-refused release_at (entries a.self) a.number c.twice.ensures c.if-twice.true

pub returns-in-Cancelled : goal.returns-in-Cancelled
returns-in-Cancelled c = c.refuse-in-Cancelled.ensures answer_of ∙ (decided (goal.at.returns-in-Cancelled c).After-lookup-entry).gives _ c.in-Cancelled.is

pub returns-in-OnHold : goal.returns-in-OnHold
returns-in-OnHold c =
    let l = (goal.at.returns-in-OnHold c).After-lookup-entry in
    c.put.ensures (holds c.args.number) c.slot_of.ensures.slot ∙ (decided l).stores (Open l.args.number) _ c.in-OnHold.is refl refl

pub returns-in-Open : goal.returns-in-Open
returns-in-Open c = c.refuse-in-Open.ensures answer_of ∙ (decided (goal.at.returns-in-Open c).After-lookup-entry).gives _ c.in-Open.is

pub returns-in-Free : goal.returns-in-Free
returns-in-Free c = c.refuse-in-Free.ensures answer_of ∙ (decided (goal.at.returns-in-Free c).After-lookup-entry).gives _ c.in-Free.is
