-- `JobTable::cancel` meets its contract. Assumes nothing.
use Rattle.refusals.specs.Numbers.{answer_of}
use mathlib.Core.Path.{refl, ◌∙◌}
use Rattle.jobs.specs.declared.Entry.TheVariants.{Cancelled}
use Rattle.jobs.specs.declared.Before.TheVariants.{WasAbsent, WasOpen, WasOnHold}
use Rattle.jobs.specs.Table.{is_free, holds, cancel_at, add}
use Rattle.jobs.specs.Slots.{entries}
use Rattle.jobs.proofs.Decisions.{Decided, twice-refused, entry-decides, zero-refused, job-passes}
use Rattle.jobs.proofs.JobTable.cancel.Goals as goal
use Rattle.jobs.proofs.JobTable.cancel.Goals.{After-lookup-entry}

decided : (l : After-lookup-entry)
    → Decided cancel_at (entries l.args.self) l.args.number l.lookup-entry.result
decided l =
    let a = l.args in
    entry-decides cancel_at (entries a.self) a.number l.twice.ensures l.if-twice.false l.lookup-entry.ensures

pub returns-then-twice : goal.returns-then-twice
returns-then-twice c =
    let a = c.args in
    c.refuse.ensures answer_of ∙ twice-refused cancel_at (entries a.self) a.number c.twice.ensures c.if-twice.true

pub returns-then-not-is_job : goal.returns-then-not-is_job
returns-then-not-is_job c =
    let l = (goal.at.returns-then-not-is_job c).After-lookup-entry in
    let a = l.args in
    c.refuse-then-not-is_job.ensures answer_of
    ∙ zero-refused (entries a.self) a.number (add (Cancelled a.number WasAbsent) (entries a.self)) c.is_job.ensures
    c.if-not-is_job.true
    ∙ (decided l).gives _ c.in-Free.is

pub returns-in-Cancelled : goal.returns-in-Cancelled
returns-in-Cancelled c = c.refuse-in-Cancelled.ensures answer_of ∙ (decided (goal.at.returns-in-Cancelled c).After-lookup-entry).gives _ c.in-Cancelled.is

pub returns-in-Open : goal.returns-in-Open
returns-in-Open c =
    let l = (goal.at.returns-in-Open c).After-lookup-entry in
    c.put.ensures (holds c.args.number) c.slot_of.ensures.slot ∙ (decided l).stores (Cancelled l.args.number WasOpen) _ c.in-Open.is refl refl

pub returns-in-OnHold : goal.returns-in-OnHold
returns-in-OnHold c =
    let l = (goal.at.returns-in-OnHold c).After-lookup-entry in
    c.put-in-OnHold.ensures (holds c.args.number) c.slot_of-in-OnHold.ensures.slot
    ∙ (decided l).stores (Cancelled l.args.number WasOnHold) _ c.in-OnHold.is refl refl

pub returns-else-not-is_job : goal.returns-else-not-is_job
returns-else-not-is_job c =
    let l = (goal.at.returns-else-not-is_job c).After-lookup-entry in
    let a = l.args in
    c.put-in-Free.ensures is_free c.free_slot.ensures.slot
    ∙ job-passes (entries a.self) a.number (add (Cancelled a.number WasAbsent) (entries a.self)) c.is_job.ensures
    c.if-not-is_job.false
    ∙ (decided l).gives _ c.in-Free.is
