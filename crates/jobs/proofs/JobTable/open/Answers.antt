-- `JobTable::open` meets its contract. Assumes nothing.
use Rattle.refusals.specs.Numbers.{answer_of}
use mathlib.Core.Path.{◌≡◌, refl, ◌∙◌}
use Rattle.jobs.specs.declared.Entry.{Entry}
use Rattle.jobs.specs.Table.{is_free, lookup, open_job, open_at, decide}
use Rattle.jobs.specs.Slots.{entries}
use Rattle.jobs.proofs.Decisions.{twice-refused, entry-decides, zero-refused, job-passes}
use Rattle.jobs.proofs.JobTable.open.Goals as goal
use Rattle.jobs.proofs.JobTable.open.Goals.{After-lookup-entry}

-- past 1 and 17 the number's entry decides
decided : (l : After-lookup-entry) (f : Entry) → l.lookup-entry.result ≡ f
    → let a = l.args in
    open_job f a.number (entries a.self) ≡ decide open_at (entries a.self) a.number
decided l f g =
    let t = l.before.before.before in
    let a = t.args in
    let es = entries a.self in
    job-passes es a.number (open_job f a.number es) l.is_job.ensures l.if-not-is_job.false
    ∙ (entry-decides open_at es a.number t.twice.ensures t.if-twice.false l.lookup-entry.ensures).gives f g

pub returns-then-twice : goal.returns-then-twice
returns-then-twice c =
    let a = c.args in
    c.refuse.ensures answer_of ∙ twice-refused open_at (entries a.self) a.number c.twice.ensures c.if-twice.true

pub returns-then-not-is_job : goal.returns-then-not-is_job
returns-then-not-is_job c =
    let t = c in
    let a = t.args in
    let es = entries a.self in
    let e = lookup es a.number in
    c.refuse-then-not-is_job.ensures answer_of
    ∙ zero-refused es a.number (open_job e a.number es) c.is_job.ensures c.if-not-is_job.true
    ∙ (entry-decides open_at es a.number t.twice.ensures t.if-twice.false refl).gives e refl

pub returns-in-Cancelled : goal.returns-in-Cancelled
returns-in-Cancelled c = c.refuse-in-Cancelled.ensures answer_of ∙ decided (goal.at.returns-in-Cancelled c).After-lookup-entry _ c.in-Cancelled.is

pub returns-in-Open : goal.returns-in-Open
returns-in-Open c = c.refuse-in-Open.ensures answer_of ∙ decided (goal.at.returns-in-Open c).After-lookup-entry _ c.in-Open.is

pub returns-in-OnHold : goal.returns-in-OnHold
returns-in-OnHold c = c.refuse-in-OnHold.ensures answer_of ∙ decided (goal.at.returns-in-OnHold c).After-lookup-entry _ c.in-OnHold.is

pub returns-in-Free : goal.returns-in-Free
returns-in-Free c = c.put.ensures is_free c.free_slot.ensures.slot ∙ decided (goal.at.returns-in-Free c).After-lookup-entry _ c.in-Free.is
