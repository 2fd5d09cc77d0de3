-- `JobTable::put` meets its contract. Assumes nothing.
use Rattle.refusals.specs.Numbers.{answer_of}
use Rattle.std.proofs.Common.{sym, ◌∙◌}
use Rattle.jobs.specs.Slots.{entries}
use Rattle.jobs.proofs.SlotLaws.{put-found, put-none}
use Rattle.jobs.proofs.JobTable.put.Goals as goal

pub returns-in_default : goal.returns-in_default
returns-in_default c = λ t h. c.refuse.ensures answer_of ∙ put-none t (entries c.args.self) c.args.entry (sym c.in_default.is ∙ h)

pub returns : goal.returns
returns c = λ t h. put-found t (entries c.args.self) c.args.entry c.in-Some.i (sym c.in-Some.is ∙ h)
