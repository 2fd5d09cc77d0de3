-- `JobTable::lookup` meets its contract. Assumes nothing.
use Rattle.jobs.specs.Table.{holds}
use Rattle.jobs.specs.Slots.{entries}
use Rattle.jobs.proofs.SlotLaws.{entry-found, entry-missing}
use Rattle.jobs.proofs.JobTable.lookup.Goals as goal

pub returns-in-Some : goal.returns-in-Some
returns-in-Some c = entry-found (holds c.args.number) (entries c.args.self) c.in-Some.i _ c.in-Some.ensures.slot

pub returns-in-None : goal.returns-in-None
returns-in-None c = entry-missing (holds c.args.number) (entries c.args.self) c.in-None.ensures.slot
