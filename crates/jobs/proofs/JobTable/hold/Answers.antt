-- `JobTable::hold` meets its contract. Assumes nothing.
use mathlib.Core.Path.{◌∙◌}
use Rattle.jobs.specs.Slots.{entries}
use Rattle.jobs.proofs.Decisions.{hold-out}
use Rattle.jobs.proofs.JobTable.hold.Goals as goal

pub returns : goal.returns
returns c = c.turn_open.ensures ∙ hold-out (entries c.args.self) c.args.number
