-- `again` meets its contract. Assumes nothing.
use Rattle.std.proofs.Common.{◌∙◌}
use mathlib.Core.Logic.{⊎_elim}
use Rattle.jobs.specs.Table.{holds}
use Rattle.jobs.proofs.SlotLaws.{any-listed}
use Rattle.jobs.proofs.twice.again.Goals as goal

pub returns-in-Open : goal.returns-in-Open
returns-in-Open c =
    let found = c.one_holds.ensures ∙ any-listed (holds c.in-Open.x) c.args.slots.now in
    ⊎_elim (λ e. rw e found) (⊎_elim (λ e. rw e found) (λ e. rw e.1 found)) c.in-Open.is
