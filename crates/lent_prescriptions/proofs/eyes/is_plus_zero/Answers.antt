-- `is_plus_zero` meets its contract. Assumes nothing.
use mathlib.Core.Path.{◌∙◌}
use Rattle.lent_prescriptions.proofs.EyeLaws.{unequal-is-not}
use Rattle.lent_prescriptions.proofs.eyes.is_plus_zero.Goals as goal

pub returns-else-x : goal.returns-else-x
returns-else-x c = c.if-x.false ∙ unequal-is-not c.args.x c.well_formed.0.1 c.if-x.false
