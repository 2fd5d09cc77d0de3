-- `laid` meets its contract: "figures alone" answers for the last accepted figures. Assumes nothing.
use Rattle.records.proofs.Lengths.{laid-current}
use mathlib.Core.Path.{refl}
use Rattle.std.specs.Prelude.{Ok}
use Rattle.records.proofs.laid.Goals as goal

pub returns-in-Ok : goal.returns-in-Ok
returns-in-Ok c = laid-current c.args.figures (Ok c.in-Ok.layout) c.in-Ok.layout refl c.in-Ok.ensures.answer c.in-Ok.ensures.layout
