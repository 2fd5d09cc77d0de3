-- `put_byte` meets its contract. Assumes nothing.
use native.Mathlib.Omega.{arith}
use Rattle.text.proofs.Line.{overwrite-one}
use Rattle.text.proofs.put_byte.Goals as goal

pub returns-clause-line : goal.returns-clause-line
returns-clause-line c = overwrite-one c.args.at c.args.line.now c.args.byte (omega arith)
