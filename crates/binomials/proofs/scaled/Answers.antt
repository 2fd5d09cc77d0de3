-- `scaled` meets its contract: both parts together are the quotient of the whole product. Assumes nothing.
use native.Mathlib.Omega.{arith}
use Rattle.binomials.proofs.Scaling.{scaled-is}
use Rattle.binomials.proofs.scaled.Goals as goal

pub overflow_mul-result : goal.overflow_mul-result
overflow_mul-result c = omega (arith, scaled-is c.args.a c.args.b c.args.d c.requires.0, c.requires.3)

pub overflow_add-result : goal.overflow_add-result
overflow_add-result c = omega (arith, scaled-is c.args.a c.args.b c.args.d c.requires.0, c.requires.3)

pub returns : goal.returns
returns c = scaled-is c.args.a c.args.b c.args.d c.requires.0
