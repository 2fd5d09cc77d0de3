-- `walk_of` meets its contract. Assumes nothing.
use native.Mathlib.Omega.{arith}
use Rattle.params.proofs.Shape.{bound, blocks-fit}
use Rattle.stretches.proofs.walk_of.Goals as goal

pub overflow_add-head_len : goal.overflow_add-head_len
overflow_add-head_len c = omega (arith, (bound c.args.layout c.requires).tail-room, (bound c.args.layout c.requires).n-most)

pub overflow_mul-result : goal.overflow_mul-result
overflow_mul-result c = omega (arith, blocks-fit c.args.layout c.requires)
