-- `judged` meets its contract, test by test. Assumes nothing.
use native.Mathlib.Nat.{mul-le-mul_right}
use native.Mathlib.Omega.{arith}
use Rattle.codes.proofs.Layouts.{bound}
use Rattle.lanes.proofs.judged.Goals as goal

pub overflow_mul-len : goal.overflow_mul-len
overflow_mul-len c =
    omega (
      arith,
      (bound c.args.layout c.requires).n-most,
      mul-le-mul_right {m = c.args.depth} {n = 16} c.args.layout.n
          (omega arith),
    )
