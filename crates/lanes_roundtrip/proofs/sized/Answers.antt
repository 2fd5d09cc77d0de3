-- `sized` meets its contract, length by length. Assumes nothing.
use native.Mathlib.Nat.{mul-le-mul_right}
use native.Mathlib.Omega.{arith}
use Rattle.codes.proofs.Layouts.{bound}
use Rattle.lanes_roundtrip.proofs.sized.Goals as goal

pub overflow_mul-cells : goal.overflow_mul-cells
overflow_mul-cells c =
    omega (
      arith,
      (bound c.args.layout c.requires.0).n-most,
      mul-le-mul_right {m = c.args.depth} {n = 16} c.args.layout.n c.requires.1,
    )

pub overflow_mul-symbols : goal.overflow_mul-symbols
overflow_mul-symbols c =
    omega (
      arith,
      (bound c.args.layout c.requires.0).k-most,
      mul-le-mul_right {m = c.args.depth} {n = 16} c.args.layout.message_len c.requires.1,
    )
