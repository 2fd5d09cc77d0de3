-- `job_number` meets its contract: four bytes are less than 32 bits. Assumes nothing.
use native.Mathlib.Omega.{arith}
use Rattle.cells.specs.Bytes.{byte_values}
use Rattle.combinatorics.proofs.Lists.{at-below}
use Rattle.payloads.specs.Payload.{job_number}
use Rattle.payloads.proofs.Payload.{number-below}
use Rattle.payloads.proofs.job_number.Goals as goal

pub overflow_cast-result : goal.overflow_cast-result
unfolding job_number
overflow_cast-result c =
    let a = c.args in
    let y = a.payload.now in
    omega (
      arith,
      c.spelled_value.ensures,
      number-below y c.requires
          (at-below byte_values y (λ x _. omega (arith, c.type_inv.payload x))),
    )

pub returns : goal.returns
unfolding job_number
returns c = c.spelled_value.ensures
