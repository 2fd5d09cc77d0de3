-- `found_bound` meets its contract. Assumes nothing.
use mathlib.Core.Path.{sym, ◌∙◌}
use native.Mathlib.Omega.{arith}
use native.Mathlib.Numerals.{add-one}
use Rattle.cells.proofs.Erasures.{found-above, found_all}
use Rattle.params.proofs.found.found_bound.Goals as goal

pub returns-then-q-lt-BYTE_VALUES : goal.returns-then-q-lt-BYTE_VALUES
returns-then-q-lt-BYTE_VALUES c = add-one _ ∙ sym (found-above c.args.q (omega (arith, c.if-q-lt-BYTE_VALUES.true)))

pub returns-else-q-lt-BYTE_VALUES : goal.returns-else-q-lt-BYTE_VALUES
returns-else-q-lt-BYTE_VALUES c = sym (found_all c.args.q (omega (arith, c.if-q-lt-BYTE_VALUES.false)))
