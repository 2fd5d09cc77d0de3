-- `count_of` meets its contract: a negative float is counted by its negation. Assumes nothing.
use Rattle.std.proofs.Common.{◌≡◌, ℕ, ◌+◌, ◌-◌, ◌%◌, ◌<◌, ap, ◌∙◌, arith}
use mathlib.Core.Option.{some}
use lib.Ieee.{of_bits}
use Rattle.prescription.specs.Counts.{count_as, negated_as}
use Rattle.prescription.proofs.Counting
use Rattle.prescription.proofs.counts.count_of.Goals as goal

-- the bits of the negative count
negative-bits : (r n : ℕ) → r < 65536 → n < 65536 → (r + n) % 65536 ≡ 0 → r ≡ (65536 - n) % 65536
negative-bits r n h k e = omega arith

pub returns-then-x : goal.returns-then-x
unfolding of_bits
returns-then-x c =
    ap some (negative-bits c.wrapping_neg.result c.in_ok-size.size (omega arith) (omega arith) c.wrapping_neg.ensures)
    ∙ ap negated_as c.in_ok-size.ensures
    ∙ Counting.negative-count c.args.per c.args.x c.if-x.true

pub returns-in_err-size : goal.returns-in_err-size
unfolding of_bits
returns-in_err-size c =
    ap count_as c.from_residual.ensures
    ∙ ap negated_as c.in_err-size.ensures
    ∙ Counting.negative-count c.args.per c.args.x c.if-x.true

pub returns : goal.returns
unfolding of_bits
returns c =
    c.size_of-2.ensures
    ∙ Counting.other-count c.args.per c.args.x (Counting.d-above c.args.per c.requires) c.if-x.false
