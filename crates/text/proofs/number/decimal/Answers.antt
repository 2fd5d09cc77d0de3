use Rattle.std.proofs.Common.{◌∙◌, ◌≤◌, arith}
use Rattle.text.proofs.Digits.{decimal-room, digits_decimal, count-decimal}
use Rattle.text.proofs.number.decimal.Goals as goal
use Rattle.text.proofs.number.decimal.Goals.{After-digit_count-count}

-- twenty digits hold 64 bits
twenty : (c : After-digit_count-count) → c.digit_count-count.result ≤ 20
twenty c =
    omega (arith, count-decimal c.args.value c.digit_count-count.result c.digit_count-count.ensures, decimal-room c.args.value (omega arith))

pub put_last_digits-requires : goal.put_last_digits-requires
put_last_digits-requires c = omega (arith, twenty (goal.at.put_last_digits-requires c).After-digit_count-count)

pub returns-clause-digits : goal.returns-clause-digits
returns-clause-digits c = c.put_last_digits.ensures ∙ digits_decimal c.args.value c.digit_count-count.result c.digit_count-count.ensures

pub returns-clause-count : goal.returns-clause-count
returns-clause-count c =
    (count-decimal c.args.value c.digit_count-count.result c.digit_count-count.ensures, twenty (goal.at.returns-clause-count c).After-digit_count-count)
