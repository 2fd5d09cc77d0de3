use Rattle.std.proofs.Common.{ap, ◌∙◌, ◌+◌, ◌-◌, ◌/◌, ◌^◌, ◌≤◌, arith, ℕ, ◌≡◌}
use Rattle.text.proofs.Digits.{left-one, left-more, some-left, none-left}
use Rattle.text.proofs.number.digit_count.Goals as goal

pub loop-rest-init : goal.loop-rest-init
loop-rest-init c = (omega arith, omega arith, left-one c.args.value, omega arith)

pub loop-rest-preserved : goal.loop-rest-preserved
loop-rest-preserved c =
    let l = c.loop-rest in
    let some : 10 ^ l.count ≤ c.args.value = some-left c.args.value l.count (omega (arith, l.invariant.2, c.loop-rest-test.true)) in
    let same : l.count + 1 - 1 ≡ l.count = omega arith in
    (omega arith, omega arith, ap (λ (r : ℕ). r / 10) l.invariant.2 ∙ left-more c.args.value l.count, λ _. rw same some)

pub returns : goal.returns
returns c =
    let l = c.loop-rest in
    (l.invariant.0, none-left c.args.value l.count (omega (arith, l.invariant.2, c.loop-rest-test.false)), l.invariant.3)
