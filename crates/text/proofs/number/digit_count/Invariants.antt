-- `rest` is what is left of the number without its last `count` digits.
use Rattle.std.proofs.Common.{◌≡◌, ◌+◌, ◌-◌, ◌/◌, ◌^◌, ◌≤◌, ◌<◌}
use Rattle.text.proofs.number.digit_count.Given as goal

abbrev pub invariant-loop-rest : goal.invariant-loop-rest
invariant-loop-rest l =
    (1 ≤ l.count) × (l.count + l.rest < 2 ^ 64) × (l.rest ≡ l.value / 10 ^ l.count) × (1 < l.count → 10 ^ (l.count - 1) ≤ l.value)

abbrev pub decreases-loop-rest : goal.decreases-loop-rest
decreases-loop-rest l = l.rest
