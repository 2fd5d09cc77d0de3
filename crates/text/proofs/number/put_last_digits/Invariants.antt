-- The digits that are still to come, and behind them those that stand, are the digits wanted.
use Rattle.std.proofs.Common.{◌≡◌, ◌++◌, length, take, drop}
use Rattle.text.specs.Digits.{last_digits}
use Rattle.text.proofs.number.put_last_digits.Given as goal

abbrev pub invariant-loop-i : goal.invariant-loop-i
invariant-loop-i l = (length l.digits ≡ length l.initial.digits) × (last_digits l.i l.rest ++ drop l.i (take l.count l.digits) ≡ last_digits l.count l.value)
