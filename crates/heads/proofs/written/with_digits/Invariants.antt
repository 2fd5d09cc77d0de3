-- `with_digits` meets its contract: the first i digits are taken in. Assumes nothing.
use Rattle.heads.proofs.Valued.{Taken}
use Rattle.heads.proofs.written.with_digits.Given as goal

abbrev pub invariant-loop-i : goal.invariant-loop-i
invariant-loop-i l = Taken l.q l.cap l.high l.digits l.i l.value
