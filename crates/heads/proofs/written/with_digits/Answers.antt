-- `with_digits` meets its contract: the first i digits are taken in. Assumes nothing.
use native.Mathlib.Omega.{arith}
use Rattle.heads.proofs.Valued.{taken-plain, taken-all}
use Rattle.heads.proofs.written.with_digits.Goals as goal

pub loop-i-preserved : goal.loop-i-preserved
loop-i-preserved c =
    let t = c.loop-i in
    let a = c.args in
    (rw c.with_digit-value.ensures (taken-plain a.q a.cap a.high c.requires.0 a.digits.now t.i t.value (omega arith) t.invariant))

pub returns : goal.returns
returns c =
    let t = c.loop-i in
    let a = c.args in
    taken-all a.q a.cap a.high c.requires.0 a.digits.now t.i t.value (omega arith) t.invariant
