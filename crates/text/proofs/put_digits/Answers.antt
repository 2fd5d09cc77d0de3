-- `put_digits` meets its contract: the digits of the first i values stand in the line. Assumes nothing.
use mathlib.Core.Path.{◌≡◌}
use Prim.Native.Nat.{◌+◌}
use native.Mathlib.Omega.{arith}
use Rattle.combinatorics.proofs.Lists.{below_at}
use Rattle.text.proofs.Line.{put-none}
use Rattle.text.proofs.Hex.{digits-turn}
use Rattle.text.proofs.put_digits.Goals as goal

pub loop-i-init : goal.loop-i-init
loop-i-init c =
    let a = c.args in
    let z : a.at + 0 ≡ a.at = omega arith in
    rw z (put-none a.at a.line.now)

pub hex_digit-requires : goal.hex_digit-requires
hex_digit-requires c =
    below_at 16 c.args.values.now (omega arith) c.requires.1 c.loop-i.i

pub loop-i-preserved : goal.loop-i-preserved
loop-i-preserved c =
    let a = c.args in
    let t = c.loop-i in
    rw c.hex_digit.ensures (digits-turn a.at a.values.now a.line.now t.line t.i c.requires.0 t.invariant (omega arith))
