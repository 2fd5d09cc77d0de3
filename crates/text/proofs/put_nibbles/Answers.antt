-- `put_nibbles` meets its contract: the nibbles of the first i bytes stand in the line. Assumes nothing.
use mathlib.Core.Path.{ap, ◌∙◌}
use Prim.Native.Nat.{◌+◌}
use native.Mathlib.Omega.{arith}
use lib.Seq.{take_all}
use Rattle.text.proofs.Hex.{length-nibbles, nibbles-none, nibbles-room, nibbles-turn, nibbles-below}
use Rattle.text.proofs.put_nibbles.Goals as goal

pub loop-byte-init : goal.loop-byte-init
loop-byte-init c =
    let a = c.args in
    nibbles-none a.at a.line.now

pub put_nibbles_of-behind-requires : goal.put_nibbles_of-behind-requires
put_nibbles_of-behind-requires c =
    let a = c.args in
    let t = c.loop-byte in
    nibbles-room a.at a.bytes.now a.line.now t.line t.byte-index t.behind c.requires t.invariant.0 (omega arith)

pub loop-byte-preserved : goal.loop-byte-preserved
loop-byte-preserved c =
    let a = c.args in
    let t = c.loop-byte in
    let one = c.put_nibbles_of-behind in
    let p = t.invariant.0 in
    let next =
    nibbles-turn a.at a.bytes.now a.line.now t.line t.byte-index t.behind c.requires p one.new.line one.result (omega arith) one.ensures.line
    one.ensures.behind in
    let below =
    nibbles-below a.at a.bytes.now a.line.now t.line t.byte-index t.behind c.requires p (omega arith) t.invariant.1 one.ensures.below in
    (next, below)

pub returns : goal.returns
returns c =
    let t = c.loop-byte in
    let bytes = c.args.bytes.now in
    let all = take_all t.byte-index bytes (omega arith) in
    let p = t.invariant.0 in
    record {
      line = rw all at p.put;
      behind = rw all at p.behind-is ∙ ap (λ n. c.args.at + n) (length-nibbles bytes);
      below = rw all at t.invariant.1;
    }
