-- `put_nibbles_of` meets its contract: the high nibble, then the low one. Assumes nothing.
use mathlib.Core.List.{[], ◌∷◌}
use Prim.Native.Nat.{◌/◌, ◌%◌}
use native.Mathlib.Omega.{arith}
use Rattle.text.specs.Nibbles.{nibbles_of}
use Rattle.text.proofs.Line.{put-none, put_then}
use Rattle.text.proofs.Hex.{nibbles-of-below}
use Rattle.text.proofs.put_nibbles_of.Goals as goal

pub returns : goal.returns
unfolding nibbles_of
returns c =
    let a = c.args in
    let line = a.line.now in
    let high = a.byte / 16 in
    let low = a.byte % 16 in
    let one = c.put_byte-next in
    let two = c.put_byte in
    let p =
    put_then a.at [] (high ∷ []) line line one.new.line a.at one.result (omega (arith, c.requires)) (put-none a.at line) one.ensures.line
    one.ensures.behind in
    let q =
    put_then a.at (high ∷ []) (low ∷ []) line one.new.line two.new.line one.result two.result (omega (arith, c.requires, p.behind-is)) p
    two.ensures.line two.ensures.behind in
    record { line = q.put; behind = omega (arith, q.behind-is); below = nibbles-of-below a.byte (omega arith) }
