-- `put_hex_chunk` meets its contract: the digits of the nibbles are the bytes in hex. Assumes nothing.
use mathlib.Core.Path.{◌≡◌}
use native.Mathlib.Omega.{arith}
use lib.ListN.{take}
use Rattle.text.specs.Nibbles.{nibbles}
use Rattle.text.proofs.Hex.{length-nibbles, nibbles-taken, hex-nibbles}
use Rattle.text.proofs.put_hex_chunk.Goals as goal

pub put_digits-requires : goal.put_digits-requires
put_digits-requires c =
    let bytes = c.args.bytes.now in
    let n = c.put_nibbles-len in
    rw (nibbles-taken bytes _ n.new.line n.result n.ensures.line n.ensures.behind) (omega (arith, c.requires.1, length-nibbles bytes), n.ensures.below)

pub returns : goal.returns
returns c =
    let bytes = c.args.bytes.now in
    let n = c.put_nibbles-len in
    let e : take n.result n.new.line ≡ nibbles bytes = nibbles-taken bytes _ n.new.line n.result n.ensures.line n.ensures.behind in
    rw (← hex-nibbles bytes, ← e) c.put_digits.ensures
