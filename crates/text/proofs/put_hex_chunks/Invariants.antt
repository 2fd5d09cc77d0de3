-- `put_hex_chunks` meets its contract: the bytes that are done stand in the line. Assumes nothing.
use Prim.Native.Nat.{◌+◌, ◌*◌}
use lib.ListN.{take}
use Rattle.text.specs.Text.{hex}
use Rattle.text.proofs.Line.{Put}
use Rattle.text.proofs.put_hex_chunks.Given as goal

abbrev pub invariant-loop-i : goal.invariant-loop-i
invariant-loop-i l = Put l.at (hex (take (l.i * 64) l.bytes)) l.initial.line l.line (l.at + 2 * (l.i * 64))
