-- `unspell_bytes` meets its contract: the first i bytes are read. Assumes nothing.
use mathlib.Core.Path.{◌≡◌}
use lib.ListN.{length, take}
use Rattle.payloads.specs.Payload.{payload_in}
use Rattle.payloads.proofs.unspell_bytes.Given as goal

abbrev pub invariant-loop-i : goal.invariant-loop-i
invariant-loop-i l = take l.i l.payload ≡ take l.i (payload_in l.q (length l.message) l.message)
