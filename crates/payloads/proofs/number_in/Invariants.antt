-- `number_in` meets its contract: the first i of four bytes are taken in. Assumes nothing.
use lib.ListN.{length}
use Rattle.cells.specs.Bytes.{byte_values}
use Rattle.payloads.specs.Payload.{payload_in}
use Rattle.payloads.proofs.Spelling.{Taken}
use Rattle.payloads.proofs.number_in.Given as goal

abbrev pub invariant-loop-i : goal.invariant-loop-i
invariant-loop-i l = Taken byte_values 4 (payload_in l.q (length l.message) l.message) l.i l.number
