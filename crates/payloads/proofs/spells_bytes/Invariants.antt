-- `spells_bytes` meets its contract: what is true of all bytes is true of those from i on; then the leftovers decide. Assumes nothing.
use mathlib.Core.Path.{◌≡◌}
use lib.ListN.{length, drop}
use Rattle.combinatorics.specs.Lists.{all_below}
use Rattle.cells.specs.Bytes.{byte_values}
use Rattle.payloads.specs.Payload.{payload_in}
use Rattle.payloads.proofs.spells_bytes.Given as goal

abbrev pub invariant-loop-i : goal.invariant-loop-i
invariant-loop-i l =
    let bytes = payload_in l.q (length l.message) l.message in
    all_below byte_values (drop l.i bytes) ≡ all_below byte_values bytes
