-- `spell_bytes` meets its contract: the first i bytes are spelled, and then the leftovers are cleared. Assumes nothing.
use lib.ListN.{length}
use Rattle.payloads.proofs.Spelling.{Spelled}
use Rattle.payloads.proofs.spell_bytes.Given as goal

abbrev pub invariant-loop-i : goal.invariant-loop-i
invariant-loop-i l = Spelled l.q l.width (length l.payload) (length l.initial.message) l.payload l.i l.message
