-- `spell_value` meets its contract: the symbols from i on are made. Assumes nothing.
use lib.ListN.{length}
use Rattle.payloads.proofs.Spelling.{Made}
use Rattle.payloads.proofs.spell_value.Given as goal

abbrev pub invariant-loop-i : goal.invariant-loop-i
invariant-loop-i l = Made l.q (length l.initial.symbols) l.value l.i l.left l.symbols
