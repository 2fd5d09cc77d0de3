-- `spelled_value` meets its contract: the first i symbols are taken in. Assumes nothing.
use Rattle.payloads.proofs.Spelling.{Taken}
use Rattle.payloads.proofs.spelled_value.Given as goal

abbrev pub invariant-loop-symbol : goal.invariant-loop-symbol
invariant-loop-symbol l = Taken l.q l.width l.symbols l.symbol-index l.value
