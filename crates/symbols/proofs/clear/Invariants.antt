-- `clear` meets its contract: the symbols so far are 0. Assumes nothing.
use Rattle.std.proofs.Common.{◌≡◌, length, take, replicate}
use Rattle.symbols.proofs.clear.Given as goal

abbrev pub invariant-loop-symbol : goal.invariant-loop-symbol
invariant-loop-symbol l = take l.symbol-index l.symbol-items ≡ take l.symbol-index (replicate (length l.fn.symbols) 0)
