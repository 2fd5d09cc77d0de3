-- `largest` meets its contract: a bound over the largest so far and over the symbols that follow is one over all. Assumes nothing.
use Rattle.std.proofs.Common.{◌≡◌, ◌&&◌, ℕ, ◌<◌, ltb, drop}
use Rattle.combinatorics.specs.Lists.{all_below}
use Rattle.symbols.proofs.largest.Given as goal

abbrev pub invariant-loop-symbol : goal.invariant-loop-symbol
invariant-loop-symbol l = (q : ℕ) → 0 < q → (ltb l.most q && all_below q (drop l.symbol-index l.symbols)) ≡ all_below q l.symbols
