-- `largest` meets its contract: a bound over the largest so far and over the symbols that follow is one over all. Assumes nothing.
use mathlib.Core.Path.{◌∙◌}
use native.Mathlib.Omega.{arith}
use Rattle.symbols.proofs.Bound.{below-turn, below-done}
use Rattle.symbols.proofs.largest.Goals as goal

pub loop-symbol-preserved : goal.loop-symbol-preserved
loop-symbol-preserved c =
    let xs = c.args.symbols.now in
    λ q h. below-turn c.loop-symbol.most c.max-most.result q xs c.loop-symbol.symbol-index (omega arith) c.max-most.ensures
    ∙ c.loop-symbol.invariant q h

pub returns : goal.returns
returns c =
    let xs = c.args.symbols.now in
    λ q h. below-done c.loop-symbol.most q xs c.loop-symbol.symbol-index (omega arith) ∙ c.loop-symbol.invariant q h
