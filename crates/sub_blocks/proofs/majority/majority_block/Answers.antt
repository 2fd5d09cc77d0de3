-- `majority_block` meets its contract: none of the first i sub-blocks has a common value. Assumes nothing.
use native.Mathlib.Omega.{arith}
use Rattle.larsson_params.proofs.Shape.{bound}
use Rattle.sub_blocks.proofs.Voting.{majority-here, majority-none}
use Rattle.sub_blocks.proofs.majority.majority_block.Goals as goal

pub returns-then-has_majority : goal.returns-then-has_majority
returns-then-has_majority c =
    let a = c.args in
    majority-here a.layout a.word.now c.requires.0 c.loop-i.i (omega (arith, c.loop-i-test.true))
    (rw c.has_majority.ensures at c.if-has_majority.true)

pub overflow_add-i-end : goal.overflow_add-i-end
overflow_add-i-end c = omega (arith, bound c.args.layout c.requires.0.layout)

pub overflow_mul-result : goal.overflow_mul-result
overflow_mul-result c =
    omega (arith, bound c.args.layout c.requires.0.layout)

pub overflow_add-result : goal.overflow_add-result
overflow_add-result c =
    omega (arith, bound c.args.layout c.requires.0.layout)

pub returns : goal.returns
returns c =
    let a = c.args in
    majority-none a.layout a.word.now c.requires.0 (λ i h. c.loop-i.invariant i (omega (arith, c.loop-i-test.false)))
