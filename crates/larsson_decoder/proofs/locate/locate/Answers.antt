-- `locate` meets its contract: 21, 8, or what the majority's rank gives. Assumes nothing.
use Prim.Native.Nat.{◌<◌}
use native.Mathlib.Omega.{arith}
use Rattle.larsson.specs.Figures.{sub_blocks}
use Rattle.larsson_params.specs.Given.{larsson_figures_of}
use Rattle.larsson_params.proofs.Shape.{bound}
use Rattle.sub_blocks.specs.Found.{spelled_at}
use Rattle.larsson_decoder.proofs.Locating.{no-majority, too_large}
use Rattle.larsson_decoder.proofs.locate.locate.Goals as goal
use Rattle.larsson_decoder.proofs.locate.locate.Goals.{Else-layout-block}

pub overflow_mul-layout : goal.overflow_mul-layout
overflow_mul-layout c =
    omega (arith, bound c.args.layout c.requires.0.layout)

within : (c : Else-layout-block) → c.majority_block-block.result < sub_blocks (larsson_figures_of c.args.layout)
within c = omega (arith, c.if-layout-block.false)

pub returns-then-layout-block : goal.returns-then-layout-block
returns-then-layout-block c =
    let f = larsson_figures_of c.args.layout in
    let w = c.args.word.now in
    no-majority f w (c.majority_block-block.ensures.nowhere (omega (arith, c.if-layout-block.true)))

pub returns-then-layout-rank : goal.returns-then-layout-rank
returns-then-layout-rank c =
    let f = larsson_figures_of c.args.layout in
    let w = c.args.word.now in
    let i = c.majority_block-block.result in
    too_large f w (spelled_at f w i) (c.majority_block-block.ensures.taken (within (goal.at.returns-then-layout-rank c).Else-layout-block))
    (omega (arith, c.value_of-rank.ensures, c.if-layout-rank.true, c.requires.0.layout.laid.count-is))
