-- `first_spare` meets its contract: no block before k is spare. Assumes nothing.
use mathlib.Core.Path.{◌≡◌, sym, ap, ◌∙◌}
use mathlib.Core.Bool.{not}
use native.Mathlib.Omega.{arith}
use Rattle.combinatorics.proofs.StretchLoops.{first-here, first_on, first-over}
use Rattle.blocks.specs.Numbers.{kind_numbers}
use Rattle.blocks.specs.Blocks.{burst_set}
use Rattle.blocks.proofs.Numbers.{burst-tested}
use Rattle.blocks.proofs.first_spare.Goals as goal

pub returns-then-ne : goal.returns-then-ne
returns-then-ne c =
    sym (first-here c.args.blocks c.loop-k.k (λ x. not (burst_set (kind_numbers c.args.kinds.now) x)) (omega arith)
    (ap not (burst-tested c.args.kinds.now c.loop-k.k) ∙ sym c.if-ne.ensures)) ∙ c.loop-k.invariant

pub loop-k-preserved : goal.loop-k-preserved
loop-k-preserved c =
    sym (first_on c.args.blocks c.loop-k.k (λ x. not (burst_set (kind_numbers c.args.kinds.now) x)) (omega arith)
    (ap not (burst-tested c.args.kinds.now c.loop-k.k) ∙ sym c.if-ne.ensures)) ∙ c.loop-k.invariant

pub returns : goal.returns
returns c =
    let e : c.args.blocks ≡ c.loop-k.k = omega arith in
    e ∙ sym (first-over c.args.blocks c.loop-k.k (λ x. not (burst_set (kind_numbers c.args.kinds.now) x)) (omega arith)) ∙ c.loop-k.invariant
