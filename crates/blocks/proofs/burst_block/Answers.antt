-- `burst_block` meets its contract. Assumes nothing.
use mathlib.Core.Path.{sym, ◌∙◌}
use native.Mathlib.Omega.{arith}
use Rattle.blocks.specs.Numbers.{kind_numbers}
use Rattle.blocks.proofs.Numbers.{burst-tested}
use Rattle.blocks.proofs.BlockSets.{spare-taken, last_taken, spare-in}
use Rattle.blocks.proofs.burst_block.Goals as goal

pub returns-then-eq : goal.returns-then-eq
returns-then-eq c =
    let a = c.args in
    let at = c.first_spare.ensures in (
      at ∙ sym (spare-taken (kind_numbers a.kinds.now) a.blocks a.last (burst-tested a.kinds.now a.last ∙ sym c.if-eq.ensures)),
      omega (arith, at, spare-in (kind_numbers a.kinds.now) a.blocks a.last c.requires.2),
    )

pub returns : goal.returns
returns c =
    let a = c.args in
    (sym (last_taken (kind_numbers a.kinds.now) a.blocks a.last (burst-tested a.kinds.now a.last ∙ sym c.if-eq.ensures)), c.requires.0)
