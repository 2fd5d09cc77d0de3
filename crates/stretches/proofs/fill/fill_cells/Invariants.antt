-- `fill_cells` meets its contract: the blocks so far are filled. Assumes nothing.
use Rattle.blocks.specs.Numbers.{kind_numbers}
use Rattle.stretches.specs.Fill.{FilledTo, ComesTo}
use Rattle.stretches.proofs.fill.fill_cells.Given as goal

abbrev pub invariant-loop-block : goal.invariant-loop-block
invariant-loop-block l =
    ComesTo l.walk l.at l.heads (kind_numbers l.kinds) l.block l.here × FilledTo l.walk l.at l.heads (kind_numbers l.kinds) l.digits l.message l.word l.here
