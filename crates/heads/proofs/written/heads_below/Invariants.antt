-- `heads_below` meets its contract: the blocks from j on decide. Assumes nothing.
use Rattle.params.specs.Given.{figures_of}
use Rattle.heads.proofs.Whole.{Tested}
use Rattle.heads.proofs.written.heads_below.Given as goal

abbrev pub invariant-loop-j : goal.invariant-loop-j
invariant-loop-j l = Tested l.layout.index_tail (figures_of l.layout) l.word l.blocks l.j
