-- `written_value` meets its contract: the digits of the first j blocks are taken in. Assumes nothing.
use mathlib.Core.Path.{◌≡◌}
use Rattle.params.specs.Given.{figures_of}
use Rattle.heads.proofs.Valued.{Summed}
use Rattle.heads.proofs.written.written_value.Given as goal

abbrev pub invariant-loop-j : goal.invariant-loop-j
invariant-loop-j l = (l.cap ≡ l.layout.placement_count)
    × Summed l.layout.index_tail (figures_of l.layout) l.word l.blocks l.cap l.j l.value
