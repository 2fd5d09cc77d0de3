-- `votes` meets its contract: so many of the first j sub-blocks have the symbols. Assumes nothing.
use mathlib.Core.Path.{◌≡◌}
use Rattle.combinatorics.specs.Lists.{same_list}
use Rattle.combinatorics.specs.Stretch.{count}
use Rattle.larsson.specs.Reading.{sub_symbols}
use Rattle.larsson_params.specs.Given.{larsson_figures_of}
use Rattle.sub_blocks.proofs.majority.votes.Given as goal

abbrev pub invariant-loop-j : goal.invariant-loop-j
invariant-loop-j l =
    l.met ≡ count l.j 0 (λ x. same_list (sub_symbols (larsson_figures_of l.layout) l.word x) (sub_symbols (larsson_figures_of l.layout) l.word l.i))
