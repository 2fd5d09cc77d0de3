-- `open_blocks` meets its contract: `shown` holds those among the first j blocks of the part. Assumes nothing.
use mathlib.Core.Path.{◌≡◌}
use mathlib.Core.Bool.{not}
use Prim.Native.Nat.{◌≤◌}
use Rattle.combinatorics.specs.Stretch.{members}
use Rattle.construction_a.specs.Writing.{row}
use Rattle.construction_a.specs.Reading.{looks_fixed}
use Rattle.params.specs.Given.{figures_of}
use Rattle.heads.specs.Patterns.{candidates_of}
use Rattle.heads.proofs.pattern.open_blocks.Given as goal

abbrev pub invariant-loop-j : goal.invariant-loop-j
invariant-loop-j l = (l.j ≤ l.layout.m)
    × (l.shown ≡ candidates_of (members l.j 0 (λ x. not (row l.layout.m (looks_fixed (figures_of l.layout) l.word) l.part x))))
