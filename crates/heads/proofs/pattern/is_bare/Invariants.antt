-- `is_bare` meets its contract: no block of the part before j looks fixed. Assumes nothing.
use mathlib.Core.Path.{◌≡◌}
use Prim.Native.Nat.{◌-◌}
use Rattle.combinatorics.specs.Stretch.{has}
use Rattle.construction_a.specs.Writing.{row}
use Rattle.construction_a.specs.Reading.{looks_fixed}
use Rattle.params.specs.Given.{figures_of}
use Rattle.heads.proofs.pattern.is_bare.Given as goal

abbrev pub invariant-loop-j : goal.invariant-loop-j
invariant-loop-j l =
    (has (l.layout.m - l.j) l.j (row l.layout.m (looks_fixed (figures_of l.layout) l.word) l.part) ≡ has l.layout.m 0
    (row l.layout.m (looks_fixed (figures_of l.layout) l.word) l.part))
