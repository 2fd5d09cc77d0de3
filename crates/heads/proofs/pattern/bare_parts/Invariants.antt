-- `bare_parts` meets its contract: `bare` holds those among the first i parts. Assumes nothing.
use mathlib.Core.Path.{◌≡◌}
use mathlib.Core.Bool.{not}
use Prim.Native.Nat.{◌≤◌}
use Rattle.combinatorics.specs.Stretch.{has, members}
use Rattle.construction_a.specs.Writing.{row}
use Rattle.construction_a.specs.Reading.{looks_fixed}
use Rattle.params.specs.Given.{figures_of}
use Rattle.heads.specs.Patterns.{candidates_of}
use Rattle.heads.proofs.pattern.bare_parts.Given as goal

abbrev pub invariant-loop-i : goal.invariant-loop-i
invariant-loop-i l = (l.i ≤ l.layout.parts)
    × (l.bare ≡ candidates_of (members l.i 0 (λ x. not (has l.layout.m 0 (row l.layout.m (looks_fixed (figures_of l.layout) l.word) x)))))
