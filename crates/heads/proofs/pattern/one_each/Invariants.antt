-- `one_each` meets its contract: the first i parts have shown their blocks. Assumes nothing.
use mathlib.Core.Path.{◌≡◌}
use mathlib.Core.Option.{some}
use Prim.Native.Nat.{ℕ, ◌<◌}
use lib.ListN.{length, get_or}
use Rattle.cells.specs.Figures.{max_bursts}
use Rattle.construction_a.specs.Reading.{looks_fixed, index_in_part}
use Rattle.params.specs.Given.{figures_of}
use Rattle.heads.proofs.pattern.one_each.Given as goal

abbrev pub invariant-loop-i : goal.invariant-loop-i
invariant-loop-i l = (length l.blocks ≡ max_bursts)
    × ((x : ℕ) → x < l.i → index_in_part l.layout.m (looks_fixed (figures_of l.layout) l.word) x ≡ some (get_or l.blocks x 0))
