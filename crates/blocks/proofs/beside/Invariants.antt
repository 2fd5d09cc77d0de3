-- `beside` meets its contract: no block of the part before j is a burst block. Assumes nothing.
use mathlib.Core.Path.{◌≡◌}
use Prim.Native.Nat.{◌-◌}
use Rattle.combinatorics.specs.Stretch.{first}
use Rattle.construction_a.specs.Writing.{row}
use Rattle.blocks.specs.Numbers.{kind_numbers}
use Rattle.blocks.specs.Blocks.{burst_set}
use Rattle.blocks.proofs.beside.Given as goal

abbrev pub invariant-loop-j : goal.invariant-loop-j
invariant-loop-j l = (first (l.m - l.j) l.j (row l.m (burst_set (kind_numbers l.kinds)) l.part) ≡ first l.m 0 (row l.m (burst_set (kind_numbers l.kinds)) l.part))
