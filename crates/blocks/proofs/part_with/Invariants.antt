-- `part_with` meets its contract: no part before i has so many. Assumes nothing.
use mathlib.Core.Path.{◌≡◌}
use Prim.Native.Nat.{◌-◌}
use lib.Dec.{eqb}
use Rattle.combinatorics.specs.Stretch.{first}
use Rattle.construction_a.specs.Writing.{part_count}
use Rattle.blocks.specs.Numbers.{kind_numbers}
use Rattle.blocks.specs.Blocks.{burst_set}
use Rattle.blocks.proofs.part_with.Given as goal

abbrev pub invariant-loop-i : goal.invariant-loop-i
invariant-loop-i l = (first (l.parts - l.i) l.i (λ x. eqb (part_count l.m (burst_set (kind_numbers l.kinds)) x) l.wanted) ≡ first l.parts 0
    (λ x. eqb (part_count l.m (burst_set (kind_numbers l.kinds)) x) l.wanted))
