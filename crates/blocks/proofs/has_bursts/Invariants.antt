-- `has_bursts` meets its contract: what is missing and the burst blocks among the first j of the part are as many as wanted. Assumes nothing.
use mathlib.Core.Path.{◌≡◌}
use Prim.Native.Nat.{◌+◌}
use Rattle.combinatorics.specs.Stretch.{count}
use Rattle.construction_a.specs.Writing.{row}
use Rattle.blocks.specs.Numbers.{kind_numbers}
use Rattle.blocks.specs.Blocks.{burst_set}
use Rattle.blocks.proofs.has_bursts.Given as goal

abbrev pub invariant-loop-j : goal.invariant-loop-j
invariant-loop-j l =
    (count l.j 0 (row l.m (burst_set (kind_numbers l.kinds)) l.part) + l.missing ≡ l.wanted)
