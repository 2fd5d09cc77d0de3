-- `agrees` meets its contract: no bearer before j has other symbols. Assumes nothing.
use mathlib.Core.Path.{◌≡◌}
use Prim.Native.Nat.{◌-◌}
use Rattle.combinatorics.specs.Stretch.{has}
use Rattle.blocks.specs.Numbers.{kind_numbers}
use Rattle.sub_blocks.proofs.Holding.{Other}
use Rattle.sub_blocks.proofs.held.agrees.Given as goal

abbrev pub invariant-loop-j : goal.invariant-loop-j
invariant-loop-j l =
    has (l.blocks - l.j) l.j (Other l.layout l.word l.i (kind_numbers l.kinds)) ≡ has l.blocks 0 (Other l.layout l.word l.i (kind_numbers l.kinds))
