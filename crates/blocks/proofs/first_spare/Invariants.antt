-- `first_spare` meets its contract: no block before k is spare. Assumes nothing.
use mathlib.Core.Path.{◌≡◌}
use mathlib.Core.Bool.{not}
use Prim.Native.Nat.{◌-◌}
use Rattle.combinatorics.specs.Stretch.{first}
use Rattle.blocks.specs.Numbers.{kind_numbers}
use Rattle.blocks.specs.Blocks.{burst_set}
use Rattle.blocks.proofs.first_spare.Given as goal

abbrev pub invariant-loop-k : goal.invariant-loop-k
invariant-loop-k l = (first (l.blocks - l.k) l.k (λ x. not (burst_set (kind_numbers l.kinds) x)) ≡ first l.blocks 0 (λ x. not (burst_set (kind_numbers l.kinds) x)))
