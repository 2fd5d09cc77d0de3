-- `mark_one_each` meets its contract: in each part before i the block beside its burst block is marked, the others stand. Assumes nothing.
use mathlib.Core.Path.{◌≡◌}
use Prim.Native.Nat.{ℕ}
use lib.ListN.{length, get_or}
use Rattle.params.specs.Given.{max_blocks}
use Rattle.blocks.specs.Numbers.{kind_numbers}
use Rattle.blocks.specs.Blocks.{burst_set, marked}
use Rattle.blocks.proofs.Marks.{before}
use Rattle.blocks.proofs.mark_one_each.Given as goal

abbrev pub invariant-loop-i : goal.invariant-loop-i
invariant-loop-i l = (length l.kinds ≡ max_blocks) × ((k : ℕ) → get_or (kind_numbers l.kinds) k 0 ≡ marked (before l.m (burst_set (kind_numbers l.initial.kinds)) l.i) (kind_numbers l.initial.kinds) k)
