-- `mark_part` meets its contract: the first j blocks of the part are marked. Assumes nothing.
use mathlib.Core.Path.{◌≡◌}
use Prim.Native.Nat.{ℕ}
use lib.ListN.{length, get_or}
use Rattle.params.specs.Given.{max_blocks}
use Rattle.blocks.specs.Numbers.{kind_numbers}
use Rattle.blocks.specs.Blocks.{marked}
use Rattle.blocks.proofs.Marks.{within}
use Rattle.blocks.proofs.mark_part.Given as goal

abbrev pub invariant-loop-j : goal.invariant-loop-j
invariant-loop-j l =
    (length l.kinds ≡ max_blocks) × ((k : ℕ) → get_or (kind_numbers l.kinds) k 0 ≡ marked (within l.from l.j) (kind_numbers l.initial.kinds) k)
