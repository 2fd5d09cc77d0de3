-- `shuffle` meets its contract: the first 2 × i symbols are shuffled. Assumes nothing.
use mathlib.Core.Path.{◌≡◌}
use Prim.Native.Nat.{◌*◌}
use lib.ListN.{length, take}
use Rattle.lanes.specs.Interleaving.{transposed_table}
use Rattle.lanes.proofs.tile.shuffle.Given as goal

abbrev pub invariant-loop-i : goal.invariant-loop-i
invariant-loop-i l = (length l.to ≡ 256) × (take (2 * l.i) l.to ≡ take (2 * l.i) (transposed_table 2 128 l.from))
