-- `put_heads` meets its contract: the blocks of the first i parts have their entries, and the next part starts behind them. Assumes nothing.
use mathlib.Core.Path.{◌≡◌}
use Prim.Native.Nat.{ℕ, suc, ◌*◌, ◌<◌}
use lib.ListN.{length, get_or}
use Rattle.cells.specs.Cut.{piece_start, block_head}
use Rattle.params.specs.Given.{max_blocks}
use Rattle.params.proofs.heads.put_heads.Given as goal

abbrev pub invariant-loop-i : goal.invariant-loop-i
invariant-loop-i l =
    (l.first ≡ l.i * l.m) × (l.from ≡ piece_start l.layout.n l.parts l.i) × (length l.heads ≡ suc max_blocks)
    × ((k : ℕ) → k < l.i * l.m → get_or l.heads k 0 ≡ block_head l.layout.n l.parts l.m k)
