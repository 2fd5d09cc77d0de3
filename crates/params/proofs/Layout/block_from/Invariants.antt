-- `Layout::block_from` meets its contract: block k starts no later than x, and comes before every block behind `first` that starts later. Assumes nothing.
use Prim.Native.Nat.{ℕ, ◌-◌, ◌≤◌, ◌<◌}
use lib.ListN.{get_or}
use Rattle.params.specs.Given.{max_blocks}
use Rattle.params.proofs.Layout.block_from.Given as goal

abbrev pub invariant-loop-k : goal.invariant-loop-k
invariant-loop-k l = (get_or l.heads l.k 0 ≤ l.x) × ((later : ℕ) → l.first < later → l.x < get_or l.heads later 0 → l.k < later)

abbrev pub decreases-loop-k : goal.decreases-loop-k
decreases-loop-k l = max_blocks - l.k
