-- `mark_bursts` meets its contract: the first j bursts have their blocks, and no burst to come ends before block `last`. Assumes nothing.
use Prim.Native.Nat.{ℕ, ◌+◌, ◌-◌, ◌≤◌, ◌<◌}
use lib.ListN.{get_or}
use Rattle.cells.specs.Cut.{block_head}
use Rattle.placements.specs.Bridge.{starts_in}
use Rattle.params.specs.Given.{figures_of}
use Rattle.blocks.specs.Numbers.{kind_numbers}
use Rattle.blocks.proofs.Bursting.{Bursting}
use Rattle.blocks.proofs.mark_bursts.Given as goal

abbrev pub invariant-loop-j : goal.invariant-loop-j
invariant-loop-j l =
    (l.last < l.blocks)
    × ((i : ℕ) → l.j ≤ i → i < l.layout.m → block_head l.layout.n l.layout.parts l.layout.m l.last ≤ get_or l.at.starts i 0 + l.layout.b - 1)
    × Bursting (figures_of l.layout) (starts_in l.at) l.j (kind_numbers l.kinds)
