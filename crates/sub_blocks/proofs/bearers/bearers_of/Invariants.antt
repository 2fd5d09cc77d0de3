-- `bearers_of` meets its contract: the first i sub-blocks have their kinds, and so many of them are untouched. Assumes nothing.
use mathlib.Core.Path.{◌≡◌}
use mathlib.Core.Bool.{cond}
use Prim.Native.Nat.{ℕ, ◌<◌}
use lib.ListN.{length, get_or}
use Rattle.combinatorics.specs.Stretch.{count}
use Rattle.larsson.specs.Writing.{untouched, bears}
use Rattle.params.specs.Given.{max_blocks}
use Rattle.placements.specs.Bridge.{starts_in}
use Rattle.blocks.specs.Numbers.{kind_numbers}
use Rattle.blocks.specs.Blocks.{burst_kind, index_kind}
use Rattle.larsson_params.specs.Given.{larsson_figures_of}
use Rattle.sub_blocks.proofs.bearers.bearers_of.Given as goal

abbrev pub invariant-loop-i : goal.invariant-loop-i
invariant-loop-i l =
    (length l.kinds ≡ max_blocks) × (l.met ≡ count l.i 0 (untouched (larsson_figures_of l.layout) (starts_in l.at)))
    × ((x : ℕ) → x < l.i → get_or (kind_numbers l.kinds) x 0 ≡ cond (bears (larsson_figures_of l.layout) (starts_in l.at) x) index_kind burst_kind)
