-- `majority_block` meets its contract: none of the first i sub-blocks has a common value. Assumes nothing.
use mathlib.Core.Path.{◌≡◌}
use mathlib.Core.Bool.{false}
use Prim.Native.Nat.{ℕ, suc, ◌<◌}
use Rattle.combinatorics.specs.Majority.{has_common}
use Rattle.larsson.specs.Figures.{sub_blocks}
use Rattle.larsson.specs.Reading.{sub_value}
use Rattle.larsson_params.specs.Given.{larsson_figures_of}
use Rattle.sub_blocks.proofs.majority.majority_block.Given as goal

abbrev pub invariant-loop-i : goal.invariant-loop-i
invariant-loop-i l =
    (x : ℕ) → x < l.i → has_common (sub_blocks (larsson_figures_of l.layout)) (suc l.layout.m) (sub_value (larsson_figures_of l.layout) l.word)
    (sub_value (larsson_figures_of l.layout) l.word x) ≡ false
