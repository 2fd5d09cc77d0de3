-- `starts_of` meets its contract: the first i sub-blocks have their entries. Assumes nothing.
use mathlib.Core.Path.{◌≡◌}
use Prim.Native.Nat.{ℕ, suc, ◌<◌}
use lib.ListN.{length, get_or}
use Rattle.larsson.specs.Figures.{sub_start}
use Rattle.params.specs.Given.{max_blocks}
use Rattle.larsson_params.specs.Given.{larsson_figures_of}
use Rattle.larsson_params.proofs.starts.starts_of.Given as goal

abbrev pub invariant-loop-i : goal.invariant-loop-i
invariant-loop-i l =
    (length l.starts ≡ suc max_blocks) × ((x : ℕ) → x < l.i → get_or l.starts x 0 ≡ sub_start (larsson_figures_of l.layout) x)
