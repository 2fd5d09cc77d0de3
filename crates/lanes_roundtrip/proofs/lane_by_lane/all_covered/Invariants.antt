-- `all_covered` meets its contract: the lanes so far are covered, and those behind them are left. Assumes nothing.
use mathlib.Core.Path.{◌≡◌}
use mathlib.Core.Bool.{Bool}
use mathlib.Core.List.{List}
use Prim.Native.Nat.{ℕ, ◌-◌}
use lib.Dec.{eqb}
use Rattle.refusals.specs.Refusals.{served}
use Rattle.combinatorics.specs.Lists.{all}
use Rattle.combinatorics.specs.Stretch.{consecutive}
use Rattle.cells.specs.Outcomes.{cover_under}
use Rattle.codes.specs.Given.{coding_in}
use Rattle.codes.specs.declared.WordLayout.{WordLayout}
use Rattle.lanes.specs.Interleaving.{lane}
use Rattle.lanes_roundtrip.proofs.lane_by_lane.all_covered.Given as goal

-- whether lane j is covered
abbrev pub is_covered : WordLayout → List ℕ → ℕ → Bool
is_covered l maps j = eqb (cover_under (coding_in l) (lane l.n j maps)).answer served

abbrev pub invariant-loop-j : goal.invariant-loop-j
invariant-loop-j l =
    all (is_covered l.layout l.maps) (consecutive l.depth 0) ≡ all (is_covered l.layout l.maps) (consecutive (l.depth - l.j) l.j)
