-- What a placement of a layout's bursts gives: its starts, one by one. Assumes nothing.
use mathlib.Core.Path.{◌≡◌, ◌∙◌}
use mathlib.Core.Bool.{true}
use Prim.Native.Nat.{ℕ, ◌+◌, ◌≤◌, ◌<◌}
use native.Mathlib.Omega.{arith}
use lib.ListN.{length, get_or}
use lib.Seq.{get_or-take, length-take-le}
use Rattle.combinatorics.specs.Bursts.{apart}
use Rattle.combinatorics.proofs.Bursts.{Placed, placed_at, placed-grows}
use Rattle.combinatorics.proofs.Cases.{eqb_same}
use Rattle.cells.specs.Figures.{max_bursts, is_placement}
use Rattle.cells.proofs.Figures.{placed-starts}
use Rattle.params.specs.Given.{figures_of, Shaped}
use Rattle.params.proofs.Shape.{in-range}
use Rattle.params.specs.declared.Layout.{Layout}
use Rattle.placements.specs.Bridge.{starts_in, PlacesBursts}
use Rattle.placements.specs.declared.Placement.{Placement}

-- a placement that passed the tests for refusals 3 and 5
pub placing-of : (l : Layout) (at : Placement) → length at.starts ≡ max_bursts → Shaped l → at.count ≡ l.m → apart l.b l.n 0 (starts_in at) ≡ true
    → PlacesBursts l at
unfolding is_placement
placing-of l at sized g e valid =
    let count : length (starts_in at) ≡ l.m = length-take-le at.count at.starts (omega (arith, (in-range l g).m-most, sized)) ∙ e in
    record { layout = g; count = e; placed = rw (eqb_same (length (starts_in at)) l.m count) valid }

module _ (l : Layout) (at : Placement) (g : PlacesBursts l at) where
  pub starts-placed : Placed l.b l.n 0 (starts_in at)
  starts-placed = (placed-starts (figures_of l) (starts_in at) g.placed).0

  pub starts-count : length (starts_in at) ≡ l.m
  starts-count = (placed-starts (figures_of l) (starts_in at) g.placed).1

  pub start_is : (j : ℕ) → j < l.m → get_or (starts_in at) j 0 ≡ get_or at.starts j 0
  start_is j h = get_or-take at.count at.starts j 0 (omega (arith, g.count))

  pub start-in : (j : ℕ) → j < l.m → get_or at.starts j 0 + l.b ≤ l.n
  start-in j h = rw (← start_is j h) (placed_at l.b l.n 0 j (starts_in at) starts-placed (omega (arith, starts-count)))

  pub start-grows : (i j : ℕ) → i ≤ j → j < l.m → get_or at.starts i 0 ≤ get_or at.starts j 0
  start-grows i j k h =
      rw (← start_is i (omega arith), ← start_is j h) (placed-grows l.b l.n 0 i j (starts_in at) starts-placed k (omega (arith, starts-count)))
