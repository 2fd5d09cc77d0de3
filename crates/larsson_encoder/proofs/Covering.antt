-- Covering under figures that fit: behind 1 and 2 it goes by n, m and b alone. Assumes nothing.
use mathlib.Core.Path.{◌≡◌, ◌∙◌}
use mathlib.Core.List.{List}
use Prim.Native.Nat.{ℕ}
use Rattle.cells.specs.Outcomes.{cover_under}
use Rattle.larsson.specs.Outcomes.{coding}
use Rattle.placements.specs.Bridge.{cover_within}
use Rattle.placements.proofs.Calls.{by-cover}
use Rattle.larsson_params.specs.declared.LarssonLayout.{LarssonLayout}
use Rattle.larsson_params.specs.Given.{larsson_figures_of, LarssonLayoutFits}

pub covers-within : (l : LarssonLayout) → LarssonLayoutFits l → (map : List ℕ)
    → cover_within l.n l.m l.b map ≡ cover_under (coding (larsson_figures_of l)) map
covers-within l g map = by-cover l.n l.m l.b map ∙ rw (g.range, g.fit)
