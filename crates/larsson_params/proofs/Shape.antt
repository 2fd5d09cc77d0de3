-- What a layout of figures that fit gives: its bounds, and where its sub-blocks start. Assumes nothing.
use mathlib.Core.Path.{◌≡◌}
use mathlib.Core.List.{List}
use Prim.Native.Nat.{ℕ, ◌+◌, ◌*◌, ◌≤◌, ◌<◌}
use native.Mathlib.Nat.{mul_comm, le-mul_of_pos_right}
use native.Mathlib.Omega.{arith}
use lib.ListN.{get_or}
use Rattle.cells.specs.Cut.{piece_start}
use Rattle.cells.specs.Figures.{max_word}
use Rattle.cells.proofs.Figures.{Ranged}
use Rattle.larsson.specs.Figures.{sub_blocks, sub_start}
use Rattle.larsson.proofs.Figures.{Served, serve, sub_within}
use Rattle.larsson_params.specs.declared.LarssonLayout.{LarssonLayout}
use Rattle.larsson_params.specs.Given.{larsson_figures_of, LarssonLayoutFits, SubStartsOf}

module _ (l : LarssonLayout) (g : LarssonLayoutFits l) where
  pub served : Served (larsson_figures_of l)
  served = serve (larsson_figures_of l) g.range g.fit

  pub bound : Ranged (larsson_figures_of l)
  bound = served.range

  -- a burst is no longer than the word
  pub long : l.b ≤ l.n
  long = omega (arith, le-mul_of_pos_right l.b bound.m-least, mul_comm l.m l.b, served.total)

  -- where a sub-block starts, as it is worked out
  pub start_is : (i : ℕ) → i * l.sub_len + piece_start l.gap_total (2 * l.m) i ≡ sub_start (larsson_figures_of l) i
  unfolding sub_start
  start_is i = rw (g.laid.sub_is, g.laid.gaps-is)

  -- a sub-block ends within the word
  pub sub-room : (i : ℕ) → i < sub_blocks (larsson_figures_of l) → sub_start (larsson_figures_of l) i + l.sub_len ≤ l.n
  sub-room i h = omega (arith, g.laid.sub_is, sub_within (larsson_figures_of l) served i h)

  pub sub-most : (i : ℕ) → i < sub_blocks (larsson_figures_of l) → sub_start (larsson_figures_of l) i ≤ max_word
  sub-most i h = omega (arith, sub-room i h, bound.n-most)

  -- and so by the table
  pub starts-room : (starts : List ℕ) → SubStartsOf (larsson_figures_of l) starts → (i : ℕ) → i < sub_blocks (larsson_figures_of l)
      → get_or starts i 0 + l.sub_len ≤ l.n
  starts-room starts h i w = omega (arith, h.0 i w, sub-room i w)
