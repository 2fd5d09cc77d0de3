-- The bursts of figures that fit have room in a word, and so has each sub-block from where the table has its start. Assumes nothing.
use mathlib.Core.List.{List}
use Prim.Native.Nat.{ℕ, ◌+◌, ◌*◌, ◌≤◌, ◌<◌}
use native.Mathlib.Omega.{arith}
use lib.ListN.{get_or}
use Rattle.cells.specs.Figures.{max_word, max_bursts}
use Rattle.larsson.specs.Figures.{sub_blocks}
use Rattle.placements.specs.Bridge.{Room}
use Rattle.larsson_params.specs.declared.LarssonLayout.{LarssonLayout}
use Rattle.larsson_params.specs.Given.{larsson_figures_of, LarssonLayoutFits, SubStartsOf}
use Rattle.larsson_params.proofs.Shape.{served, bound, starts-room}

pub room_of : (l : LarssonLayout) → LarssonLayoutFits l → Room l.n l.m l.b
room_of l g =
    let ok = served l g in
    record { short = ok.range.n-most; few = ok.range.m-most; some = ok.range.b-least; within = ok.total }

-- sub-block i ends within the word, and no number on the way there is large
pub record Reached (l : LarssonLayout) (starts : List ℕ) (i : ℕ) : Type 0 where
  pub listed : i ≤ 2 * max_bursts
  pub ends : get_or starts i 0 + l.sub_len ≤ l.n
  pub short : l.n ≤ max_word

pub reached : (l : LarssonLayout) → LarssonLayoutFits l → (starts : List ℕ) → SubStartsOf (larsson_figures_of l) starts
    → (i : ℕ) → i < sub_blocks (larsson_figures_of l) → Reached l starts i
reached l g starts h i w = record { listed = omega (arith, (bound l g).m-most); ends = starts-room l g starts h i w; short = (bound l g).n-most }
