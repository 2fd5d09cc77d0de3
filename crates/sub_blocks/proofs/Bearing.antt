-- Laws for the search of the sub-blocks that bear the rank: burst by burst, and sub-block by sub-block. Assumes nothing.
use mathlib.Core.Path.{◌≡◌, refl, sym}
use mathlib.Core.Bool.{Bool, true, false, not, cond, ◌&&◌}
use mathlib.Core.List.{List, [], ◌∷◌}
use Prim.Native.Nat.{ℕ, suc, ◌+◌}
use native.Mathlib.Omega.{arith}
use lib.Dec.{ltb}
use Rattle.combinatorics.specs.Lists.{any}
use Rattle.combinatorics.specs.Stretch.{count, firsts}
use Rattle.cells.specs.Figures.{Params}
use Rattle.larsson.specs.Figures.{sub_start}
use Rattle.larsson.specs.Writing.{untouched, bears}
use Rattle.larsson.proofs.Walking.{untouched-any}
use Rattle.blocks.specs.Blocks.{burst_kind, index_kind}
use Rattle.placements.specs.declared.Placement.{Placement}
use Rattle.larsson_params.specs.declared.LarssonLayout.{LarssonLayout}
use Rattle.larsson_params.specs.Given.{larsson_figures_of}
use Rattle.larsson_params.proofs.Shape.{served}
use Rattle.sub_blocks.specs.Given.{BurstsOfLayout}

-- whether the burst from s on touches the stretch
abbrev pub touched : ℕ → ℕ → ℕ → ℕ → Bool
touched b from end s = ltb s end && ltb from (s + b)

pub any_here : (t : ℕ → Bool) (s : ℕ) (ss : List ℕ) → t s ≡ true → any t (s ∷ ss) ≡ true
unfolding any
any_here t s ss e = rw e

pub any-on : (t : ℕ → Bool) (s : ℕ) (ss : List ℕ) → t s ≡ false → any t (s ∷ ss) ≡ any t ss
unfolding any
any-on t s ss e = rw e

pub any_none : (t : ℕ → Bool) → any t [] ≡ false
unfolding any
any_none t = refl

module _ (l : LarssonLayout) (at : Placement) (g : BurstsOfLayout l at) where
  -- a sub-block is untouched where no burst touches its stretch
  pub untouched-is : (ss : List ℕ) (i from end : ℕ) → from ≡ sub_start (larsson_figures_of l) i → end ≡ from + l.sub_len
      → not (any (touched l.b from end) ss) ≡ untouched (larsson_figures_of l) ss i
  untouched-is ss i from end d e =
      let sub = g.layout.laid.sub_is in
      rw (e, d, sub) (sym (untouched-any (larsson_figures_of l) (served l g.layout) (omega (arith, sub, g.some)) ss i))

-- a sub-block's kind by what is known when the search comes to it
pub bears-now : (f : Params) (ss : List ℕ) (i before : ℕ) (u : Bool) → u ≡ untouched f ss i → before ≡ count i 0 (untouched f ss)
    → cond (u && ltb before (suc f.m)) index_kind burst_kind ≡ cond (bears f ss i) index_kind burst_kind
unfolding bears firsts
bears-now f ss i before u d e = rw (d, e)
