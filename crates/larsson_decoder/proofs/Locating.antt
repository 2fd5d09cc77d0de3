-- That the reader answers as the definitions do, refusal by refusal, up to the placement. Assumes nothing.
use mathlib.Core.Path.{◌≡◌, sym, ap, ◌∙◌}
use mathlib.Core.Bool.{true, false}
use mathlib.Core.List.{List}
use mathlib.Core.Option.{none, some}
use Prim.Native.Nat.{ℕ, suc, ◌≤◌, ◌<◌}
use native.Mathlib.Omega.{arith}
use Rattle.refusals.specs.Refusals.{no_majority, value_too_large, disagrees}
use Rattle.combinatorics.specs.Bursts.{rank_of}
use Rattle.combinatorics.proofs.Bursts.{RankedAs, rank-of-starts}
use Rattle.combinatorics.proofs.Cases.{leb-holds, leb-fails}
use Rattle.cells.specs.Codec.{refused}
use Rattle.cells.specs.Outcomes.{Held, held}
use Rattle.cells.specs.Figures.{Params, is_placement, placement_count_of, placement_of}
use Rattle.cells.proofs.Figures.{starts-placed}
use Rattle.larsson.specs.Reading.{found, agrees, read_value, read}
use Rattle.placements.specs.declared.Placement.{Placement}
use Rattle.placements.specs.Bridge.{held_as, starts_in}
use Rattle.placements.proofs.Calls.{starts-held}
use Rattle.larsson_params.specs.declared.LarssonLayout.{LarssonLayout}
use Rattle.larsson_params.specs.Given.{larsson_figures_of, LarssonLayoutFits}
use Rattle.larsson_params.proofs.Shape.{served}
use Rattle.sub_blocks.specs.Given.{BurstsOfLayout, BearersOf}
use Rattle.larsson_decoder.specs.Located.{read_larsson_message, LocatedAt}

-- ---- The readings

module _ (f : Params) (w : List ℕ) where
  -- "21 .. a word with no such majority"
  pub no-majority : found f w ≡ none → read f w ≡ refused no_majority
  unfolding read
  no-majority e = rw e

  module _ (v : ℕ) (taken : found f w ≡ some v) where
    -- "A value of T or more is 8"
    pub too_large : placement_count_of f ≤ v → read f w ≡ refused value_too_large
    unfolding read read_value
    too_large l = rw (taken, leb-fails (suc v) (placement_count_of f) (omega arith))

    module _ (below : v < placement_count_of f) where
      -- "a placement whose first m + 1 untouched sub-blocks don't all hold it is 9"
      pub disagreeing : agrees f w v (placement_of f v) ≡ false → read f w ≡ refused disagrees
      unfolding read read_value
      disagreeing e = rw (taken, leb-holds (suc v) (placement_count_of f) below, e)

      pub agreeing : agrees f w v (placement_of f v) ≡ true → read f w ≡ read_larsson_message f w (placement_of f v)
      unfolding read read_value
      agreeing e = rw (taken, leb-holds (suc v) (placement_count_of f) below, e)

-- ---- The placement of a rank

module _ (l : LarssonLayout) (g : LarssonLayoutFits l) where
  module _ (v : ℕ) (below : v < placement_count_of (larsson_figures_of l)) (p : Placement) (is : held_as p ≡ held (placement_of (larsson_figures_of l) v)) where
    pub starts-are : starts_in p ≡ placement_of (larsson_figures_of l) v
    starts-are = starts-held {p = p} (placement_of (larsson_figures_of l) v) is

    ranked-as : RankedAs l.n l.m l.b (served l g).range.b-least v (placement_of (larsson_figures_of l) v)
    ranked-as = rank-of-starts l.n l.m l.b (served l g).range.b-least (served l g).total v below

    pub bearing : 0 < l.sub_len → BurstsOfLayout l p
    bearing h = record { layout = g; count = ap (λ (h : Held). h.count) is ∙ ranked-as.count; some = h }

    -- all that is known of it where its bearers agree
    pub located : (w kinds : List ℕ) → BearersOf (larsson_figures_of l) (starts_in p) kinds
        → read (larsson_figures_of l) w ≡ read_larsson_message (larsson_figures_of l) w (placement_of (larsson_figures_of l) v)
        → LocatedAt (larsson_figures_of l) w v p kinds
    located w kinds b e =
        let f = larsson_figures_of l in
        let ss = placement_of f v in
        let r = ranked-as in
        record {
          placed = ap (is_placement f) starts-are ∙ starts-placed f ss r.placed r.count;
          is_held = is ∙ ap held (sym starts-are);
          ranked = sym r.rank ∙ ap (rank_of l.b) (sym starts-are);
          bearers = b;
          read-as = e ∙ ap (read_larsson_message f w) (sym starts-are);
        }
