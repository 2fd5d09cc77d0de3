-- The digits of a rank behind a lead digit, and the word where nothing spells it. Assumes nothing.
use mathlib.Core.Path.{◌≡◌, sym, ap, ap₂, ◌∙◌}
use mathlib.Core.Bool.{true}
use mathlib.Core.List.{List, ◌∷◌}
use Prim.Native.Nat.{ℕ, suc, ◌+◌, ◌*◌, ◌≤◌}
use native.Mathlib.Omega.{arith}
use lib.ListN.{length, take, replicate}
use lib.Seq.{length-take-le}
use Rattle.combinatorics.specs.Bursts.{apart}
use Rattle.combinatorics.proofs.Bursts.{of-placed, placed_of}
use Rattle.cells.specs.Digits.{spell, places}
use Rattle.cells.specs.Figures.{max_bursts, is_placement, rank}
use Rattle.cells.proofs.Figures.{placed-starts, starts-placed}
use Rattle.larsson.specs.Writing.{rank_digits, word}
use Rattle.larsson.proofs.Complete.{rank_below}
use Rattle.larsson.proofs.Walking.{blank-word, digits-behind, rank-behind, digits-few}
use Rattle.placements.specs.declared.Placement.{Placement}
use Rattle.placements.specs.Bridge.{starts_in, Rankable}
use Rattle.placements.proofs.Calls.{rankable}
use Rattle.encoder.specs.Digits.{SpellableRank}
use Rattle.larsson_params.specs.declared.LarssonLayout.{LarssonLayout}
use Rattle.larsson_params.specs.Given.{larsson_figures_of, LarssonLayoutFits}
use Rattle.larsson_params.proofs.Shape.{served, bound}
use Rattle.larsson_encoder.specs.Writable.{LarssonWritable}

module _ (l : LarssonLayout) (at : Placement) (ms out : List ℕ) (g : LarssonWritable l at ms out) where
  pub can-rank : Rankable at l.b
  can-rank =
      let f = larsson_figures_of l in
      let ok = served l g.layout in
      let p = placed-starts f (starts_in at) g.placed in
      rankable {p = at} l.n l.b (omega (arith, g.count, ok.range.m-most)) ok.range.n-most ok.range.b-least
      (of-placed l.b l.n 0 (starts_in at) p.0)
      (omega (arith, rank_below f ok (starts_in at) p.0 p.1, ok.counted))

  pub few : l.sub_len ≤ 63
  few = omega (arith, g.layout.laid.sub_is, digits-few (larsson_figures_of l) (served l g.layout))

  pub can-spell : (v : ℕ) → v ≡ rank (larsson_figures_of l) (starts_in at) → SpellableRank l.q 1 l.sub_len v
  can-spell v e =
      let f = larsson_figures_of l in
      let ok = served l g.layout in
      let p = placed-starts f (starts_in at) g.placed in
      record {
        alphabet = ok.range.q-least;
        bytes = ok.range.q-most;
        room = omega (arith, few);
        tail = omega (arith, few);
        below = rw (e, g.layout.laid.sub_is) (rank-behind f ok (starts_in at) p.0 p.1);
      }

  -- the digits that were spelled
  pub behind-lead : (v : ℕ) (ds : List ℕ) → v ≡ rank (larsson_figures_of l) (starts_in at)
      → take (1 * suc l.sub_len) ds ≡ spell l.q (places 1 l.sub_len) v
      → take (l.sub_len + 1) ds ≡ 1 ∷ rank_digits (larsson_figures_of l) (starts_in at)
  behind-lead v ds e is =
      let f = larsson_figures_of l in
      let p = placed-starts f (starts_in at) g.placed in
      let n : l.sub_len + 1 ≡ 1 * suc l.sub_len = omega arith in
      ap (λ (k : ℕ). take k ds) n ∙ is ∙ ap₂ (λ (r x : ℕ). spell l.q (places 1 r) x) g.layout.laid.sub_is e
      ∙ digits-behind f (served l g.layout) (starts_in at) p.0 p.1

  -- a word that is cleared
  pub cleared : l.sub_len ≡ 0 → (left : List ℕ) → left ≡ replicate (length out) 0 → left ≡ word (larsson_figures_of l) (starts_in at) ms
  cleared e left is =
      let f = larsson_figures_of l in
      let p = placed-starts f (starts_in at) g.placed in
      is ∙ ap (λ (n : ℕ). replicate n 0) g.room ∙ sym (blank-word f (served l g.layout) (sym g.layout.laid.sub_is ∙ e) (starts_in at) ms p.0
      p.1)

-- ---- A call to write

module _ (l : LarssonLayout) (at : Placement) (g : LarssonLayoutFits l) where
  -- a placement that passed the tests
  pub placed_by : length at.starts ≡ max_bursts → at.count ≡ l.m → apart l.b l.n 0 (starts_in at) ≡ true
      → is_placement (larsson_figures_of l) (starts_in at) ≡ true
  placed_by sized count valid =
      starts-placed (larsson_figures_of l) (starts_in at) (placed_of l.b l.n 0 (starts_in at) valid)
      (length-take-le at.count at.starts (omega (arith, sized, count, (bound l g).m-most)) ∙ count)
