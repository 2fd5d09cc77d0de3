-- What a layout's shape gives: its bounds, and room for every block. Assumes nothing.
use mathlib.Core.Path.{◌≡◌, sym, ◌∙◌}
use mathlib.Core.List.{List}
use Prim.Native.Nat.{ℕ, suc, ◌+◌, ◌*◌, ◌/◌, ◌≤◌, ◌<◌}
use native.Mathlib.Nat.{mul_comm, mul-le-mul, le-mul_of_pos_right, div-le_self}
use native.Mathlib.Omega.{arith}
use lib.ListN.{get_or}
use Rattle.cells.specs.Cut.{block_head}
use Rattle.cells.proofs.Cut.{block-next, block-most}
use Rattle.cells.specs.Figures.{max_word, max_bursts}
use Rattle.construction_a.specs.Figures.{parts, blocks, head_of, block_min}
use Rattle.cells.proofs.Figures.{Ranged, ranged}
use Rattle.construction_a.proofs.Figures.{three-parts, parts-few}
use Rattle.params.specs.declared.Layout.{Layout}
use Rattle.params.specs.Given.{max_blocks, figures_of, Shaped, HeadsOf}
use Rattle.params.proofs.Answered.{Bounds}

module _ (l : Layout) (g : Shaped l) where
  pub in-range : Ranged (figures_of l)
  in-range = ranged (figures_of l) g.range

  pub min-room : l.index_tail < l.n / (parts (figures_of l) * l.m)
  unfolding block_min
  min-room = g.room

  pub min-burst : l.b ≤ l.n / (parts (figures_of l) * l.m)
  unfolding block_min
  min-burst = g.short

  pub bound : Bounds l
  bound =
      let r = in-range in
      let p : l.parts ≤ max_bursts = omega (arith, g.parts_is, parts-few (figures_of l) r) in
      record {
        n-most = r.n-most;
        q-least = r.q-least;
        q-most = r.q-most;
        m-least = r.m-least;
        m-most = r.m-most;
        b-least = r.b-least;
        parts-least = omega (arith, g.parts_is, three-parts (figures_of l));
        parts-most = p;
        blocks-most = mul-le-mul {n₂ = max_bursts} {m₂ = max_bursts} p r.m-most;
        tail-room = omega (arith, min-room, div-le_self l.n (parts (figures_of l) * l.m));
      }

  -- a burst is no longer than the word
  pub long : l.b ≤ l.n
  long = omega (arith, le-mul_of_pos_right l.b in-range.m-least, mul_comm l.m l.b, g.total)

  pub blocks_is : l.parts * l.m ≡ blocks (figures_of l)
  blocks_is = rw g.parts_is

  pub block_in : {k : ℕ} → k < blocks (figures_of l) → k < l.parts * l.m
  block_in h = rw blocks_is h

  pub blocks-fit : l.parts * l.m ≤ max_blocks
  blocks-fit = bound.blocks-most

  pub blocks-most : blocks (figures_of l) ≤ max_blocks
  blocks-most = omega (arith, blocks_is, blocks-fit)

  some-parts : 0 < parts (figures_of l)
  some-parts = omega (arith, three-parts (figures_of l))

  -- a word has at least as many blocks as bursts
  pub many : l.m ≤ blocks (figures_of l)
  many =
      let f = figures_of l in
      omega (arith, le-mul_of_pos_right {m = parts f} f.m some-parts, mul_comm f.m (parts f))

  -- each block has room for the symbols of an index block's head
  pub head-room : (k : ℕ) → k < l.parts * l.m → block_head l.n l.parts l.m k + suc l.index_tail ≤ l.n
  head-room k h =
      let b = bound in
      let room : l.index_tail < l.n / (l.parts * l.m) = rw g.parts_is min-room in
      omega (
        arith,
        room,
        block-next l.n l.parts l.m k b.m-least,
        block-most l.n l.parts l.m (suc k) (omega (arith, b.parts-least))
            b.m-least h,
      )

  -- the first position of a block, by the figures
  pub head-is : (k : ℕ) → block_head l.n l.parts l.m k ≡ head_of (figures_of l) k
  head-is k = rw g.parts_is

  -- the array of all has it, and it is not past the word's end
  module _ (heads : List ℕ) (h : HeadsOf (figures_of l) heads) (k : ℕ) (w : k ≤ l.parts * l.m) where
    pub head_at : get_or heads k 0 ≡ block_head l.n l.parts l.m k
    head_at = h k (omega (arith, blocks_is, w)) ∙ sym (head-is k)

    pub head_small : get_or heads k 0 ≤ max_word
    head_small =
        let b = bound in
        omega (arith, head_at, block-most l.n l.parts l.m k (omega (arith, b)) b.m-least w, b.n-most)
