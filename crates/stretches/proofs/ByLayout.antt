-- A layout's words are walked by the tables of their blocks. Assumes nothing.
use mathlib.Core.Path.{◌≡◌, refl, sym, ap, ◌∙◌}
use mathlib.Core.Bool.{Bool, true, false, true≢false}
use mathlib.Core.List.{List}
use Prim.Native.Nat.{ℕ, suc, ◌+◌, ◌-◌, ◌*◌, ◌/◌, ◌≤◌, ◌<◌}
use native.Mathlib.Nat.{mul-le-mul_right}
use native.Mathlib.Omega.{arith}
use lib.Dec.{eqb}
use lib.ListN.{length, get_or}
use Rattle.combinatorics.proofs.Bursts.{of-placed}
use Rattle.combinatorics.proofs.Stretch.{count-ext}
use Rattle.cells.specs.Cells.{message}
use Rattle.cells.specs.Plan.{kind_in, plan_in}
use Rattle.cells.proofs.Cut.{block-next}
use Rattle.cells.proofs.Plan.{Framed, kind-is}
use Rattle.cells.proofs.Walk.{tally, tally-count}
use Rattle.construction_a.specs.Figures.{parts, blocks, head_of}
use Rattle.construction_a.specs.Writing.{is_burst, is_index}
use Rattle.cells.proofs.Figures.{Ranged}
use Rattle.construction_a.proofs.Figures.{three-parts}
use Rattle.construction_a.proofs.Plan.{index-count, framed-with, messages-with}
use Rattle.params.specs.declared.Layout.{Layout}
use Rattle.params.specs.Given.{figures_of, frame_of}
use Rattle.params.proofs.Shape.{in-range, min-room, min-burst, blocks-most}
use Rattle.placements.specs.declared.Placement.{Placement}
use Rattle.placements.specs.Bridge.{PlacesBursts, starts_in}
use Rattle.placements.proofs.Placing.{starts-placed, starts-count}
use Rattle.blocks.specs.Blocks.{block_kind, burst_kind, index_kind}
use Rattle.stretches.specs.Walk.{frame_by, index_before, digits_by}
use Rattle.stretches.specs.ByBlock.{Walks, Tables, walk_of}
use Rattle.stretches.specs.Fill.{DigitsFor, MessageFor}
use Rattle.stretches.proofs.ByBlock.{plan-by}
use Rattle.stretches.proofs.Dealt.{dealt-own}

-- ---- A block's kind as its number

kind-few : (i b : Bool) → block_kind i b ≤ index_kind
kind-few true b = omega arith
kind-few false true = omega arith
kind-few false false = omega arith

kind-index : (i b : Bool) → eqb (block_kind i b) index_kind ≡ i
kind-index true b = refl
kind-index false true = refl
kind-index false false = refl

kind-burst : (i b : Bool) → (i ≡ true → b ≡ false) → eqb (block_kind i b) burst_kind ≡ b
kind-burst true true e = absurd (true≢false (e refl))
kind-burst true false e = refl
kind-burst false true e = refl
kind-burst false false e = refl

module _ (l : Layout) (at : Placement) (heads kinds : List ℕ) (p : PlacesBursts l at) (tables : Tables l at heads kinds) where
  range : Ranged (figures_of l)
  range = in-range l p.layout

  framed : Framed (frame_of l (starts_in at))
  framed =
      framed-with (figures_of l) range (starts_in at) (starts-placed l at p) (starts-count l at p) l.index_tail (min-room l p.layout)
      (p.layout.spares (starts_in at) p.placed)

  some-parts : 0 < parts (figures_of l)
  some-parts = omega (arith, three-parts (figures_of l))

  head : (k : ℕ) → k ≤ blocks (figures_of l) → get_or heads k 0 ≡ head_of (figures_of l) k
  head = tables.0

  next : (k : ℕ) → head_of (figures_of l) k + l.n / (parts (figures_of l) * l.m) ≤ head_of (figures_of l) (suc k)
  next k = block-next l.n (parts (figures_of l)) l.m k range.m-least

  index : (k : ℕ) → k < blocks (figures_of l) → eqb (get_or kinds k 0) index_kind ≡ is_index (figures_of l) (starts_in at) k
  index k h = ap (λ (y : ℕ). eqb y index_kind) (tables.1 k h) ∙ kind-index (is_index (figures_of l) (starts_in at) k) (is_burst (figures_of l) (starts_in at) k)

  burst : (k : ℕ) → k < blocks (figures_of l) → eqb (get_or kinds k 0) burst_kind ≡ is_burst (figures_of l) (starts_in at) k
  burst k h =
      ap (λ (y : ℕ). eqb y burst_kind) (tables.1 k h)
      ∙ kind-burst (is_index (figures_of l) (starts_in at) k) (is_burst (figures_of l) (starts_in at) k) (framed.index-not-burst k h)

  pub walks-of : Walks (walk_of l) at heads kinds
  walks-of =
      record {
        bursts =
            record {
              few = range.m-most;
              held = p.count;
              count = starts-count l at p;
              placed = of-placed l.b l.n 0 (starts_in at) (starts-placed l at p);
            };
        n-most = range.n-most;
        b-least = range.b-least;
        blocks-most = blocks-most l p.layout;
        some = omega arith;
        first = head 0 (omega arith) ∙ framed.first;
        last = head (blocks (figures_of l)) (omega arith) ∙ framed.last;
        room = λ k h. omega (arith, head k (omega arith), head (suc k) h, framed.up k);
        short = λ k h. omega (arith, head k (omega arith), head (suc k) (omega arith), next k, min-burst l p.layout);
        three = λ k h. omega (arith, tables.1 k h, kind-few (is_index (figures_of l) (starts_in at) k) (is_burst (figures_of l) (starts_in at) k));
        spares =
            record {
              index-heads = λ k x h t a c.
                  framed.spares.index-heads k x h (sym (index k h) ∙ t) (omega (arith, head k (omega arith))) (omega (arith, head k (omega arith)));
              fixed-heads = λ k h t u. rw (head k (omega arith)) (framed.spares.fixed-heads k h (sym (index k h) ∙ t) (sym (burst k h) ∙ u));
            };
      }

  -- the plan is the layout's
  pub plan-of : plan_in (frame_by (walk_of l) heads kinds (starts_in at)) ≡ plan_in (frame_of l (starts_in at))
  plan-of =
      let tail : suc l.index_tail - 1 ≡ l.index_tail = omega arith in
      plan-by walks-of (kind_in (frame_of l (starts_in at)))
      (λ k x h a c.
      rw (tail, index k h, burst k h, head k (omega arith))
      (kind-is (frame_of l (starts_in at)) framed k x h (omega (arith, head k (omega arith))) (omega (arith, head (suc k) h))))

  -- and so are the message cells
  pub message-of : (ms : List ℕ) → length ms ≡ l.message_len → MessageFor (walk_of l) at heads kinds ms
  message-of ms e =
      let len : l.message_len + l.m * (l.b + parts (figures_of l) + l.index_tail - 1) ≡ l.n = rw p.layout.parts_is at p.layout.len_is in
      ap (tally message) plan-of ∙ tally-count message l.n 0 (kind_in (frame_of l (starts_in at)))
      ∙ omega (
        arith,
        len,
        e,
        messages-with (figures_of l) range (starts_in at) (starts-placed l at p) (starts-count l at p) l.index_tail (min-room l p.layout)
            (p.layout.spares (starts_in at) p.placed),
      )

  -- there are m index blocks, with their own digits each
  index-all : index_before kinds (blocks (figures_of l)) ≡ l.m
  index-all =
      count-ext (blocks (figures_of l)) 0 (λ i. eqb (get_or kinds i 0) index_kind) (is_index (figures_of l) (starts_in at)) (λ k _ h. index k (omega arith))
      ∙ index-count (figures_of l) range (starts_in at) (starts-placed l at p) (starts-count l at p)

  module _ (ds : List ℕ) (e : length ds ≡ l.m * suc l.index_tail) where
    pub digits-lent : DigitsFor (walk_of l) kinds ds
    digits-lent j h = omega (arith, e, mul-le-mul_right {m = suc j} {n = l.m} (suc l.index_tail) (omega (arith, index-all)))

    pub digits-of : digits_by (walk_of l) kinds ds ≡ ds
    digits-of = rw index-all (dealt-own l.m (suc l.index_tail) ds e)
