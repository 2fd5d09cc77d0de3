-- `written_value` meets its contract: the digits of the first j blocks are taken in. Assumes nothing.
use mathlib.Core.Path.{◌≡◌, refl, ap, ◌∙◌}
use Prim.Native.Nat.{ℕ, suc, ◌+◌, ◌-◌, ◌≤◌}
use native.Mathlib.Omega.{arith}
use lib.ListN.{length, get_or, take, drop}
use Rattle.construction_a.specs.Figures.{head_of}
use Rattle.params.specs.Given.{figures_of}
use Rattle.params.proofs.Shape.{bound, block_in, head-room, head-is}
use Rattle.heads.proofs.Looking.{part_at, part-head, part_length}
use Rattle.heads.proofs.Valued.{summed-none, summed-on, summed-all, open-lead}
use Rattle.heads.proofs.written.written_value.Goals as goal
use Rattle.heads.proofs.written.written_value.Goals.{After-block_head-head}

pub loop-j-init : goal.loop-j-init
loop-j-init c =
    let l = c.args.layout in (
      refl,
      summed-none l.index_tail (figures_of l) c.args.word.now c.args.blocks l.placement_count
          (bound l c.requires.0.finding.layout).q-least,
    )

pub bounds-blocks-j : goal.bounds-blocks-j
bounds-blocks-j c = omega (arith, (bound c.args.layout c.requires.0.finding.layout).m-most)

-- the block's head with its tail lies in the word
head-within : (c : After-block_head-head) → c.block_head-head.result + suc c.args.layout.index_tail ≤ c.args.layout.n
head-within c =
    let l = c.args.layout in
    let h = c.requires.0.finding.layout in
    let k = get_or c.args.blocks c.loop-j.j 0 in
    rw c.block_head-head.ensures (head-room l h k (block_in l h (c.requires.0.within c.loop-j.j (omega arith))))

pub slice_bounds-with_block-count : goal.slice_bounds-with_block-count
slice_bounds-with_block-count c = omega (arith, head-within (goal.at.slice_bounds-with_block-count c).After-block_head-head)

pub slice_bounds-with_block-start : goal.slice_bounds-with_block-start
slice_bounds-with_block-start c = omega (arith, head-within (goal.at.slice_bounds-with_block-start c).After-block_head-head)

pub with_block-value-requires : goal.with_block-value-requires
with_block-value-requires c =
    let j = c.loop-j.j in
    let l = c.args.layout in
    let h = c.requires.0.finding.layout in
    let w = c.args.word.now in
    let k = get_or c.args.blocks j 0 in
    let at = c.block_head-head.result in
    record {
      alphabet = (bound l h).q-least;
      room = rw (part_length at w) (omega (arith, head-within (goal.at.with_block-value-requires c).After-block_head-head));
      lead = rw (part-head at w) (open-lead (figures_of l) w k at (c.block_head-head.ensures ∙ head-is l h k) (c.requires.0.open-heads j (omega arith)));
    }

pub loop-j-preserved : goal.loop-j-preserved
loop-j-preserved c =
    let t = c.loop-j in
    let l = c.args.layout in
    let h = c.requires.0.finding.layout in
    let w = c.args.word.now in
    let k = get_or c.args.blocks t.j 0 in
    let at = c.block_head-head.result in
    let e : at ≡ head_of (figures_of l) k = c.block_head-head.ensures ∙ head-is l h k in (
      refl,
      rw c.with_block-value.ensures
          (summed-on l.index_tail (figures_of l) w c.args.blocks l.placement_count (bound l h).q-least t.j t.value
          (take (length w - at) (drop at w))
          (omega arith) (omega (arith, (bound l h).m-most)) (λ i _. part_at at w i ∙ ap (λ (y : ℕ). get_or w (y + i) 0) e) t.invariant.1),
    )

pub returns : goal.returns
returns c =
    let t = c.loop-j in
    let l = c.args.layout in
    summed-all l.index_tail (figures_of l) c.args.word.now c.args.blocks l.placement_count (bound l c.requires.0.finding.layout).q-least
    t.j t.value (omega arith) t.invariant.1
