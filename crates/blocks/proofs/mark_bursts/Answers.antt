-- `mark_bursts` meets its contract: the first j bursts have their blocks, and no burst to come ends before block `last`. Assumes nothing.
use mathlib.Core.Path.{◌≡◌, subst}
use Prim.Native.Nat.{ℕ, ◌+◌, ◌-◌, ◌*◌, ◌≤◌, ◌<◌}
use native.Mathlib.Omega.{arith}
use lib.ListN.{length, get_or}
use Rattle.combinatorics.proofs.Stretch.{IsTop}
use Rattle.cells.specs.Cut.{block_head, block_with}
use Rattle.cells.proofs.Cut.{block-first, block-with}
use Rattle.cells.specs.Figures.{max_word}
use Rattle.placements.specs.Bridge.{starts_in}
use Rattle.params.specs.Given.{figures_of}
use Rattle.params.specs.declared.Layout.{Layout}
use Rattle.blocks.specs.declared.Kind.TheVariants.{Burst}
use Rattle.blocks.specs.Numbers.{kind_numbers}
use Rattle.blocks.proofs.Numbers.{length-kinds, kinds-set}
use Rattle.blocks.proofs.Bursting.{Bursting, bursting-start, bursting-turn, bursting-done}
use Rattle.params.proofs.Shape.{bound, blocks_is, blocks-fit, blocks-most, many}
use Rattle.placements.proofs.Placing.{starts-count, start_is, start-in, start-grows}
use Rattle.blocks.proofs.mark_bursts.Goals as goal
use Rattle.blocks.proofs.mark_bursts.Goals.{Start}

abbrev l : Start → Layout
l s = s.args.layout

-- ---- Burst j

-- its last position
abbrev end : (s : Start) (j : ℕ) (h : j < (l s).m) → ℕ
end s j h = get_or s.args.at.starts j 0 + (l s).b - 1

end-in : (s : Start) (j : ℕ) (h : j < (l s).m) → (end s j h) < (l s).n
end-in s j h = omega (arith, start-in (l s) s.args.at s.requires.0 j h, (bound (l s) s.requires.0.layout).b-least)

start_small : (s : Start) (j : ℕ) (h : j < (l s).m) → get_or s.args.at.starts j 0 + (l s).b ≤ max_word
start_small s j h = omega (arith, start-in (l s) s.args.at s.requires.0 j h, (bound (l s) s.requires.0.layout).n-most)

-- the block that has it
end-block : (s : Start) (j : ℕ) (h : j < (l s).m) → IsTop (block_head (l s).n (l s).parts (l s).m) ((l s).parts * (l s).m) (end s j h) (block_with (l s).n (l s).parts (l s).m (end s j h))
end-block s j h =
    let b = bound (l s) s.requires.0.layout in
    block-with (l s).n (l s).parts (l s).m (end s j h) (omega (arith, b.parts-least)) b.m-least (end-in s j h)

-- ---- The loop

pub overflow_mul-blocks : goal.overflow_mul-blocks
overflow_mul-blocks c = omega (arith, blocks-fit (l (goal.at.overflow_mul-blocks c).Start) c.requires.0.layout)

pub loop-j-init : goal.loop-j-init
loop-j-init c =
    let b = bound (l (goal.at.loop-j-init c).Start) c.requires.0.layout in (
      omega (arith, many (l (goal.at.loop-j-init c).Start) c.requires.0.layout, b.m-least, blocks_is (l (goal.at.loop-j-init c).Start) c.requires.0.layout),
      λ i _ _. omega (arith, block-first (l (goal.at.loop-j-init c).Start).n (l (goal.at.loop-j-init c).Start).parts (l (goal.at.loop-j-init c).Start).m b.m-least),
      rw c.requires.2 (bursting-start (figures_of (l (goal.at.loop-j-init c).Start)) (starts_in c.args.at)),
    )

pub bounds-at-j : goal.bounds-at-j
bounds-at-j c = omega (arith, (bound (l (goal.at.bounds-at-j c).Start) c.requires.0.layout).m-most)

pub overflow_add-start : goal.overflow_add-start
overflow_add-start c = omega (arith, start_small (goal.at.overflow_add-start c).Start c.loop-j.j (omega arith))

pub overflow_sub-start : goal.overflow_sub-start
overflow_sub-start c = omega (arith, (bound (l (goal.at.overflow_sub-start c).Start) c.requires.0.layout).b-least)

pub block_from-last-requires : goal.block_from-last-requires
block_from-last-requires c =
    let j = c.loop-j.j in
    (c.requires.0.layout, c.requires.1, c.loop-j.invariant.0, c.loop-j.invariant.1 j (omega arith) (omega arith), end-in (goal.at.block_from-last-requires c).Start j (omega arith))

pub burst_block-next-requires : goal.burst_block-next-requires
burst_block-next-requires c =
    let g = c.requires.0.layout in (
      rw c.block_from-last.ensures (end-block (goal.at.burst_block-next-requires c).Start c.loop-j.j (omega arith)).below,
      blocks-fit (l (goal.at.burst_block-next-requires c).Start) g,
      rw g.parts_is (omega (arith, c.loop-j.invariant.2.marked, many (l (goal.at.burst_block-next-requires c).Start) g)),
    )

pub bounds-kinds-next : goal.bounds-kinds-next
bounds-kinds-next c =
    omega (arith, c.burst_block-next.ensures.1, blocks-fit (l (goal.at.bounds-kinds-next c).Start) c.requires.0.layout, c.loop-j.invariant.2.size, length-kinds c.loop-j.kinds)

pub loop-j-preserved : goal.loop-j-preserved
loop-j-preserved c =
    let at = c.args.at in
    let g = c.requires.0.layout in
    let p = g.parts_is in
    let j = c.loop-j.j in
    let h : j < (l (goal.at.loop-j-preserved c).Start).m = omega arith in
    let last = c.block_from-last in
    let top = end-block (goal.at.loop-j-preserved c).Start j h in (
      rw last.ensures top.below,
      λ i d k. rw last.ensures (omega (arith, top.reach, start-grows (l (goal.at.loop-j-preserved c).Start) at c.requires.0 j i (omega arith) k)),
      rw (kinds-set c.loop-j.kinds c.burst_block-next.result Burst, c.burst_block-next.ensures.0, p)
          (bursting-turn (figures_of (l (goal.at.loop-j-preserved c).Start)) (starts_in at) j last.result (kind_numbers c.loop-j.kinds) c.loop-j.invariant.2
          (omega (arith, starts-count (l (goal.at.loop-j-preserved c).Start) at c.requires.0))
          (rw (start_is (l (goal.at.loop-j-preserved c).Start) at c.requires.0 j h, ← p) last.ensures)
          (rw (last.ensures, ← p) top.below)
          (omega (arith, many (l (goal.at.loop-j-preserved c).Start) g)) (blocks-most (l (goal.at.loop-j-preserved c).Start) g)),
    )

pub returns-clause-size : goal.returns-clause-size
returns-clause-size c = omega (arith, c.loop-j.invariant.2.size, length-kinds c.loop-j.kinds)

pub returns-clause-bursts : goal.returns-clause-bursts
returns-clause-bursts c =
    let ss = starts_in c.args.at in
    let e : c.loop-j.j ≡ length ss = omega (arith, starts-count (l (goal.at.returns-clause-bursts c).Start) c.args.at c.requires.0) in bursting-done (figures_of (l (goal.at.returns-clause-bursts c).Start)) ss (kind_numbers c.loop-j.kinds) (subst (λ (y : ℕ). Bursting (figures_of (l (goal.at.returns-clause-bursts c).Start)) ss y (kind_numbers c.loop-j.kinds)) e c.loop-j.invariant.2)
