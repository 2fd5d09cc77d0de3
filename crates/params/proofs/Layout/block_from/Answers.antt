-- `Layout::block_from` meets its contract: block k starts no later than x, and comes before every block behind `first` that starts later. Assumes nothing.
use mathlib.Core.Path.{◌≡◌, sym}
use Prim.Native.Nat.{ℕ, ◌+◌, ◌*◌, ◌≤◌, ◌<◌}
use native.Mathlib.Numerals.{add-one}
use native.Mathlib.Omega.{arith}
use lib.ListN.{get_or}
use Rattle.cells.specs.Cut.{block_head}
use Rattle.cells.proofs.Cut.{block_in, block-end}
use Rattle.params.specs.declared.Layout.{Layout}
use Rattle.params.proofs.Shape.{bound, blocks-fit, head_at}
use Rattle.params.proofs.Layout.block_from.Goals as goal
use Rattle.params.proofs.Layout.block_from.Goals.{At-loop-k, Start}

abbrev l : Start → Layout
l s = s.args.self

-- what the array has of a block
has : (s : Start) (k : ℕ) → k ≤ (l s).parts * (l s).m → get_or s.args.heads.now k 0 ≡ block_head (l s).n (l s).parts (l s).m k
has s = head_at (l s) s.requires.0 s.args.heads.now s.requires.1

-- the walk stays among the blocks: behind the last stands the word's length
within : (c : At-loop-k) → c.loop-k.k < (l c.before).parts * (l c.before).m
within c =
    let b = bound (l c.before) c.requires.0 in
    let blocks = (l c.before).parts * (l c.before).m in
    c.loop-k.invariant.1 blocks c.requires.2
    (omega (arith, c.requires.4, has c.before blocks (omega arith), block-end (l c.before).n (l c.before).parts (l c.before).m (omega (arith, b)) b.m-least))

pub overflow_add-k : goal.overflow_add-k
overflow_add-k c = omega (arith, within (goal.at.overflow_add-k c).At-loop-k, blocks-fit (l (goal.at.overflow_add-k c).Start) c.requires.0)

pub offset_bounds-heads-k : goal.offset_bounds-heads-k
offset_bounds-heads-k c = omega (arith, within (goal.at.offset_bounds-heads-k c).At-loop-k, blocks-fit (l (goal.at.offset_bounds-heads-k c).Start) c.requires.0)

pub bounds-heads-k : goal.bounds-heads-k
bounds-heads-k c = omega (arith, within (goal.at.bounds-heads-k c).At-loop-k, blocks-fit (l (goal.at.bounds-heads-k c).Start) c.requires.0)

pub overflow_add-k-in-loop-k : goal.overflow_add-k-in-loop-k
overflow_add-k-in-loop-k c = omega (arith, within (goal.at.overflow_add-k-in-loop-k c).At-loop-k, blocks-fit (l (goal.at.overflow_add-k-in-loop-k c).Start) c.requires.0)

pub loop-k-smaller : goal.loop-k-smaller
loop-k-smaller c = omega (arith, within (goal.at.loop-k-smaller c).At-loop-k, blocks-fit (l (goal.at.loop-k-smaller c).Start) c.requires.0)

pub returns : goal.returns
returns c =
    let b = bound (l (goal.at.returns c).Start) c.requires.0 in
    let k = c.loop-k.k in
    let i = within (goal.at.returns c).At-loop-k in
    sym (block_in (l (goal.at.returns c).Start).n (l (goal.at.returns c).Start).parts (l (goal.at.returns c).Start).m c.args.x k (omega (arith, b)) b.m-least i (omega (arith, c.loop-k.invariant.0, has (goal.at.returns c).Start k (omega (arith, i))))
    (rw (← add-one k) (omega (arith, c.loop-k-test.false, has (goal.at.returns c).Start (k + 1) (omega (arith, i))))))
