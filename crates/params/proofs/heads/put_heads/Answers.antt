-- `put_heads` meets its contract: the blocks of the first i parts have their entries, and the next part starts behind them. Assumes nothing.
use mathlib.Core.Path.{◌≡◌, ap, ◌∙◌}
use Prim.Native.Nat.{ℕ, suc, ◌+◌, ◌*◌, ◌≤◌, ◌<◌}
use native.Mathlib.Nat.{add-mul, mul-le-mul_right}
use native.Mathlib.Numerals.{add-one}
use native.Mathlib.Omega.{arith}
use lib.ListN.{get_or}
use Rattle.cells.specs.Cut.{piece_start, block_head}
use Rattle.cells.proofs.Cut.{piece-zero, piece-next, piece-most}
use Rattle.cells.specs.Figures.{max_word}
use Rattle.params.specs.declared.Layout.{Layout}
use Rattle.params.specs.Given.{max_blocks}
use Rattle.params.proofs.Answered.{Bounds}
use Rattle.params.proofs.Shape.{bound}
use Rattle.params.proofs.Starting.{part-more, end_more}
use Rattle.params.proofs.heads.put_heads.Goals as goal
use Rattle.params.proofs.heads.put_heads.Goals.{After-piece_len-len, After-struct_known-1, Start}

limits : (s : Start) → Bounds s.args.layout
limits s = bound s.args.layout s.requires.0

abbrev layout : (c : After-piece_len-len) → Layout
layout c = c.args.layout

abbrev part : (c : After-piece_len-len) → ℕ
part c = c.loop-i.i

-- the part's blocks are among all
below : (c : After-piece_len-len) → c.loop-i.first + (layout c).m ≤ max_blocks
below c =
    omega (
      arith,
      limits c.before.before.before,
      c.loop-i.invariant.0,
      mul-le-mul_right {m = suc (part c)} {n = (layout c).parts} (layout c).m (omega arith),
    )

-- the next (part c) starts behind this one
step : (c : After-piece_len-len) → c.loop-i.from + c.piece_len-len.result ≡ piece_start (layout c).n (layout c).parts ((part c) + 1)
step c = rw (add-one (part c)) (omega (arith, c.loop-i.invariant.1, c.piece_len-len.ensures, piece-next (layout c).n (layout c).parts (part c)))

-- at the latest at the word's end
small : (c : After-piece_len-len) → c.loop-i.from + c.piece_len-len.result ≤ max_word
small c =
    let b = limits c.before.before.before in
    omega (arith, b, (step c), piece-most (layout c).n (layout c).parts ((part c) + 1) (omega (arith, b)) (omega arith))

pub loop-i-init : goal.loop-i-init
loop-i-init c =
    let l = c.args.layout in
    (omega arith, omega (arith, piece-zero l.n l.parts), c.requires.1, λ k h. absurd (omega arith))

pub put_part-requires : goal.put_part-requires
put_part-requires c =
    (omega (arith, limits (goal.at.put_part-requires c).Start), below (goal.at.put_part-requires c).After-piece_len-len, small (goal.at.put_part-requires c).After-piece_len-len, c.loop-i.invariant.2)

pub overflow_add-first : goal.overflow_add-first
overflow_add-first c = omega (arith, below (goal.at.overflow_add-first c).After-piece_len-len)

pub overflow_add-from : goal.overflow_add-from
overflow_add-from c = omega (arith, small (goal.at.overflow_add-from c).After-piece_len-len)

pub loop-i-preserved : goal.loop-i-preserved
loop-i-preserved c =
    let l = c.args.layout in
    let i = c.loop-i.i in
    let e = c.put_part.ensures in (
      omega (arith, c.loop-i.invariant.0, add-mul i 1 l.m),
      step (goal.at.loop-i-preserved c).After-piece_len-len,
      e.size,
      part-more l.n l.parts l.m i (omega (arith, limits (goal.at.loop-i-preserved c).Start)) c.loop-i.heads c.put_part.new.heads c.loop-i.invariant.3
          (λ k h. e.before k (omega (arith, c.loop-i.invariant.0)))
          (λ j h. rw (c.loop-i.invariant.0, c.loop-i.invariant.1, c.piece_len-len.ensures) at (e.part j h)),
    )

pub overflow_cast-heads : goal.overflow_cast-heads
overflow_cast-heads c = omega (arith, limits (goal.at.overflow_cast-heads c).Start)

-- every block has its entry, so the next one is the last
all : (c : After-struct_known-1)
    → (c.loop-i.first ≡ c.args.layout.parts * c.args.layout.m)
all c =
    let e : c.loop-i.i ≡ c.args.layout.parts = omega arith in
    c.loop-i.invariant.0 ∙ rw e

pub offset_bounds-heads-first : goal.offset_bounds-heads-first
offset_bounds-heads-first c = omega (arith, all (goal.at.offset_bounds-heads-first c).After-struct_known-1, limits (goal.at.offset_bounds-heads-first c).Start)

pub bounds-heads-first : goal.bounds-heads-first
bounds-heads-first c = omega (arith, all (goal.at.bounds-heads-first c).After-struct_known-1, limits (goal.at.bounds-heads-first c).Start)

pub returns : goal.returns
returns c =
    let l = c.args.layout in
    let b = limits (goal.at.returns c).Start in
    let e : c.loop-i.i ≡ l.parts = omega arith in
    let so_far : (k : ℕ) → k < l.parts * l.m → get_or c.loop-i.heads k 0 ≡ block_head l.n l.parts l.m k = rw e at c.loop-i.invariant.3 in
    let is = c.requires.0.parts_is in
    λ k h. rw (all (goal.at.returns c).After-struct_known-1)
    (end_more l.n l.parts l.m c.loop-i.heads (omega (arith, b)) (omega (arith, b)) (omega (arith, b, c.loop-i.invariant.2)) so_far k (rw (← is) at h))
    ∙ ap (λ (p : ℕ). block_head l.n p l.m k) is
