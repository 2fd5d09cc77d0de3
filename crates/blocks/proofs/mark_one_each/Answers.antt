-- `mark_one_each` meets its contract: in each part before i the block beside its burst block is marked, the others stand. Assumes nothing.
use mathlib.Core.Path.{◌≡◌, sym, ap, ◌∙◌}
use mathlib.Core.Bool.{Bool, ◌||◌}
use Prim.Native.Nat.{ℕ, ◌+◌, ◌*◌, ◌≤◌, ◌<◌}
use native.Mathlib.Nat.{mul-le-mul_right}
use native.Mathlib.Omega.{arith}
use lib.Dec.{eqb}
use lib.ListN.{length-set}
use Rattle.construction_a.specs.Writing.{one_each, is_index_in, beside}
use Rattle.params.specs.Given.{max_blocks}
use Rattle.blocks.specs.declared.Kind.TheVariants.{Index}
use Rattle.blocks.specs.Numbers.{kind_numbers}
use Rattle.blocks.specs.Blocks.{burst_set}
use Rattle.blocks.proofs.Numbers.{length-kinds, kinds-set}
use Rattle.blocks.proofs.Marks.{mark-none, mark-more, mark-same, beside-lt, before, before-none, before_more, before-all, beside_same}
use Rattle.blocks.proofs.mark_one_each.Goals as goal
use Rattle.blocks.proofs.mark_one_each.Goals.{After-beside, In-loop-i}

pub loop-i-init : goal.loop-i-init
loop-i-init c =
    let a = c.args in
    let B = burst_set (kind_numbers a.kinds.now) in
    (c.requires.1, λ k. mark-none (before a.m B 0) (kind_numbers a.kinds.now) k (before-none a.m B 0 k (omega arith)))

-- the part's blocks are among all
part_in : (c : In-loop-i) → c.loop-i.i * c.args.m + c.args.m ≤ max_blocks
part_in c =
    let l : c.loop-i.i + 1 ≤ c.args.parts = omega arith in
    omega (arith, mul-le-mul_right c.args.m l, c.requires.0)

abbrev m : (c : After-beside) → ℕ
m c = c.args.m

abbrev B : (c : After-beside) → ℕ → Bool
B c = burst_set (kind_numbers c.args.kinds.now)

-- no block of the part is marked yet, so it is the block that the part had at first
beside_at : (c : After-beside) → c.beside.result ≡ beside (m c) (B c) c.loop-i.i
beside_at c =
    c.beside.ensures ∙ beside_same (m c) c.loop-i.i (kind_numbers c.args.kinds.now) (kind_numbers c.loop-i.kinds)
    (λ k h. c.loop-i.invariant.1 k ∙ sym (mark-none (before (m c) (B c) c.loop-i.i) (kind_numbers c.args.kinds.now) k (before-none (m c) (B c) c.loop-i.i k h)))

beside-in : (c : After-beside) → beside (m c) (B c) c.loop-i.i < (m c)
beside-in c = beside-lt (m c) (B c) c.loop-i.i (c.requires.2 c.loop-i.i (omega arith))

pub overflow_add-at : goal.overflow_add-at
overflow_add-at c = omega (arith, beside_at (goal.at.overflow_add-at c).After-beside, beside-in (goal.at.overflow_add-at c).After-beside, part_in (goal.at.overflow_add-at c).In-loop-i)

pub bounds-kinds-at : goal.bounds-kinds-at
bounds-kinds-at c = omega (arith, beside_at (goal.at.bounds-kinds-at c).After-beside, beside-in (goal.at.bounds-kinds-at c).After-beside, part_in (goal.at.bounds-kinds-at c).In-loop-i)

pub loop-i-preserved : goal.loop-i-preserved
loop-i-preserved c =
    let i = c.loop-i.i in
    let here = (goal.at.loop-i-preserved c).After-beside in (
      simp length-set c.loop-i.invariant.0,
      rw (kinds-set c.loop-i.kinds (i * m here + c.beside.result) Index)
          (mark-more (before (m here) (B here) i) (before (m here) (B here) (i + 1)) (kind_numbers c.args.kinds.now) (kind_numbers c.loop-i.kinds)
          (i * m here + c.beside.result) (omega (arith, bounds-kinds-at c, length-kinds c.loop-i.kinds)) c.loop-i.invariant.1
          (λ k. before_more (m here) (B here) i k (beside-in here) ∙ ap (λ (y : ℕ). eqb k (i * m here + y) || before (m here) (B here) i k) (sym (beside_at here)))),
    )

pub returns : goal.returns
returns c =
    let a = c.args in
    let B = burst_set (kind_numbers a.kinds.now) in
    let e : c.loop-i.i ≡ a.parts = omega arith in
    λ k l. mark-same (before a.m B c.loop-i.i) (is_index_in a.m B one_each) (kind_numbers a.kinds.now) (kind_numbers c.loop-i.kinds) k (c.loop-i.invariant.1 k)
    (rw e (before-all a.m B a.parts k l))
