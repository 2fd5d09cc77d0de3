-- `agrees` meets its contract: what is left of both tests decides as both do over all blocks. Assumes nothing.
use mathlib.Core.Path.{◌≡◌, sym, ap, ◌∙◌}
use mathlib.Core.Bool.{Bool, true, not}
use mathlib.Core.List.{List}
use Prim.Native.Nat.{ℕ, ◌*◌}
use native.Mathlib.Omega.{arith}
use borrow.Author.Rules.{rules}
use lib.Dec.{eqb}
use lib.ListN.{length, take}
use lib.Seq.{length-take-le, get_or-take}
use Rattle.cells.specs.Figures.{max_bursts}
use Rattle.params.proofs.Shape.{bound, blocks-fit, blocks_is}
use Rattle.params.specs.Given.{figures_of}
use Rattle.blocks.specs.Blocks.{index_kind}
use Rattle.heads.proofs.Looking.{part_length, head-inside, stretch-looks}
use Rattle.blocks.specs.declared.Kind.TheVariants.{Fixed, Burst, Index}
use Rattle.blocks.specs.Numbers.{kind_numbers}
use Rattle.blocks.proofs.Numbers.{kind-is-at}
use Rattle.decoder.proofs.Agreeing.{of_kind, marked, unmarked, Off, fixed_off, other-off}
use Rattle.decoder.proofs.Agreeing.{left-off, left-skip, left-more, left_other, left-next, left_over, agrees-by}
use Rattle.decoder.proofs.agree.agrees.Goals as goal
use Rattle.decoder.proofs.agree.agrees.Goals.{Start, in-Burst, in-Fixed+else-not-looks_fixed, in-Index+else-layout-met+else-index-met}

abbrev BlocksIn : Start → ℕ
BlocksIn s = s.args.layout.parts * s.args.layout.m

abbrev IndexIn : Start → ℕ → Bool
IndexIn s = of_kind index_kind (kind_numbers s.args.kinds.now)

abbrev OffIn : Start → ℕ → Bool
OffIn s = Off (figures_of s.args.layout) s.args.word.now (kind_numbers s.args.kinds.now)

abbrev ReadIn : Start → List ℕ
ReadIn s = take s.args.layout.m s.args.index

read : (s : Start) → length (ReadIn s) ≡ s.args.layout.m
read s =
    let l : length s.args.index ≡ max_bursts = search rules in
    length-take-le s.args.layout.m s.args.index (omega (arith, bound s.args.layout s.requires.0.layout))

pub overflow_mul-blocks : goal.overflow_mul-blocks
overflow_mul-blocks c = omega (arith, blocks-fit c.args.layout c.requires.0.layout)

pub loop-k-init : goal.loop-k-init
loop-k-init c =
    let l = c.args.layout in
    let e = blocks_is l c.requires.0.layout in
    (omega arith, λ ss is. agrees-by (figures_of l) ss (kind_numbers c.args.kinds.now) is c.args.word.now (ReadIn (goal.at.loop-k-init c).Start) (BlocksIn (goal.at.loop-k-init c).Start) e)

pub bounds : goal.bounds
bounds c = omega (arith, blocks-fit c.args.layout c.requires.0.layout)

-- ---- A fixed block

pub slice_bounds-looks_fixed-count : goal.slice_bounds-looks_fixed-count
slice_bounds-looks_fixed-count c =
    let p = c.requires in
    omega (arith, head-inside p.0 c.loop-k.k c.block_head-head.ensures (omega arith))

pub slice_bounds-looks_fixed-start : goal.slice_bounds-looks_fixed-start
slice_bounds-looks_fixed-start c =
    let p = c.requires in
    omega (arith, head-inside p.0 c.loop-k.k c.block_head-head.ensures (omega arith))

pub looks_fixed-requires : goal.looks_fixed-requires
looks_fixed-requires c =
    let b = c.block_head-head in
    rw (part_length b.result c.args.word.now)
    (omega (arith, head-inside c.requires.0 c.loop-k.k b.ensures (omega arith)))

pub returns-then-not-looks_fixed : goal.returns-then-not-looks_fixed
returns-then-not-looks_fixed c =
    let t = c.loop-k in
    let looks = stretch-looks c.requires.0 t.k c.block_head-head.ensures c.looks_fixed.ensures in
    let o : OffIn (goal.at.returns-then-not-looks_fixed c).Start t.k ≡ true =
    fixed_off (figures_of c.args.layout) c.args.word.now (kind_numbers c.args.kinds.now) t.k (kind-is-at c.args.kinds.now t.k Fixed c.in-Fixed.is)
    ∙ ap not looks ∙ (ap not c.if-not-looks_fixed.true) in
    λ ss is. sym (left-off (BlocksIn (goal.at.returns-then-not-looks_fixed c).Start) (IndexIn (goal.at.returns-then-not-looks_fixed c).Start) (OffIn (goal.at.returns-then-not-looks_fixed c).Start) (ReadIn (goal.at.returns-then-not-looks_fixed c).Start) t.k t.met (omega arith) o) ∙ t.invariant.1 ss is

-- ---- An index block

pub returns-then-layout-met : goal.returns-then-layout-met
returns-then-layout-met c =
    let t = c.loop-k in
    let i = marked index_kind (kind_numbers c.args.kinds.now) t.k (kind-is-at c.args.kinds.now t.k Index c.in-Index.is) in
    λ ss is. sym (left-more (BlocksIn (goal.at.returns-then-layout-met c).Start) (IndexIn (goal.at.returns-then-layout-met c).Start) (OffIn (goal.at.returns-then-layout-met c).Start) (ReadIn (goal.at.returns-then-layout-met c).Start) t.k t.met (omega arith) i (omega (arith, read (goal.at.returns-then-layout-met c).Start))) ∙ t.invariant.1 ss is

pub bounds-index-met : goal.bounds-index-met
bounds-index-met c =
    omega (arith, bound c.args.layout c.requires.0.layout)

pub returns-then-index-met : goal.returns-then-index-met
returns-then-index-met c =
    let t = c.loop-k in
    let i = marked index_kind (kind_numbers c.args.kinds.now) t.k (kind-is-at c.args.kinds.now t.k Index c.in-Index.is) in
    let e = get_or-take c.args.layout.m c.args.index t.met 0 (omega arith) in
    λ ss is. sym (left_other (BlocksIn (goal.at.returns-then-index-met c).Start) (IndexIn (goal.at.returns-then-index-met c).Start) (OffIn (goal.at.returns-then-index-met c).Start) (ReadIn (goal.at.returns-then-index-met c).Start) t.k t.met (omega arith) i (omega (arith, read (goal.at.returns-then-index-met c).Start))
    (λ d. c.if-index-met.true (sym e ∙ d)))
    ∙ t.invariant.1 ss is

-- ---- The next block

pub loop-k-preserved : goal.loop-k-preserved
loop-k-preserved c =
    let t = c.loop-k in
    let kinds = c.args.kinds.now in
    let inside = c.loop-k-test.true in
    let f = figures_of c.args.layout in
    let w = c.args.word.now in
    elim c.match-kinds-k.branch [
      | in-Fixed+else-not-looks_fixed u ↦
          let e = kind-is-at kinds t.k Fixed u.in-Fixed.is in
          let looks = stretch-looks c.requires.0 t.k u.block_head-head.ensures u.looks_fixed.ensures in (
            rw u.met-is t.invariant.0,
            rw u.met-is (λ ss is. sym (left-skip (BlocksIn (goal.at.loop-k-preserved c).Start) (IndexIn (goal.at.loop-k-preserved c).Start) (OffIn (goal.at.loop-k-preserved c).Start) (ReadIn (goal.at.loop-k-preserved c).Start) t.k t.met inside
                (unmarked index_kind (kind_numbers kinds) t.k (omega (arith, e)))
                (fixed_off f w (kind_numbers kinds) t.k e ∙ ap not looks ∙ ap not u.if-not-looks_fixed.false))
                ∙ t.invariant.1 ss is),
          )
      | in-Index+else-layout-met+else-index-met u ↦
          let e = kind-is-at kinds t.k Index u.in-Index.is in (
            rw u.met-is (omega arith),
            rw u.met-is (λ ss is. sym (left-next (BlocksIn (goal.at.loop-k-preserved c).Start) (IndexIn (goal.at.loop-k-preserved c).Start) (OffIn (goal.at.loop-k-preserved c).Start) (ReadIn (goal.at.loop-k-preserved c).Start) t.k t.met inside
                (marked index_kind (kind_numbers kinds) t.k e) (other-off f w (kind_numbers kinds) t.k (omega (arith, e)))
                (omega (arith, read (goal.at.loop-k-preserved c).Start, u.if-layout-met.false))
                (get_or-take c.args.layout.m c.args.index t.met 0 u.if-layout-met.false ∙ u.if-index-met.false))
                ∙ t.invariant.1 ss is),
          )
      | in-Burst u ↦
          let e = kind-is-at kinds t.k Burst u.in-Burst.is in (
            rw u.met-is t.invariant.0,
            rw u.met-is (λ ss is. sym (left-skip (BlocksIn (goal.at.loop-k-preserved c).Start) (IndexIn (goal.at.loop-k-preserved c).Start) (OffIn (goal.at.loop-k-preserved c).Start) (ReadIn (goal.at.loop-k-preserved c).Start) t.k t.met inside
                (unmarked index_kind (kind_numbers kinds) t.k (omega (arith, e))) (other-off f w (kind_numbers kinds) t.k (omega (arith, e))))
                ∙ t.invariant.1 ss is),
          )
    ]

pub returns : goal.returns
returns c =
    let t = c.loop-k in
    λ ss is. ap (eqb t.met) (sym (read (goal.at.returns c).Start))
    ∙ sym (left_over (BlocksIn (goal.at.returns c).Start) (IndexIn (goal.at.returns c).Start) (OffIn (goal.at.returns c).Start) (ReadIn (goal.at.returns c).Start) t.k t.met (omega arith) (omega (arith, read (goal.at.returns c).Start))) ∙ t.invariant.1 ss is
