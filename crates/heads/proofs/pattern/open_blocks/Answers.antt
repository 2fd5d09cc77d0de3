-- `open_blocks` meets its contract: `shown` holds those among the first j blocks of the part. Assumes nothing.
use mathlib.Core.Path.{◌≡◌, ap, ◌∙◌}
use mathlib.Core.Bool.{Bool, not}
use mathlib.Core.List.{List}
use Prim.Native.Nat.{ℕ, ◌+◌, ◌*◌}
use native.Mathlib.Omega.{arith}
use Rattle.combinatorics.specs.Stretch.{members}
use Rattle.construction_a.specs.Writing.{row}
use Rattle.construction_a.specs.Reading.{looks_fixed, open_blocks}
use Rattle.params.proofs.Shape.{bound}
use Rattle.params.specs.declared.Layout.{Layout}
use Rattle.params.specs.Given.{figures_of}
use Rattle.heads.specs.Patterns.{candidates_of}
use Rattle.heads.proofs.Listed.{candidates-few, candidates-in, candidates-out}
use Rattle.heads.proofs.Looking.{part_length, part-head-inside, stretch-looks}
use Rattle.heads.proofs.pattern.open_blocks.Goals as goal
use Rattle.heads.proofs.pattern.open_blocks.Goals.{then-not-looks_fixed, else-not-looks_fixed}

-- the part's blocks that don't look fixed
abbrev Open : Layout → List ℕ → ℕ → ℕ → Bool
Open l w part = λ x. not (row l.m (looks_fixed (figures_of l) w) part x)

pub loop-j-init : goal.loop-j-init
unfolding members
loop-j-init c = (omega arith, c.none-shown.ensures)

pub slice_bounds-looks_fixed-count : goal.slice_bounds-looks_fixed-count
slice_bounds-looks_fixed-count c =
    omega (arith, part-head-inside c.requires.0 c.args.part c.loop-j.j c.requires.2 (omega arith) c.block_head-head.ensures)

pub slice_bounds-looks_fixed-start : goal.slice_bounds-looks_fixed-start
slice_bounds-looks_fixed-start c =
    omega (arith, part-head-inside c.requires.0 c.args.part c.loop-j.j c.requires.2 (omega arith) c.block_head-head.ensures)

pub looks_fixed-requires : goal.looks_fixed-requires
looks_fixed-requires c =
    let b = c.block_head-head in
    rw (part_length b.result c.args.word.now)
    (omega (arith, part-head-inside c.requires.0 c.args.part c.loop-j.j c.requires.2 (omega arith) b.ensures))

pub with_next-shown-requires : goal.with_next-shown-requires
with_next-shown-requires c =
    let t = c.loop-j in
    omega (arith, candidates-few t.shown t.j (Open c.args.layout c.args.word.now c.args.part) t.invariant.1, bound c.args.layout c.requires.0.layout)

pub loop-j-preserved : goal.loop-j-preserved
loop-j-preserved c =
    let t = c.loop-j in
    let k = c.args.part * c.args.layout.m + t.j in
    let w = Open c.args.layout c.args.word.now c.args.part in
    let e : w t.j ≡ not c.looks_fixed.result =
    ap not (stretch-looks c.requires.0 k c.block_head-head.ensures c.looks_fixed.ensures) in
    elim c.if-not-looks_fixed.branch [
      | then-not-looks_fixed u ↦ (omega arith, u.shown-is ∙ u.with_next-shown.ensures (members t.j 0 w) t.invariant.1 ∙ candidates-in t.j w (e ∙ ap not u.if-not-looks_fixed.true))
      | else-not-looks_fixed u ↦ (omega arith, u.shown-is ∙ candidates-out t.shown t.j w t.invariant.1 (e ∙ ap not u.if-not-looks_fixed.false))
    ]

pub returns : goal.returns
unfolding open_blocks
returns c =
    let t = c.loop-j in
    let e : t.j ≡ c.args.layout.m = omega arith in
    t.invariant.1 ∙ ap (λ (y : ℕ). candidates_of (members y 0 (Open c.args.layout c.args.word.now c.args.part))) e
