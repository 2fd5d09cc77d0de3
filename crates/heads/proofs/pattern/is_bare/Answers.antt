-- `is_bare` meets its contract: no block of the part before j looks fixed. Assumes nothing.
use mathlib.Core.Path.{◌≡◌, sym, ap, ◌∙◌}
use mathlib.Core.Bool.{Bool, not}
use mathlib.Core.List.{List}
use Prim.Native.Nat.{ℕ, ◌+◌, ◌*◌}
use native.Mathlib.Omega.{arith}
use Rattle.combinatorics.proofs.StretchLoops.{has_here, has_on, has-over}
use Rattle.construction_a.specs.Writing.{row}
use Rattle.construction_a.specs.Reading.{looks_fixed}
use Rattle.params.specs.declared.Layout.{Layout}
use Rattle.params.specs.Given.{figures_of}
use Rattle.heads.proofs.Looking.{part_length, part-head-inside, stretch-looks}
use Rattle.heads.proofs.pattern.is_bare.Goals as goal
use Rattle.heads.proofs.pattern.is_bare.Goals.{After-looks_fixed}

-- the part's blocks that look fixed
abbrev Fixed : Layout → List ℕ → ℕ → ℕ → Bool
Fixed l w part = row l.m (looks_fixed (figures_of l) w) part

pub slice_bounds-looks_fixed-count : goal.slice_bounds-looks_fixed-count
slice_bounds-looks_fixed-count c =
    omega (arith, part-head-inside c.requires.0 c.args.part c.loop-j.j c.requires.2 (omega arith) c.block_head-head.ensures)

pub slice_bounds-looks_fixed-start : goal.slice_bounds-looks_fixed-start
slice_bounds-looks_fixed-start c =
    omega (arith, part-head-inside c.requires.0 c.args.part c.loop-j.j c.requires.2 (omega arith) c.block_head-head.ensures)

pub looks_fixed-requires : goal.looks_fixed-requires
looks_fixed-requires c =
    let b = c.block_head-head in
    rw (part_length b.result c.args.word.now)
    (omega (arith, part-head-inside c.requires.0 c.args.part c.loop-j.j c.requires.2 (omega arith) b.ensures))

-- block j looks as the test of its stretch says
seen : (c : After-looks_fixed) → Fixed c.args.layout c.args.word.now c.args.part c.loop-j.j
    ≡ c.looks_fixed.result
seen c =
    let k = c.args.part * c.args.layout.m + c.loop-j.j in
    stretch-looks c.requires.0 k c.block_head-head.ensures c.looks_fixed.ensures

pub returns-then-looks_fixed : goal.returns-then-looks_fixed
returns-then-looks_fixed c =
    let t = c.loop-j in
    ap not (sym (has_here c.args.layout.m t.j (Fixed c.args.layout c.args.word.now c.args.part) (omega arith) (seen (goal.at.returns-then-looks_fixed c).After-looks_fixed ∙ c.if-looks_fixed.true)) ∙ t.invariant)

pub loop-j-preserved : goal.loop-j-preserved
loop-j-preserved c =
    let t = c.loop-j in
    (sym (has_on c.args.layout.m t.j (Fixed c.args.layout c.args.word.now c.args.part) (omega arith) (seen (goal.at.loop-j-preserved c).After-looks_fixed ∙ c.if-looks_fixed.false)) ∙ t.invariant)

pub returns : goal.returns
returns c =
    let t = c.loop-j in
    ap not (sym (has-over c.args.layout.m t.j (Fixed c.args.layout c.args.word.now c.args.part) (omega arith)) ∙ t.invariant)
