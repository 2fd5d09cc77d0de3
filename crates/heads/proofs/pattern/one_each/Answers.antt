-- `one_each` meets its contract: the first i parts have shown their blocks. Assumes nothing.
use mathlib.Core.Path.{◌≡◌, sym, ap, ◌∙◌}
use mathlib.Core.Bool.{Bool, not}
use mathlib.Core.Option.{some}
use Prim.Native.Nat.{ℕ, ◌+◌, ◌*◌, ◌≤◌, ◌<◌}
use native.Mathlib.Omega.{arith}
use lib.ListN.{get_or, length-set}
use Rattle.combinatorics.proofs.Members.{take-is, filled_on}
use Rattle.construction_a.specs.Writing.{row}
use Rattle.construction_a.specs.Reading.{looks_fixed, open_blocks, index_in_part}
use Rattle.construction_a.proofs.Pattern.{collect-tabulate}
use Rattle.params.proofs.Shape.{bound}
use Rattle.params.specs.Given.{figures_of, max_blocks}
use Rattle.heads.proofs.Listed.{candidates-below, in-part, in-part-none, collect-none}
use Rattle.heads.proofs.Looking.{part-fits}
use Rattle.heads.proofs.pattern.one_each.Goals as goal
use Rattle.heads.proofs.pattern.one_each.Goals.{Start}

abbrev Looks : Start → ℕ → Bool
Looks s = looks_fixed (figures_of s.args.layout) s.args.word.now

fits : (s : Start) (i : ℕ) → i < s.args.layout.parts → i * s.args.layout.m + s.args.layout.m ≤ max_blocks
fits s = part-fits s.args.layout s.requires.0.layout

pub later-requires : goal.later-requires
unfolding open_blocks
later-requires c =
    let m = c.args.layout.m in
    candidates-below c.open_blocks.result m (λ j. not (row m (Looks (goal.at.later-requires c).Start) c.loop-i.i j)) c.open_blocks.ensures
    (bound c.args.layout c.requires.0.layout).m-least

pub returns-in-None : goal.returns-in-None
returns-in-None c =
    let i = c.loop-i.i in
    let l = c.args.layout in
    sym (collect-none l.parts 0 i (index_in_part l.m (Looks (goal.at.returns-in-None c).Start)) (omega arith) (omega arith)
    (in-part-none l.m i (Looks (goal.at.returns-in-None c).Start) (c.in-None.ensures.later (open_blocks l.m (Looks (goal.at.returns-in-None c).Start) i) c.open_blocks.ensures)))

pub overflow_cast-blocks : goal.overflow_cast-blocks
overflow_cast-blocks c =
    omega (arith, fits (goal.at.overflow_cast-blocks c).Start c.loop-i.i (omega arith), c.in-Some.ensures.below)

pub bounds-blocks-i : goal.bounds-blocks-i
bounds-blocks-i c =
    omega (arith, bound c.args.layout c.requires.0.layout)

pub loop-i-preserved : goal.loop-i-preserved
loop-i-preserved c =
    let t = c.loop-i in
    let l = c.args.layout in
    let j = c.in-Some.j in (
      simp length-set t.invariant.0,
      filled_on (λ x v. index_in_part l.m (Looks (goal.at.loop-i-preserved c).Start) x ≡ some v) t.blocks t.i (t.i * l.m + j)
          (omega (arith, bound l c.requires.0.layout)) t.invariant.1
          (in-part l.m t.i (Looks (goal.at.loop-i-preserved c).Start) j (c.in-Some.ensures.later (open_blocks l.m (Looks (goal.at.loop-i-preserved c).Start) t.i) c.open_blocks.ensures)),
    )

pub returns : goal.returns
returns c =
    let t = c.loop-i in
    let l = c.args.layout in
    let f : ℕ → ℕ = λ x. get_or t.blocks x 0 in
    ap some (take-is l.parts 0 t.blocks f (omega (arith, bound l c.requires.0.layout)) (λ x _. ap f (let z : x ≡ 0 + x = omega arith in z)))
    ∙ sym (collect-tabulate l.parts 0 (index_in_part l.m (Looks (goal.at.returns c).Start)) f (λ x _ g. t.invariant.1 x (omega arith)))
