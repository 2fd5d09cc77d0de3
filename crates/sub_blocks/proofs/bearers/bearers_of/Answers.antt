-- `bearers_of` meets its contract: the first i sub-blocks have their kinds, and so many of them are untouched. Assumes nothing.
use mathlib.Core.Path.{◌≡◌, refl, sym, ap, ◌∙◌}
use mathlib.Core.Bool.{Bool, cond}
use Prim.Native.Nat.{ℕ, ◌+◌, ◌<◌}
use native.Mathlib.Omega.{arith}
use lib.ListN.{get_or, set, length-set}
use Rattle.combinatorics.specs.Stretch.{bit, sum}
use Rattle.combinatorics.proofs.StretchLoops.{count-on}
use Rattle.combinatorics.proofs.Members.{filled_on}
use Rattle.combinatorics.proofs.Stretch.{count-le}
use Rattle.cells.proofs.Figures.{Ranged}
use Rattle.larsson.specs.Writing.{untouched, bears}
use Rattle.placements.specs.Bridge.{starts_in}
use Rattle.blocks.specs.Numbers.{kind_number, kind_numbers}
use Rattle.blocks.proofs.Numbers.{length-kinds, kinds-set}
use Rattle.blocks.specs.Blocks.{burst_kind, index_kind}
use Rattle.larsson_params.specs.Given.{larsson_figures_of}
use Rattle.larsson_params.proofs.Shape.{bound}
use Rattle.sub_blocks.proofs.Bearing.{bears-now}
use Rattle.sub_blocks.proofs.bearers.bearers_of.Goals as goal
use Rattle.sub_blocks.proofs.bearers.bearers_of.Goals.{After-kind_of, Start, else-untouched, then-untouched}

limits : (s : Start) → Ranged (larsson_figures_of s.args.layout)
limits s = bound s.args.layout s.requires.0.layout

-- the untouched sub-blocks
abbrev Free : Start → ℕ → Bool
Free s = untouched (larsson_figures_of s.args.layout) (starts_in s.args.at)

pub loop-i-init : goal.loop-i-init
unfolding sum
loop-i-init c = (omega arith, refl, λ x h. absurd (omega arith))

pub bounds-kinds-i : goal.bounds-kinds-i
bounds-kinds-i c = omega (arith, limits (goal.at.bounds-kinds-i c).Start, c.loop-i-test.true)

pub overflow_add-met : goal.overflow_add-met
overflow_add-met c =
    omega (arith, limits (goal.at.overflow_add-met c).Start, c.loop-i.invariant.1, count-le c.loop-i.i 0 (Free (goal.at.overflow_add-met c).Start))

-- the kinds with that of sub-block i
kinds-on : (c : After-kind_of) → ((x : ℕ) → x < c.loop-i.i + 1 → get_or (kind_numbers (set c.loop-i.kinds c.loop-i.i c.kind_of.result)) x 0
    ≡ cond (bears (larsson_figures_of c.args.layout) (starts_in c.args.at) x) index_kind burst_kind)
kinds-on c =
    let f = larsson_figures_of c.args.layout in
    let ss = starts_in c.args.at in
    rw (kinds-set c.loop-i.kinds c.loop-i.i c.kind_of.result)
    (filled_on (λ x v. v ≡ cond (bears f ss x) index_kind burst_kind) (kind_numbers c.loop-i.kinds) c.loop-i.i (kind_number c.kind_of.result)
    (omega (arith, limits (goal.at.After-kind_of c).Start, c.loop-i.invariant.0, length-kinds c.loop-i.kinds, c.loop-i-test.true)) c.loop-i.invariant.2
    (c.kind_of.ensures ∙ bears-now f ss c.loop-i.i c.loop-i.met c.is_untouched-untouched.result c.is_untouched-untouched.ensures c.loop-i.invariant.1))

pub loop-i-preserved : goal.loop-i-preserved
loop-i-preserved c =
    let e = c.is_untouched-untouched.ensures in
    let n = c.loop-i.invariant.0 in
    let on = count-on c.loop-i.i (Free (goal.at.loop-i-preserved c).Start) in
    elim c.if-untouched.branch [
      | then-untouched u ↦ (
        simp length-set n,
        rw u.met-is
            (omega (arith, c.loop-i.invariant.1, on, ap bit (sym e ∙ u.if-untouched.true))),
        kinds-on (goal.at.loop-i-preserved c).After-kind_of,
      )
      | else-untouched u ↦ (
        simp length-set n,
        rw u.met-is
            (omega (arith, c.loop-i.invariant.1, on, ap bit (sym e ∙ u.if-untouched.false))),
        kinds-on (goal.at.loop-i-preserved c).After-kind_of,
      )
    ]
