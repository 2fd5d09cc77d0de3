-- `votes` meets its contract: so many of the first j sub-blocks have the symbols. Assumes nothing.
use mathlib.Core.Path.{refl}
use mathlib.Core.Bool.{Bool}
use Prim.Native.Nat.{ℕ}
use native.Mathlib.Omega.{arith}
use Rattle.combinatorics.specs.Lists.{same_list}
use Rattle.combinatorics.specs.Stretch.{sum}
use Rattle.combinatorics.proofs.StretchLoops.{count-on}
use Rattle.combinatorics.proofs.Stretch.{count-le}
use Rattle.cells.proofs.Figures.{Ranged}
use Rattle.larsson.specs.Reading.{sub_symbols}
use Rattle.larsson_params.specs.Given.{larsson_figures_of}
use Rattle.larsson_params.proofs.Shape.{bound}
use Rattle.sub_blocks.proofs.majority.votes.Goals as goal
use Rattle.sub_blocks.proofs.majority.votes.Goals.{Start, else-same_symbols, then-same_symbols}

limits : (s : Start) → Ranged (larsson_figures_of s.args.layout)
limits s = bound s.args.layout s.requires.0.layout

-- the sub-blocks with the symbols
abbrev Alike : Start → ℕ → Bool
Alike s = λ x. same_list (sub_symbols (larsson_figures_of s.args.layout) s.args.word.now x)
    (sub_symbols (larsson_figures_of s.args.layout) s.args.word.now s.args.i)

pub overflow_mul-blocks : goal.overflow_mul-blocks
overflow_mul-blocks c = omega (arith, limits (goal.at.overflow_mul-blocks c).Start)

pub overflow_add-blocks : goal.overflow_add-blocks
overflow_add-blocks c = omega (arith, limits (goal.at.overflow_add-blocks c).Start)

pub loop-j-init : goal.loop-j-init
unfolding sum
loop-j-init c = refl

pub overflow_add-met : goal.overflow_add-met
overflow_add-met c =
    omega (arith, limits (goal.at.overflow_add-met c).Start, c.loop-j.invariant, count-le c.loop-j.j 0 (Alike (goal.at.overflow_add-met c).Start))

pub loop-j-preserved : goal.loop-j-preserved
loop-j-preserved c =
    let e = c.same_symbols.ensures in
    let on = rw (← e) at (count-on c.loop-j.j (Alike (goal.at.loop-j-preserved c).Start)) in
    elim c.if-same_symbols.branch [
      | then-same_symbols u ↦ rw u.met-is (omega (arith, c.loop-j.invariant, rw u.if-same_symbols.true at on))
      | else-same_symbols u ↦ rw u.met-is (omega (arith, c.loop-j.invariant, rw u.if-same_symbols.false at on))
    ]
