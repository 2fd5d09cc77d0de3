-- `figures` meets its contract: the refusals in their order, then the layout. Assumes nothing.
use mathlib.Core.Path.{◌≡◌, sym, ◌∙◌}
use mathlib.Core.Bool.{true}
use native.Mathlib.Omega.{arith}
use Rattle.cells.specs.Figures.{Params, params, in_range}
use Rattle.larsson_params.proofs.Laying.{misfit}
use Rattle.larsson_params.proofs.figures.Goals as goal
use Rattle.larsson_params.proofs.figures.Goals.{Else-not-in_range, Start}

abbrev figures : Start → Params
figures s = params s.args.n s.args.q s.args.m s.args.b

in-range : (s : Else-not-in_range) → in_range (figures s.before.before) ≡ true
in-range s = sym s.in_range.ensures ∙ s.if-not-in_range.false

pub returns-then-n-m-clause-answer : goal.returns-then-n-m-clause-answer
returns-then-n-m-clause-answer c =
    let f = figures (goal.at.returns-then-n-m-clause-answer c).Start in
    sym (misfit f (in-range (goal.at.returns-then-n-m-clause-answer c).Else-not-in_range) (λ ok. omega (arith, ok.total, c.if-n-m.true)))
