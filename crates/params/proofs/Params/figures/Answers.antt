-- `Params::figures` meets its contract: the refusals in their order, then the layout. Assumes nothing.
use mathlib.Core.Path.{◌≡◌, sym, ap, ◌∙◌}
use mathlib.Core.Bool.{true}
use native.Mathlib.Omega.{arith}
use Rattle.cells.specs.Figures.{Params, params, in_range}
use Rattle.construction_a.specs.Outcomes.{figures_number}
use Rattle.construction_a.proofs.Figures.{unfitting}
use Rattle.construction_a.proofs.Outcomes.{figures-invalid, figures-unfit}
use Rattle.params.proofs.Params.figures.Goals as goal
use Rattle.params.proofs.Params.figures.Goals.{Else-not-in_range, Start}

abbrev figures : Start → Params
figures s = params s.args.n s.args.q s.args.m s.args.b

in-range : (s : Else-not-in_range) → in_range (figures s.before.before) ≡ true
in-range s = sym s.in_range.ensures ∙ s.if-not-in_range.false

pub returns-then-n-m-clause-answer : goal.returns-then-n-m-clause-answer
returns-then-n-m-clause-answer c =
    let f = figures (goal.at.returns-then-n-m-clause-answer c).Start in
    let i = in-range (goal.at.returns-then-n-m-clause-answer c).Else-not-in_range in
    let e = figures-unfit f i (unfitting f i (λ ok. omega (arith, ok.total, c.if-n-m.true))) in
    sym e

pub returns-then-n-m-clause-number : goal.returns-then-n-m-clause-number
returns-then-n-m-clause-number c =
    let f = figures (goal.at.returns-then-n-m-clause-number c).Start in
    let i = in-range (goal.at.returns-then-n-m-clause-number c).Else-not-in_range in
    let e = figures-unfit f i (unfitting f i (λ ok. omega (arith, ok.total, c.if-n-m.true))) in
    sym (ap figures_number e)

pub returns-then-not-in_range-clause-answer : goal.returns-then-not-in_range-clause-answer
returns-then-not-in_range-clause-answer c =
    let e = figures-invalid (figures (goal.at.returns-then-not-in_range-clause-answer c).Start) (sym c.in_range.ensures ∙ c.if-not-in_range.true) in
    sym e

pub returns-then-not-in_range-clause-number : goal.returns-then-not-in_range-clause-number
returns-then-not-in_range-clause-number c =
    let e = figures-invalid (figures (goal.at.returns-then-not-in_range-clause-number c).Start) (sym c.in_range.ensures ∙ c.if-not-in_range.true) in
    sym (ap figures_number e)
