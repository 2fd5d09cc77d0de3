-- `Figures::layout` meets its contract: each code's own figures answer for it. Assumes nothing.
use mathlib.Core.Path.{◌≡◌, sym, ap, subst, ◌∙◌}
use Rattle.std.specs.Prelude.{Ok}
use Rattle.std.proofs.lemmas.Result.{err_from_is_err_and}
use Rattle.cells.specs.Outcomes.{figures_under}
use Rattle.construction_a.specs.Outcomes.{figures_out}
use Rattle.params.specs.Bridge.{given}
use Rattle.codes.specs.declared.Figures.{Figures}
use Rattle.codes.specs.declared.WordLayout.{WordLayout}
use Rattle.codes.specs.Bridge.{coding_of}
use Rattle.codes.proofs.Answered.{Answers, by_ranked}
use Rattle.codes.proofs.Figures.layout.Goals as goal
use Rattle.codes.proofs.Figures.layout.Goals.{After-from}

pub returns-in_err-figures-in-Ranked-clause-answer : goal.returns-in_err-figures-in-Ranked-clause-answer
unfolding figures_out
returns-in_err-figures-in-Ranked-clause-answer c =
    let p = err_from_is_err_and c.from_residual.result c.from_residual.ensures.1 in
    rw (p.1, p.2) (c.in_err-figures-in-Ranked.ensures.answer ∙ ap (λ (f : Figures). figures_under (coding_of f)) (sym c.in-Ranked.is))

-- what was answered, of the figures that were taken apart
told : (f g : Figures) (r s : WordLayout) → f ≡ g → r ≡ s → Answers (coding_of g) (Ok s) → Answers (coding_of f) (Ok r)
told f g r s e answer h =
    subst (λ (x : WordLayout). Answers (coding_of f) (Ok x)) (sym answer) (subst (λ (x : Figures). Answers (coding_of x) (Ok s)) (sym e) h)

ranked : (c : After-from) → Answers (coding_of c.args.self) (Ok c.from.result)
unfolding figures_out
ranked c =
    let own = c.in_ok-figures-in-Ranked in
    told _ _ _ _ c.in-Ranked.is c.from.ensures (by_ranked (given c.in-Ranked.p) own.field-0 own.ensures.answer own.ensures.layout)

pub returns-in_ok-figures-in-Ranked-clause-answer : goal.returns-in_ok-figures-in-Ranked-clause-answer
returns-in_ok-figures-in-Ranked-clause-answer c = (ranked (goal.at.returns-in_ok-figures-in-Ranked-clause-answer c).After-from).0

pub returns-in_ok-figures-in-Ranked-clause-layout : goal.returns-in_ok-figures-in-Ranked-clause-layout
returns-in_ok-figures-in-Ranked-clause-layout c = (ranked (goal.at.returns-in_ok-figures-in-Ranked-clause-layout c).After-from).1
