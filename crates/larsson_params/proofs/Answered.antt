-- What a caller learns of a layout that was answered. Assumes nothing.
use mathlib.Core.Path.{◌≡◌, sym, ap, subst, ◌∙◌}
use Rattle.cells.specs.Outcomes.{figures_under}
use Rattle.cells.proofs.Outcomes.{figured-fits}
use Rattle.cells.specs.Figures.{Params, in_range}
use Rattle.larsson.specs.Figures.{fits}
use Rattle.larsson.specs.Outcomes.{coding}
use Rattle.larsson_params.specs.declared.LarssonLayout.{LarssonLayout}
use Rattle.std.specs.Prelude.{Result, Ok}
use Rattle.refusals.specs.declared.Refusal.{Refusal}
use Rattle.larsson_params.specs.Answer.{larsson_figured_as, LarssonLaidOut, LarssonLaidIn}
use Rattle.larsson_params.specs.Given.{larsson_figures_of, LarssonLayoutFits}

-- a layout that was answered has the figures, and they fit
pub fit-learnt : (f : Params) (r : Result LarssonLayout Refusal) (l : LarssonLayout) → r ≡ Ok l → larsson_figured_as r ≡ figures_under (coding f) → LarssonLaidIn f r
    → (larsson_figures_of l ≡ f) × LarssonLayoutFits l
fit-learnt f r l e answer told =
    let laid : LarssonLaidOut f l = subst (LarssonLaidIn f) e told in
    let same : larsson_figures_of l ≡ f = rw (laid.n-is, laid.q-is, laid.m-is, laid.b-is) in
    let fit = figured-fits (coding f) l.placement_count l.sub_len l.message_len (sym answer ∙ ap larsson_figured_as e) in
    (same, record { range = ap in_range same ∙ fit.0; fit = ap fits same ∙ fit.1; laid = subst (λ (g : Params). LarssonLaidOut g l) (sym same) laid })
