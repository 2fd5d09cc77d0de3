-- `both_fit` meets its contract: what either code's figures are refused with. Assumes nothing.
use mathlib.Core.Path.{sym, ap, ◌∙◌}
use Rattle.refusals.specs.Numbers.{number_of}
use Rattle.codes.specs.Bridge.{coding_of}
use Rattle.moving.specs.Both.{first_refusal}
use Rattle.moving.proofs.FitBoth.{from-refuses}
use Rattle.moving.proofs.both.both_fit.Goals as goal

pub returns-in-Err : goal.returns-in-Err
returns-in-Err c refuse rest =
    let a = c.args in
    let r = c.in-Err.refusal in
    from-refuses (coding_of a.from) (coding_of a.to) a.strip a.moved (number_of r) refuse rest (sym c.in-Err.ensures.answer)
    ∙ ap refuse (ap (first_refusal (number_of r)) (sym c.layout-other.ensures.answer) ∙ sym c.first_refusal.ensures)
