-- `put_equivalent` meets its contract: 3, or what the eye's answers. Assumes nothing.
use mathlib.Core.Path.{◌∙◌}
use borrow.Author.Rules.{rules}
use Rattle.lent_prescriptions.proofs.EyeLaws.{equivalent-length, equivalent-lent, power-put}
use Rattle.lent_prescriptions.proofs.eyes.put_equivalent.Goals as goal

pub returns-then-power-ne1 : goal.returns-then-power-ne1
returns-then-power-ne1 c =
    let a = c.args in
    equivalent-length a.eye a.power.now c.if-power-ne1.true

pub returns-in_err-power : goal.returns-in_err-power
returns-in_err-power c =
    let a = c.args in
    let told = equivalent-lent a.eye a.power.now c.if-power-ne1.false c.in_err-power.ensures in
    search (rules, told)

pub returns : goal.returns
returns c =
    let a = c.args in
    power-put a.eye a.power.now c.if-power-ne1.false c.in_ok-power.field-0
    ∙ equivalent-lent a.eye a.power.now c.if-power-ne1.false c.in_ok-power.ensures
