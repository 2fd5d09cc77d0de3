-- `put_transposed` meets its contract: 3, or what the eye's answers. Assumes nothing.
use mathlib.Core.Path.{◌∙◌}
use borrow.Author.Rules.{rules}
use Rattle.lent_prescriptions.proofs.EyeLaws.{transpose-marks, transpose-powers, transpose-lent, eye-put}
use Rattle.lent_prescriptions.proofs.eyes.put_transposed.Goals as goal
use Rattle.lent_prescriptions.proofs.eyes.put_transposed.Goals.{then-marks-ne-EYE_LEN-via-then-marks-ne-EYE_LEN, then-marks-ne-EYE_LEN-via-else-marks-ne-EYE_LEN+then-powers-ne-EYE_LEN}

pub returns-then-marks-ne-EYE_LEN : goal.returns-then-marks-ne-EYE_LEN
returns-then-marks-ne-EYE_LEN c =
    let a = c.args in
    elim c.then-marks-ne-EYE_LEN.branch [
      | then-marks-ne-EYE_LEN-via-then-marks-ne-EYE_LEN w ↦ transpose-marks a.eye a.marks.now a.powers.now w.if-marks-ne-EYE_LEN.true
      | then-marks-ne-EYE_LEN-via-else-marks-ne-EYE_LEN+then-powers-ne-EYE_LEN w ↦ transpose-powers a.eye a.marks.now a.powers.now w.if-marks-ne-EYE_LEN.false
          w.if-powers-ne-EYE_LEN.true
    ]

pub returns-in_err-transposed : goal.returns-in_err-transposed
returns-in_err-transposed c =
    let a = c.args in
    let told = transpose-lent a.eye a.marks.now a.powers.now c.if-marks-ne-EYE_LEN.false c.if-powers-ne-EYE_LEN.false c.in_err-transposed.ensures.answer in
    search (rules, told)

pub returns : goal.returns
returns c =
    let a = c.args in
    let marks = c.if-marks-ne-EYE_LEN.false in
    let powers = c.if-powers-ne-EYE_LEN.false in
    eye-put a.eye a.marks.now a.powers.now marks powers c.in_ok-transposed.transposed c.kind_of.ensures c.axis_of.ensures c.sphere_of.ensures
    c.cylinder_of.ensures
    ∙ transpose-lent a.eye a.marks.now a.powers.now marks powers c.in_ok-transposed.ensures.answer
