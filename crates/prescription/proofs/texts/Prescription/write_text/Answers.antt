-- `Prescription::write_text` meets its contract: every test comes before the first store. Assumes nothing.
use Rattle.std.proofs.Common.{sym, ap, ◌∙◌, rules}
use Rattle.prescription.specs.Counts.{stored_as, count_as}
use Rattle.prescription.proofs.Writing.{write-short, write-no-right, write-no-left, write-no-distance, write-told}
use Rattle.prescription.proofs.texts.Prescription.write_text.Goals as goal

pub returns-then-text-lt-STORED_LEN : goal.returns-then-text-lt-STORED_LEN
returns-then-text-lt-STORED_LEN c = write-short c.args.self c.args.text.now c.if-text-lt-STORED_LEN.true

pub returns-in_err-right : goal.returns-in_err-right
returns-in_err-right c =
    let a = c.args in
    let h = write-no-right a.self a.text.now (sym (ap stored_as c.in_err-right.ensures.ok_part) ∙ c.stored.ensures) in
    search (rules, h)

pub returns-in_err-left : goal.returns-in_err-left
returns-in_err-left c =
    let a = c.args in
    let h = write-no-left a.self a.text.now (sym (ap stored_as c.in_err-left.ensures.ok_part) ∙ c.stored-2.ensures) in
    search (rules, h)

pub returns-in_err-halves : goal.returns-in_err-halves
returns-in_err-halves c =
    let a = c.args in
    let h = write-no-distance a.self a.text.now (sym (ap count_as c.in_err-halves.ensures.ok_part) ∙ c.count_of.ensures) in
    search (rules, h)

pub returns : goal.returns
returns c =
    let a = c.args in
    c.write_stored.ensures
    ∙ write-told a.self a.text.now c.in_ok-right.right c.in_ok-left.left c.in_ok-halves.halves c.if-text-lt-STORED_LEN.false
    (sym (ap stored_as c.in_ok-right.ensures.ok_part) ∙ c.stored.ensures)
    (sym (ap stored_as c.in_ok-left.ensures.ok_part) ∙ c.stored-2.ensures)
    (sym (ap count_as c.in_ok-halves.ensures.ok_part) ∙ c.count_of.ensures)
