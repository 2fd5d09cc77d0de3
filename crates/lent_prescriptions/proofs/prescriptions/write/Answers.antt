-- `write` meets its contract: what a job is refused with for its table, or what prescription write answers. Assumes nothing.
use mathlib.Core.Path.{ap₂, ◌∙◌}
use mathlib.Core.List.{List}
use Rattle.std.proofs.lemmas.Result.{err_from_is_err_and}
use Rattle.cells.specs.Outcomes.{Held}
use Rattle.codes.specs.Bridge.{coding_of}
use Rattle.placements.specs.Bridge.{held_as}
use Rattle.jobs.specs.declared.Entry.{Entry}
use Rattle.jobs.specs.Slots.{entries}
use Rattle.prescriptioncodec.specs.PrescriptionWrite.{prescription_write_under}
use Rattle.lent_prescriptions.proofs.PrescriptionLaws.{write-refused, write-whole}
use Rattle.lent.proofs.WordLaws.{all_told}
use Rattle.lent_prescriptions.proofs.prescriptions.write.Goals as goal

pub returns-in_err-held : goal.returns-in_err-held
returns-in_err-held c =
    let a = c.args in
    let p = err_from_is_err_and c.from_residual.result c.from_residual.ensures.1 in
    rw (p.1, p.2) (write-refused a.figures a.table.now a.starts.now a.number a.prescription a.word.now _ c.in_err-held.ensures)

pub returns : goal.returns
returns c =
    let a = c.args in
    let call = c.prescription_write in
    let lent = c.in_ok-held.ensures in
    all_told (prescription_write_under (coding_of a.figures) (entries c.in_ok-held.held)
    (held_as c.placement_under-at.result) a.number a.prescription a.word.now) call.ensures.word
    call.ensures.answer
    ∙ ap₂ (λ (es : List Entry) (h : Held). prescription_write_under (coding_of a.figures) es h a.number a.prescription a.word.now)
    lent.2 c.placement_under-at.ensures
    ∙ write-whole a.figures a.table.now a.starts.now a.number a.prescription a.word.now lent.0 lent.1
