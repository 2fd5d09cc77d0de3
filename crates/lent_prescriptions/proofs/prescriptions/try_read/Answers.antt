-- `try_read` meets its contract: what a job is refused with for its table, or what the table that the bytes are gives. Assumes nothing.
use Rattle.std.proofs.lemmas.Result.{err_from_is_err_and}
use Rattle.codes.specs.Bridge.{coding_of}
use Rattle.lent_prescriptions.proofs.PrescriptionLaws.{read-refused, read_whole}
use Rattle.lent_prescriptions.proofs.prescriptions.try_read.Goals as goal

pub returns-in_err-held : goal.returns-in_err-held
returns-in_err-held c =
    let a = c.args in
    let p = err_from_is_err_and c.from_residual.result c.from_residual.ensures.1 in
    rw (p.1, p.2) (read-refused (coding_of a.figures) a.table.now a.word.now a.marks.now a.powers.now _ c.in_err-held.ensures)

pub returns : goal.returns
returns c =
    let a = c.args in
    let lent = c.in_ok-held.ensures in
    rw (lent.2, read_whole (coding_of a.figures) a.table.now a.word.now a.marks.now a.powers.now lent.0 lent.1) at c.read_held.ensures
