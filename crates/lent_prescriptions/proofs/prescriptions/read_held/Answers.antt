-- `read_held` meets its contract: the refusals before 3 where a buffer has no room, or what prescription read answers. Assumes nothing.
use mathlib.Core.Path.{ap, ap₂, ◌∙◌}
use mathlib.Core.List.{List}
use Prim.Native.Nat.{ℕ}
use lib.Ieee.{Float}
use Rattle.std.proofs.lemmas.Result.{err_from_is_err_and}
use Rattle.refusals.specs.Refusals.{served}
use Rattle.codes.specs.Bridge.{coding_of}
use Rattle.jobs.specs.Slots.{entries}
use Rattle.lent_prescriptions.specs.Eyes.{powers_lent}
use Rattle.lent_prescriptions.proofs.PrescriptionLaws.{no-marks, no-powers, have-room, read-without-room, read-with-room}
use Rattle.lent_prescriptions.proofs.prescriptions.read_held.Goals as goal

pub returns-then-marks-ne-MARKS_LEN : goal.returns-then-marks-ne-MARKS_LEN
returns-then-marks-ne-MARKS_LEN c =
    let a = c.args in
    ap (powers_lent a.marks.now a.powers.now) c.without_room.ensures
    ∙ read-without-room a.marks.now a.powers.now (coding_of a.figures) (entries a.table) a.word.now
    (no-marks a.marks.now a.powers.now c.if-marks-ne-MARKS_LEN.true)

pub returns-then-powers-ne-POWERS_LEN : goal.returns-then-powers-ne-POWERS_LEN
returns-then-powers-ne-POWERS_LEN c =
    let a = c.args in
    ap (powers_lent a.marks.now a.powers.now) c.without_room-then-powers-ne-POWERS_LEN.ensures
    ∙ read-without-room a.marks.now a.powers.now (coding_of a.figures) (entries a.table) a.word.now
    (no-powers a.marks.now a.powers.now c.if-powers-ne-POWERS_LEN.true)

pub returns-in_err-number : goal.returns-in_err-number
returns-in_err-number c =
    let a = c.args in
    let p = err_from_is_err_and c.from_residual.result c.from_residual.ensures.1 in
    rw (p.1, p.2)
    (read-with-room a.marks.now a.powers.now (coding_of a.figures) (entries a.table) a.word.now
    (have-room a.marks.now a.powers.now c.if-marks-ne-MARKS_LEN.false c.if-powers-ne-POWERS_LEN.false)
    c.in_err-number.ensures)

pub returns : goal.returns
returns c =
    let a = c.args in
    ap₂ (λ (ms : List ℕ) (ps : List Float). powers_lent ms ps served) c.put_marks.ensures c.put_powers.ensures
    ∙ read-with-room a.marks.now a.powers.now (coding_of a.figures) (entries a.table) a.word.now
    (have-room a.marks.now a.powers.now c.if-marks-ne-MARKS_LEN.false c.if-powers-ne-POWERS_LEN.false)
    c.in_ok-number.ensures
