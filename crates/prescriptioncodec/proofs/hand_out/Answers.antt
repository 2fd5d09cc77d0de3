-- `hand_out` meets its contract: 16 before the table is asked. Assumes nothing.
use mathlib.Core.Path.{◌≡◌, sym, ap, ◌∙◌}
use Prim.Native.Nat.{ℕ}
use borrow.Author.Rules.{rules}
use lib.ListN.{drop}
use Rattle.refusals.specs.Numbers.{number_of}
use Rattle.refusals.proofs.Numbers.{never-served}
use Rattle.cells.proofs.Walk.{rest-is}
use Rattle.jobs.specs.Jobs.{needs_open}
use Rattle.jobs.specs.Slots.{entries}
use Rattle.jobs.specs.Table.{standing, lookup}
use Rattle.prescription.specs.Outcomes.{answered, read_text_out}
use Rattle.prescriptioncodec.specs.PrescriptionWrite.{number_len}
use Rattle.prescriptioncodec.specs.PrescriptionRead.{of_payload}
use Rattle.prescriptioncodec.proofs.Reading.{no-prescription, not-open, handed}
use Rattle.prescriptioncodec.proofs.hand_out.Goals as goal
use Rattle.prescriptioncodec.proofs.hand_out.Goals.{In_ok-prescription}

found : (c : In_ok-prescription) → answered c.in_ok-prescription.prescription ≡ read_text_out (drop number_len c.unspell.new.payload)
found c = c.in_ok-prescription.ensures ∙ ap read_text_out (rest-is number_len c.unspell.new.payload)

pub returns-in_err-prescription : goal.returns-in_err-prescription
returns-in_err-prescription c =
    let es = entries c.args.table in
    let payload = c.unspell.new.payload in
    let kept = (no-prescription es payload (number_of c.in_err-prescription.field-0.0)
    (c.in_err-prescription.ensures ∙ ap read_text_out (rest-is number_len payload))).1 ∙ ap (of_payload es) c.unspell.ensures in
    search (rules, kept)

pub returns-in_err-needs_open : goal.returns-in_err-needs_open
returns-in_err-needs_open c =
    let es = entries c.args.table in
    let r = c.in_err-needs_open.field-0.0 in
    let kept = not-open es c.unspell.new.payload c.in_ok-prescription.prescription (found (goal.at.returns-in_err-needs_open c).In_ok-prescription)
    (number_of r)
    (c.in_err-needs_open.ensures ∙ ap (λ (n : ℕ). needs_open (standing (lookup es n))) c.job_number-number.ensures) (never-served r)
    ∙ ap (of_payload es) c.unspell.ensures in
    search (rules, kept)

pub returns : goal.returns
returns c =
    let es = entries c.args.table in
    let number = c.job_number-number in
    ap (λ (n : ℕ). answered (record { number = n; prescription = c.in_ok-prescription.prescription })) number.ensures
    ∙ handed es c.unspell.new.payload c.in_ok-prescription.prescription (found (goal.at.returns c).In_ok-prescription)
    (ap (λ (n : ℕ). needs_open (standing (lookup es n))) (sym number.ensures) ∙ sym c.in_ok-needs_open.ensures)
    ∙ ap (of_payload es) c.unspell.ensures
