-- `Prescription::read_text` meets its contract. Assumes nothing.
use Rattle.std.proofs.Common.{sym, ◌∙◌}
use Rattle.prescription.proofs.Reading.{zeros-behind, text-short, text-behind, text-read}
use Rattle.prescription.proofs.texts.Prescription.read_text.Goals as goal

pub returns-then-text-lt-STORED_LEN : goal.returns-then-text-lt-STORED_LEN
returns-then-text-lt-STORED_LEN c = text-short c.args.text.now c.if-text-lt-STORED_LEN.true

pub returns-then-not-all_below : goal.returns-then-not-all_below
returns-then-not-all_below c =
    let t = c.args.text.now in
    text-behind t (sym (zeros-behind t c.all_below.result c.all_below.ensures) ∙ c.if-not-all_below.true)

pub returns : goal.returns
returns c =
    let t = c.args.text.now in
    c.read_stored.ensures ∙ text-read t c.if-text-lt-STORED_LEN.false
    (sym (zeros-behind t c.all_below.result c.all_below.ensures) ∙ c.if-not-all_below.false)
