-- `write_payload` meets its contract: 16, or the job writing of number and text. Assumes nothing.
use mathlib.Core.Path.{refl}
use borrow.Author.Rules.{rules}
use lib.ListN.{length}
use Rattle.refusals.specs.Numbers.{number_of}
use Rattle.refusals.specs.Refusals.{served}
use Rattle.refusals.proofs.Numbers.{never-served}
use Rattle.codes.specs.Given.{coding_in}
use Rattle.placements.specs.Bridge.{held_as}
use Rattle.jobs.specs.Slots.{entries}
use Rattle.prescriptioncodec.proofs.Payload.{text-refused, text-goes-on, number-spelt}
use Rattle.prescriptioncodec.proofs.write_payload.Goals as goal

pub returns-in_err-write_text : goal.returns-in_err-write_text
returns-in_err-write_text c =
    let r = c.in_err-write_text.field-0.0 in
    let kept = text-refused c.args.prescription c.args.payload.now c.write_text.new.text (number_of r) c.requires.1 c.in_err-write_text.ensures
    (coding_in c.args.layout)
    (entries c.args.table) (held_as c.args.at) c.args.number (length c.args.payload.now) c.args.word.now (never-served r) in
    search (rules, kept)

pub returns : goal.returns
returns c =
    let text = c.write_text.new.text in
    let spelt = c.spell_value in
    let y = c.args.payload.now in
    let front = spelt.new.symbols in
    let on = text-goes-on c.args.prescription y text served c.requires.1 c.in_ok-write_text.ensures (coding_in c.args.layout)
    (entries c.args.table) (held_as c.args.at) c.args.number (length c.args.payload.now) c.args.word.now
    refl front
    (number-spelt y text c.args.number c.requires.1 front spelt.ensures) refl in
    rw on at c.write_laid.ensures
