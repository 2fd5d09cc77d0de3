-- `read_message` meets its contract: a refused word's refusal is passed up, and an accepted word's message goes on. Assumes nothing.
use mathlib.Core.Path.{◌≡◌, sym}
use borrow.Author.Rules.{rules}
use lib.ListN.{length}
use Rattle.codes.specs.Given.{coding_in}
use Rattle.jobs.specs.Slots.{entries}
use Rattle.jobcodec.proofs.Outcomes.{holding}
use Rattle.prescriptioncodec.proofs.Reading.{read-spelled}
use Rattle.prescriptioncodec.proofs.read_message.Goals as goal

pub returns-in_err-read_spelled : goal.returns-in_err-read_spelled
returns-in_err-read_spelled c =
    let d = c.read_spelled in
    let spelled = sym (read-spelled c.args.layout c.requires.serves (entries c.args.table) c.args.word.now c.args.message.now d.new.message
    c.requires.ready c.requires.room
    d.result _ c.in_err-read_spelled.was d.ensures.answer d.ensures.message) in
    search (rules, spelled)

pub hand_out-requires : goal.hand_out-requires
hand_out-requires c =
    let d = c.read_spelled in
    holding c.requires c.args.word.now d.new.message (search rules) d.ensures.message c.in_ok-read_spelled.field-0 c.in_ok-read_spelled.ensures.answer

pub returns : goal.returns
returns c =
    let d = c.read_spelled in
    let same : length d.new.message ≡ (coding_in c.args.layout).codec.message_len_of = search (rules, c.requires.room) in
    let spelled = read-spelled c.args.layout c.requires.serves (entries c.args.table) c.args.word.now c.args.message.now
    d.new.message c.requires.ready c.requires.room d.result _ c.in_ok-read_spelled.was d.ensures.answer d.ensures.message in
    rw (spelled, ← same) c.hand_out.ensures
