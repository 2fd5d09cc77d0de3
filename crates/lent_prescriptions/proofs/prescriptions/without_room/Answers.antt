-- `without_room` meets its contract: 1 for a table with a number twice, or what is refused without a table. Assumes nothing.
use mathlib.Core.Path.{sym, ◌∙◌}
use Rattle.codes.specs.Bridge.{coding_of}
use Rattle.jobs.specs.Slots.{entries}
use Rattle.lent_prescriptions.proofs.PrescriptionLaws.{room_twice, room-once}
use Rattle.lent_prescriptions.proofs.prescriptions.without_room.Goals as goal

pub returns-then-twice : goal.returns-then-twice
returns-then-twice c =
    let a = c.args in
    room_twice (coding_of a.figures) (entries a.table) (sym c.twice.ensures ∙ c.if-twice.true)

pub returns : goal.returns
returns c =
    let a = c.args in
    c.without_table.ensures ∙ room-once (coding_of a.figures) (entries a.table) (sym c.twice.ensures ∙ c.if-twice.false)
