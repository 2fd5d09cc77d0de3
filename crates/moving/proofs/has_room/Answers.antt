-- `has_room` meets its contract. Assumes nothing.
use mathlib.Core.Path.{sym, ◌∙◌}
use Rattle.moving.proofs.Tests.{room-enough, room-by-zeros}
use Rattle.moving.proofs.has_room.Goals as goal

pub returns-then-payload-room : goal.returns-then-payload-room
returns-then-payload-room c =
    sym (room-enough c.args.room c.args.payload.now c.if-payload-room.true)

pub returns : goal.returns
returns c =
    c.all_below.ensures ∙ room-by-zeros c.args.room c.args.payload.now
