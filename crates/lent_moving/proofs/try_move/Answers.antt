-- `try_move` meets its contract: what a move without a table is refused with, 1, or what the move answers. Assumes nothing.
use mathlib.Core.Path.{sym, ap, ◌∙◌}
use Rattle.cells.specs.Outcomes.{unwritten}
use Rattle.codes.specs.Bridge.{coding_of}
use Rattle.lent_moving.proofs.MoveLaws.{bytes-other, bytes-state, bytes_whole}
use Rattle.lent_moving.proofs.try_move.Goals as goal

pub returns-then-table-ne-TABLE_LEN : goal.returns-then-table-ne-TABLE_LEN
returns-then-table-ne-TABLE_LEN c =
    let a = c.args in
    ap (unwritten a.moved.now) c.without_table.ensures
    ∙ bytes-other (coding_of a.from) (coding_of a.to) a.table.now a.strip.now a.moved.now c.if-table-ne-TABLE_LEN.true

pub returns-then-not-states_known : goal.returns-then-not-states_known
returns-then-not-states_known c =
    let a = c.args in
    bytes-state (coding_of a.from) (coding_of a.to) a.table.now a.strip.now a.moved.now c.if-table-ne-TABLE_LEN.false
    (sym c.states_known.ensures ∙ c.if-not-states_known.true)

pub returns : goal.returns
returns c =
    let a = c.args in
    let d = coding_of a.from in
    let e = coding_of a.to in
    let whole = bytes_whole d e a.table.now a.strip.now a.moved.now c.if-table-ne-TABLE_LEN.false
    (sym c.states_known.ensures ∙ c.if-not-states_known.false) in
    rw (c.table_in.ensures, whole) at c.move_strip.ensures
