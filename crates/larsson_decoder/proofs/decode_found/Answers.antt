-- `decode_found` meets its contract: what the sub-blocks refuse, or what the placement gives. Assumes nothing.
use Rattle.refusals.specs.Numbers.{number_of}
use mathlib.Core.Path.{sym, ap, ◌∙◌}
use Rattle.cells.specs.Outcomes.{decoded_from}
use Rattle.larsson_decoder.proofs.decode_found.Goals as goal

pub returns-in-Err : goal.returns-in-Err
returns-in-Err c =
    let a = c.args in
    c.unread.ensures number_of a.message.now ∙ sym (ap (decoded_from a.layout.b a.message.now) c.in-Err.ensures)
