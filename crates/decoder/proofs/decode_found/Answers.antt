-- `decode_found` meets its contract: 7, or what the index blocks that are shown give. Assumes nothing.
use Rattle.refusals.specs.Numbers.{number_of}
use mathlib.Core.Path.{sym, ap, ◌∙◌}
use Rattle.cells.specs.Outcomes.{decoded_from}
use Rattle.decoder.proofs.ByLayout.{read_none}
use Rattle.decoder.proofs.decode_found.Goals as goal

pub decode_index-requires : goal.decode_index-requires
decode_index-requires c = (record { lent = c.requires.0; pattern = sym c.in-Some.ensures }, c.requires.1)

pub returns-in-None : goal.returns-in-None
returns-in-None c =
    c.unread.ensures number_of c.args.message.now
    ∙ sym (ap (decoded_from c.args.layout.b c.args.message.now) (read_none c.args.layout c.requires.0.fitting c.args.word.now (sym c.in-None.ensures)))
