-- `spell_payload` meets its contract: where a byte takes one symbol the message is the payload. Assumes nothing.
use mathlib.Core.Path.{sym, ◌∙◌}
use native.Mathlib.Omega.{arith}
use Rattle.payloads.proofs.OneSymbol.{count-one, message-one}
use Rattle.payloads.proofs.spell_payload.Goals as goal

pub copy_prefix-requires : goal.copy_prefix-requires
copy_prefix-requires c =
    omega (arith, c.requires.count-is, count-one c.args.q (sym c.requires.width_is ∙ c.if-width-eq-COPIED_WIDTH.true) c.args.message.now)

pub returns-then-width-eq-COPIED_WIDTH : goal.returns-then-width-eq-COPIED_WIDTH
returns-then-width-eq-COPIED_WIDTH c =
    c.copy_prefix.ensures
    ∙ sym (message-one c.args.q (sym c.requires.width_is ∙ c.if-width-eq-COPIED_WIDTH.true) c.args.message.now c.args.payload.now
    c.requires.count-is)
