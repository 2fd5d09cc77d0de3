-- `unspell` meets its contract: where a byte takes one symbol the payload is the message. Assumes nothing.
use mathlib.Core.Path.{sym, ap, ◌∙◌}
use Prim.Native.Nat.{ℕ}
use native.Mathlib.Omega.{arith}
use lib.ListN.{take}
use Rattle.payloads.proofs.OneSymbol.{count-one, payload-one}
use Rattle.payloads.proofs.unspell.Goals as goal

pub copy_prefix-requires : goal.copy_prefix-requires
copy_prefix-requires c =
    omega (arith, c.requires.0.count-is, count-one c.args.q (sym c.requires.0.width_is ∙ c.if-width-eq-COPIED_WIDTH.true) c.args.message.now)

pub returns-then-width-eq-COPIED_WIDTH : goal.returns-then-width-eq-COPIED_WIDTH
returns-then-width-eq-COPIED_WIDTH c =
    let ms = c.args.message.now in
    c.copy_prefix.ensures
    ∙ ap (λ (k : ℕ). take k ms) c.requires.0.count-is
    ∙ sym (payload-one c.args.q (sym c.requires.0.width_is ∙ c.if-width-eq-COPIED_WIDTH.true) ms)
