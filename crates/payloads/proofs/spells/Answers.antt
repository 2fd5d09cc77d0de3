-- `spells` meets its contract: where a byte takes one symbol every message spells a payload. Assumes nothing.
use mathlib.Core.Path.{sym, ◌∙◌}
use native.Mathlib.Omega.{arith}
use Rattle.combinatorics.proofs.Lists.{at-below}
use Rattle.cells.specs.Bytes.{byte_values}
use Rattle.payloads.proofs.OneSymbol.{passes-one}
use Rattle.payloads.proofs.spells.Goals as goal

pub returns-then-width-eq-COPIED_WIDTH : goal.returns-then-width-eq-COPIED_WIDTH
returns-then-width-eq-COPIED_WIDTH c =
    let ms = c.args.message.now in
    sym (passes-one c.args.q (sym c.requires.width_is ∙ c.if-width-eq-COPIED_WIDTH.true) ms
    (at-below byte_values ms (λ x l. omega (arith, c.type_inv.message x))))
