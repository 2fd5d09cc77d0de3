-- `can_be_found` meets its contract. Assumes nothing.
use mathlib.Core.Path.{sym, ◌∙◌}
use Rattle.combinatorics.proofs.Lists.{below_more}
use Rattle.cells.specs.Erasures.{found_bound}
use Rattle.cells.proofs.Erasures.{found-least}
use Rattle.decoder.proofs.erasures.can_be_found.Goals as goal

pub returns-then-whole : goal.returns-then-whole
returns-then-whole c =
    let q = c.args.layout.q in
    sym (below_more q (found_bound q) c.args.word.now (found-least q) (sym c.requires ∙ c.if-whole.true))
