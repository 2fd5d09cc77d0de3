-- `index_whole` meets its contract. Assumes nothing.
use mathlib.Core.Path.{sym, ◌∙◌}
use native.Mathlib.Omega.{arith}
use lib.ListN.{take}
use Rattle.combinatorics.proofs.Lists.{below_at}
use Rattle.construction_a.proofs.Found.{heads-below}
use Rattle.params.specs.Given.{figures_of}
use Rattle.params.proofs.Shape.{bound}
use Rattle.decoder.proofs.erasures.index_whole.Goals as goal

pub returns-then-whole : goal.returns-then-whole
returns-then-whole c =
    let l = c.args.layout in
    let w = c.args.word.now in
    sym (heads-below l.index_tail (figures_of l) l.q w (take l.m c.args.index)
    (below_at l.q w (omega (arith, (bound l c.requires.1.finding.layout).q-least)) (sym c.requires.0 ∙ c.if-whole.true)))
