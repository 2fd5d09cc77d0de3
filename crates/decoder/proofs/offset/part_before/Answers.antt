-- `part_before` meets its contract. Assumes nothing.
use native.Mathlib.Omega.{arith}
use Rattle.combinatorics.proofs.Cases.{eqb_same, eqb-other}
use Rattle.construction_b.specs.Reading.{before}
use Rattle.decoder.proofs.offset.part_before.Goals as goal

pub returns-then-part-eq0 : goal.returns-then-part-eq0
unfolding before
returns-then-part-eq0 c =
    rw (eqb_same c.args.part 0 c.if-part-eq0.true) (omega (arith, c.requires.0))

pub returns : goal.returns
unfolding before
returns c =
    rw (eqb-other c.args.part 0 c.if-part-eq0.false)
