-- `Params::parts` meets its contract. Assumes nothing.
use native.Mathlib.Omega.{arith}
use Rattle.combinatorics.proofs.Cases.{leb-holds, leb-fails}
use Rattle.construction_a.specs.Figures.{parts}
use Rattle.params.proofs.Params.parts.Goals as goal

pub returns-then-self-lt-MIN_PARTS : goal.returns-then-self-lt-MIN_PARTS
unfolding parts
returns-then-self-lt-MIN_PARTS c = rw (leb-holds c.args.self.m 2 (omega arith))

pub returns : goal.returns
unfolding parts
returns c = rw (leb-fails c.args.self.m 2 (omega arith))
