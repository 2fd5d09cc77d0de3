-- `fill_digits` meets its contract: the walk fills the word from the digits behind the lead's. Assumes nothing.
use mathlib.Core.Path.{◌≡◌}
use native.Mathlib.Omega.{arith}
use borrow.Author.Rules.{rules}
use lib.ListN.{length}
use Rattle.params.specs.Given.{max_blocks}
use Rattle.larsson_params.specs.declared.LarssonLayout.{LarssonLayout}
use Rattle.larsson_params.proofs.Shape.{bound}
use Rattle.larsson_encoder.proofs.fill.fill_digits.Goals as goal
use Rattle.larsson_encoder.proofs.fill.fill_digits.Goals.{Start}

abbrev l : Start → LarssonLayout
l s = s.args.layout

pub walk_of-walk-requires : goal.walk_of-walk-requires
walk_of-walk-requires c =
    (bound (l (goal.at.walk_of-walk-requires c).Start) c.requires.0.layout).m-most

pub fill-requires-clause-known : goal.fill-requires-clause-known
fill-requires-clause-known c =
    let all : length c.args.kinds.now ≡ max_blocks = search rules in
    rw c.walk_of-walk.ensures (omega (arith, (bound (l (goal.at.fill-requires-clause-known c).Start) c.requires.0.layout).m-most, all))
