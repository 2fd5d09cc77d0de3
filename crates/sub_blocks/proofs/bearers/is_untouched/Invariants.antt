-- `is_untouched` meets its contract: a burst that follows touches the sub-block exactly when one of all does. Assumes nothing.
use mathlib.Core.Path.{◌≡◌}
use lib.ListN.{drop}
use Rattle.combinatorics.specs.Lists.{any}
use Rattle.sub_blocks.proofs.Bearing.{touched}
use Rattle.sub_blocks.proofs.bearers.is_untouched.Given as goal

abbrev pub invariant-loop-start : goal.invariant-loop-start
invariant-loop-start l = any (touched l.layout.b l.from l.end) (drop l.start-index l.bursts) ≡ any (touched l.layout.b l.from l.end) l.bursts
