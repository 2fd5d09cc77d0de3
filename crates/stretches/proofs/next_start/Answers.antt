-- `next_start` meets its contract. Assumes nothing.
use mathlib.Core.Path.{sym}
use native.Mathlib.Omega.{arith}
use Rattle.stretches.proofs.ByBlock.{start_none, start-some}
use Rattle.stretches.proofs.next_start.Goals as goal

pub returns-then-walk-burst : goal.returns-then-walk-burst
returns-then-walk-burst c = sym (start_none c.requires c.args.burst c.if-walk-burst.true)

pub returns : goal.returns
returns c = sym (start-some c.requires c.args.burst (omega arith))
