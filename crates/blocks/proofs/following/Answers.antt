-- `following` meets its contract. Assumes nothing.
use mathlib.Core.Path.{sym, ◌∙◌}
use native.Mathlib.Numerals.{add-one}
use native.Mathlib.Omega.{arith}
use Rattle.cells.proofs.Round.{next-inner, next_last}
use Rattle.blocks.proofs.following.Goals as goal

pub returns-then-i-n : goal.returns-then-i-n
returns-then-i-n c = sym (next_last c.args.n c.args.i (omega arith))

pub returns : goal.returns
returns c = add-one c.args.i ∙ sym (next-inner c.args.n c.args.i (omega arith))
