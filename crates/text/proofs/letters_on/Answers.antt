-- `letters_on` meets its contract: none below 10, else 7. Assumes nothing.
use Prim.Native.Nat.{suc}
use native.Mathlib.Omega.{arith}
use Rattle.combinatorics.proofs.Cases.{leb-holds, leb-fails}
use Rattle.text.specs.Text.{hex_digit}
use Rattle.text.proofs.letters_on.Goals as goal

pub returns-then-digit-lt10 : goal.returns-then-digit-lt10
unfolding hex_digit
returns-then-digit-lt10 c = (rw (leb-holds (suc c.args.digit) 10 (omega arith)) (omega arith), omega arith)

pub returns-else-digit-lt10 : goal.returns-else-digit-lt10
unfolding hex_digit
returns-else-digit-lt10 c = (rw (leb-fails (suc c.args.digit) 10 (omega arith)) (omega arith), omega arith)
