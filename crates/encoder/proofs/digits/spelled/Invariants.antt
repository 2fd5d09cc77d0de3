-- `spelled` meets its contract: the digits of the blocks from `block` on are made. Assumes nothing.
use mathlib.Core.Path.{◌≡◌}
use Prim.Native.Nat.{◌+◌, ◌*◌}
use lib.ListN.{length}
use Rattle.cells.specs.Digits.{places}
use Rattle.encoder.specs.Digits.{max_digits, SpelledFrom}
use Rattle.encoder.proofs.digits.spelled.Given as goal

abbrev pub invariant-loop-block : goal.invariant-loop-block
invariant-loop-block l =
    (length l.digits ≡ max_digits) × SpelledFrom l.q (places l.m l.tail) l.value (l.block * (l.tail + 1)) l.left l.digits
