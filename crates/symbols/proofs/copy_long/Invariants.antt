-- `copy_long` meets its contract: the symbols so far are copied, and the last move starts among them or right behind. Assumes nothing.
use mathlib.Core.Path.{◌≡◌}
use Prim.Native.Nat.{◌≤◌}
use lib.ListN.{length, take}
use Rattle.symbols.proofs.copy_long.Given as goal

abbrev pub invariant-loop-done : goal.invariant-loop-done
invariant-loop-done l = (l.done ≤ l.len) × (length l.to ≡ length l.initial.to) × (take l.done l.to ≡ take l.done l.from)
