-- `capped_power` meets its contract: after i turns the power is that of i factors, stopped at the cap. Assumes nothing.
use mathlib.Core.Path.{◌≡◌}
use Prim.Native.Nat.{◌^◌, min}
use Rattle.params.proofs.tail.capped_power.Given as goal

abbrev pub invariant-loop-i : goal.invariant-loop-i
invariant-loop-i l = (l.power ≡ min (l.base ^ l.i) l.cap)
