-- `capped_power` meets its contract: after i turns the power is that of i factors, stopped at the cap. Assumes nothing.
use mathlib.Core.Path.{◌∙◌}
use Prim.Native.Nat.{◌^◌}
use native.Mathlib.Nat.{pow-suc}
use native.Mathlib.Numerals.{add-one}
use Rattle.params.proofs.Capped.{cap-left}
use Rattle.params.proofs.tail.capped_power.Goals as goal

pub loop-i-preserved : goal.loop-i-preserved
loop-i-preserved c =
    let a = c.args in
    let s = c.loop-i in
    c.capped_product-power-in-loop-i.ensures ∙ (rw (s.invariant, add-one s.i, pow-suc a.base s.i) (cap-left (a.base ^ s.i) a.base a.cap))
