-- `choose_few` meets its contract: after i turns `taken` is the ways to take i things one after another, and `orders` their orders. Assumes nothing.
use mathlib.Core.Path.{◌≡◌, refl, ap, ◌∙◌}
use Prim.Native.Nat.{◌+◌}
use native.Mathlib.Omega.{arith}
use Rattle.combinatorics.specs.Choose.{choose as ways_of}
use Rattle.binomials.proofs.Orders.{orders as orders_of, orders-next, orders-some, orders-fit, taken_none, taken_next, taken-fits, choose-of-taken}
use Rattle.binomials.proofs.choose_few.Goals as goal

pub loop-i-init : goal.loop-i-init
unfolding orders_of
loop-i-init c = (refl, taken_none c.args.n)

pub overflow_mul-taken : goal.overflow_mul-taken
overflow_mul-taken c =
    rw c.loop-i.invariant.1 (omega (arith, taken-fits c.args.n c.loop-i.i (omega arith) (omega arith)))

pub overflow_mul-orders : goal.overflow_mul-orders
overflow_mul-orders c =
    rw (c.loop-i.invariant.0, orders-next c.loop-i.i) (omega (arith, orders-fit (c.loop-i.i + 1) (omega arith)))

pub loop-i-preserved : goal.loop-i-preserved
loop-i-preserved c = (
  rw c.loop-i.invariant.0 (orders-next c.loop-i.i),
  rw c.loop-i.invariant.1 (taken_next c.args.n c.loop-i.i),
)

pub nonzero_div-result : goal.nonzero_div-result
nonzero_div-result c = rw c.loop-i.invariant.0 (orders-some c.loop-i.i)

pub returns : goal.returns
returns c =
    let n = c.args.n in
    let e : c.loop-i.i ≡ c.args.k = omega arith in
    rw (c.loop-i.invariant.0, c.loop-i.invariant.1) (choose-of-taken n c.loop-i.i) ∙ ap (ways_of n) e
