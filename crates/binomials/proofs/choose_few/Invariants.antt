-- `choose_few` meets its contract: after i turns `taken` is the ways to take i things one after another, and `orders` their orders. Assumes nothing.
use mathlib.Core.Path.{◌≡◌}
use Prim.Native.Nat.{◌*◌}
use Rattle.combinatorics.specs.Choose.{choose as ways_of}
use Rattle.binomials.proofs.Orders.{orders as orders_of}
use Rattle.binomials.proofs.choose_few.Given as goal

abbrev pub invariant-loop-i : goal.invariant-loop-i
invariant-loop-i l = (l.orders ≡ orders_of l.i) × (l.taken ≡ orders_of l.i * ways_of l.n l.i)
