-- `least_factors` meets its contract: the values are those of r factors, stopped at the count, and no number below r was enough. Assumes nothing.
use mathlib.Core.Path.{sym, ◌∙◌}
use Prim.Native.Nat.{◌*◌, ◌^◌, ◌≤◌, ◌<◌}
use native.Mathlib.Nat.{mul_assoc, pow-suc}
use native.Mathlib.Numerals.{add-one}
use native.Mathlib.Omega.{arith}
use borrow.Author.Count.{below_more}
use Rattle.combinatorics.proofs.Cases.{leb-holds, leb-fails}
use Rattle.combinatorics.proofs.Stretch.{first-is, first-none}
use Rattle.params.proofs.Capped.{cap-left, cap-reached, cap-missed}
use Rattle.params.proofs.tail.least_factors.Goals as goal
use Rattle.params.proofs.tail.least_factors.Invariants.{enough}

pub returns-then-count-values : goal.returns-then-count-values
returns-then-count-values c =
    let a = c.args in
    let s = c.loop-r in
    let v = a.start * a.step ^ s.r in
    let h : a.count ≤ v = cap-reached v a.count (rw s.invariant.0 at c.if-count-values.true) in
    sym (first-is a.limit 0 s.r (enough a.start a.step a.count) (omega arith) (omega arith) (λ x _ l. s.invariant.1 x l) (leb-holds a.count v h))

pub loop-r-preserved : goal.loop-r-preserved
loop-r-preserved c =
    let a = c.args in
    let s = c.loop-r in
    let v = a.start * a.step ^ s.r in
    let h : v < a.count = cap-missed v a.count (rw s.invariant.0 at c.if-count-values.false) in (
      c.capped_product-values-in-loop-r.ensures ∙ (rw (s.invariant.0, add-one s.r, pow-suc a.step s.r, ← mul_assoc a.start (a.step ^ s.r) a.step)
          (cap-left v a.step a.count)),
      below_more _ _ s.invariant.1 (leb-fails a.count v h),
    )

pub returns : goal.returns
returns c =
    let a = c.args in
    let s = c.loop-r in
    sym (first-none a.limit 0 (enough a.start a.step a.count) (λ x _ l. s.invariant.1 x (omega arith)) ∙ omega arith)
