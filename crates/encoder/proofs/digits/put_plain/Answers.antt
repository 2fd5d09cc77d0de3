-- `put_plain` meets its contract: the digits from position j on are made. Assumes nothing.
use mathlib.Core.Path.{◌≡◌, subst}
use Prim.Native.Nat.{ℕ, suc, ◌+◌, ◌-◌, ◌%◌}
use native.Mathlib.Nat.{zero-add}
use native.Mathlib.Omega.{arith}
use lib.ListN.{length-set}
use Rattle.cells.specs.Digits.{plain}
use Rattle.encoder.specs.Digits.{SpelledFrom}
use Rattle.encoder.proofs.Spelling.{turn}
use Rattle.encoder.proofs.digits.put_plain.Goals as goal

pub loop-j-preserved : goal.loop-j-preserved
loop-j-preserved c =
    let a = c.args in
    let l = c.loop-j in
    let j = l.j - 1 in
    let e : a.from + l.j ≡ suc (a.from + j) = omega arith in (
      simp length-set l.invariant.0,
      λ ps v few room are had.
          let next = turn a.q ps v c.requires.0 (a.from + j) l.left l.digits plain (omega arith) (omega (arith, l.invariant.0))
          (are j (omega arith)) (subst (λ (y : ℕ). SpelledFrom a.q ps v y l.left l.digits) e (l.invariant.1 ps v few room are had)) in
          rw (zero-add (l.left % a.q)) at next,
    )
