-- `count` meets its contract: there are too many ways exactly where there are too many things. Assumes nothing.
use mathlib.Core.Path.{sym, ap, ◌∙◌}
use Prim.Native.Nat.{◌≤◌, ◌<◌}
use native.Mathlib.Omega.{arith}
use borrow.Author.Tests.{ltb-true, ltb-false}
use Rattle.combinatorics.specs.Choose.{choose}
use Rattle.combinatorics.proofs.Cases.{by_le}
use Rattle.cells.specs.Figures.{counted, max_count}
use Rattle.cells.proofs.Figures.{count-given, count-over}
use Rattle.binomials.specs.Limits.{most_things}
use Rattle.binomials.proofs.Bounds.{ways-fit, most-is}
use Rattle.binomials.proofs.count.Goals as goal
use Rattle.binomials.proofs.count.Goals.{Else-too_many}

fits : (c : Else-too_many) → (let a = c.args in choose a.n a.k ≤ max_count)
fits c =
    ways-fit c.args.n c.args.k c.args.k (ltb-false _ _ (sym c.too_many.ensures ∙ c.if-too_many.false)) c.requires.1 (omega arith)

pub choose-requires : goal.choose-requires
choose-requires c = (omega arith, omega arith, fits c)

pub returns-clause-value : goal.returns-clause-value
returns-clause-value c =
    let a = c.args in
    ap counted c.choose.ensures ∙ sym (count-given (choose a.n a.k) (fits (goal.at.returns-clause-value c).Else-too_many))

pub returns-then-too_many-clause-value : goal.returns-then-too_many-clause-value
returns-then-too_many-clause-value c =
    let a = c.args in
    let t = choose a.n a.k in
    let many = ltb-true (most_things a.k) a.n (sym c.too_many.ensures ∙ c.if-too_many.true) in sym (count-over t
    (by_le t max_count (λ _. max_count < t)
    (λ h. absurd (omega (arith, many, most-is a.n a.k c.requires.0 c.requires.1 h)))
    (λ h. h)))
