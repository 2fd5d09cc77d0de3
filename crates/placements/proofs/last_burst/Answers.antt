-- `last_burst` meets its contract: the number sought lies from `low` on and below `high`. Assumes nothing.
use mathlib.Core.Path.{◌≡◌, sym, ap, ◌∙◌, subst}
use Prim.Native.Nat.{ℕ, suc, ◌+◌, ◌*◌, ◌-◌, ◌/◌, ◌<◌}
use native.Mathlib.Omega.{arith}
use borrow.Author.Rules.{rules}
use Rattle.combinatorics.specs.Choose.{choose}
use Rattle.combinatorics.specs.Rank.{ways_from}
use Rattle.combinatorics.proofs.Choose.{absorb, choose-zero, choose-mono, choose-of-none}
use Rattle.combinatorics.proofs.Cases.{by_le}
use Rattle.combinatorics.proofs.Stretch.{top-is, top-only}
use Rattle.placements.proofs.last_burst.Goals as goal
use Rattle.placements.proofs.last_burst.Goals.{Then-number-eq1}

-- one thing of n
choose_one : (n : ℕ) → choose n 1 ≡ n
choose_one n = omega (arith, absorb n 0, choose-zero n, ap (λ (y : ℕ). n * y) (choose-zero n))

-- one thing can be chosen in as many ways as there are things
one : (c : Then-number-eq1) (n : ℕ) → choose n c.args.number ≡ n
one c n = ap (choose n) c.if-number-eq1.true ∙ choose_one n

pub choose-requires : goal.choose-requires
choose-requires c =
    let a = c.args in
    (omega (arith, one (goal.at.choose-requires c).Then-number-eq1 a.below, c.requires.0, c.requires.4), c.requires.2, omega (arith, one (goal.at.choose-requires c).Then-number-eq1 a.rank, one (goal.at.choose-requires c).Then-number-eq1 a.below, c.requires.3, c.requires.4))

pub loop-low-init : goal.loop-low-init
loop-low-init c =
    let a = c.args in
    let none = choose-of-none a.number (omega arith) in
    let some : 0 < a.below =
    by_le 1 a.below (λ _. 0 < a.below) (λ l. l)
    (λ l. let z : a.below ≡ 0 = omega arith in absurd (omega (arith, ap (ways_from a.number) z))) in
    (some, omega arith, omega arith, search rules, sym none)

pub choose-chosen-requires : goal.choose-chosen-requires
choose-chosen-requires c =
    let l = c.loop-low in
    let middle = l.low + (l.high - l.low) / 2 in
    (omega arith, omega arith, omega (arith, choose-mono {a = middle} {b = c.args.below} c.args.number (omega arith), c.requires.3))

pub returns-clause-reduced : goal.returns-clause-reduced
returns-clause-reduced c =
    let a = c.args in
    let l = c.loop-low in
    let e : l.high ≡ suc l.low = omega arith in
    let none = choose-of-none a.number (omega arith) in top-only (ways_from a.number) (λ x y h. choose-mono a.number h)
    (record { below = omega arith; reach = l.invariant.2; past = subst (λ (h : ℕ). a.rank < choose h a.number) e l.invariant.3 })
    (top-is (ways_from a.number) a.below a.rank (omega arith) (search rules))

pub returns-then-number-eq1-clause-reduced : goal.returns-then-number-eq1-clause-reduced
returns-then-number-eq1-clause-reduced c =
    let a = c.args in
    let is = one (goal.at.returns-then-number-eq1-clause-reduced c).Then-number-eq1 in top-only (ways_from a.number) (λ x y h. choose-mono a.number h)
    (record { below = omega (arith, is a.below, c.requires.4); reach = omega (arith, is a.rank); past = omega (arith, is (suc a.rank)) })
    (top-is (ways_from a.number) a.below a.rank (omega (arith, is 0)) c.requires.4)
