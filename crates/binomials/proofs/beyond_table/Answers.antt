-- `beyond_table` meets its contract: 7 and 8 things are a step and two from six, which the table has. Assumes nothing.
use mathlib.Core.Path.{◌≡◌, sym, ap, ◌∙◌}
use Prim.Native.Nat.{ℕ, ◌*◌, ◌-◌, ◌/◌, ◌≤◌}
use native.Mathlib.Omega.{arith}
use Rattle.combinatorics.specs.Choose.{choose as ways_of}
use Rattle.combinatorics.proofs.Choose.{choose-next}
use Rattle.cells.specs.Figures.{max_count}
use Rattle.binomials.proofs.Bounds.{ways-fit, most-is}
use Rattle.binomials.proofs.beyond_table.Goals as goal
use Rattle.binomials.proofs.beyond_table.Goals.{After-entry-six, Else-k-eq7, Start}

-- fewer things are chosen in no more ways than a count can give
fewer : (s : Start) (i : ℕ) → i ≤ s.args.k → ways_of s.args.n i ≤ max_count
fewer s i h =
    let a = s.args in
    ways-fit a.n a.k i (most-is a.n a.k s.requires.0 s.requires.1 s.requires.2) s.requires.1 h

-- a step from six
seven_is : (c : After-entry-six) → (let n = c.args.n in c.entry-six.result * (n - 6) / 7 ≡ ways_of n 7)
seven_is c = rw c.entry-six.ensures (choose-next c.args.n 6)

pub scaled-seven-requires : goal.scaled-seven-requires
scaled-seven-requires c =
    let s = (goal.at.scaled-seven-requires c).Start in
    (omega arith, omega arith, omega (arith, s.requires.0), omega (arith, seven_is c, fewer s 7 (omega arith)))

pub returns-then-k-eq7 : goal.returns-then-k-eq7
returns-then-k-eq7 c =
    c.scaled-seven.ensures ∙ seven_is (goal.at.returns-then-k-eq7 c).After-entry-six ∙ ap (ways_of c.args.n) (sym c.if-k-eq7.true)

-- and one from seven
eight_is : (c : Else-k-eq7) → (let n = c.args.n in c.scaled-seven.result * (n - 7) / 8 ≡ ways_of n 8)
eight_is c =
    let n = c.args.n in
    rw (c.scaled-seven.ensures ∙ seven_is c.before.before) (choose-next n 7)

pub scaled-requires : goal.scaled-requires
scaled-requires c =
    let s = (goal.at.scaled-requires c).Start in
    (omega arith, omega arith, omega (arith, s.requires.0), omega (arith, eight_is c, fewer s 8 (omega arith)))

pub returns : goal.returns
returns c =
    let k : c.args.k ≡ 8 = omega arith in
    c.scaled.ensures ∙ eight_is (goal.at.returns c).Else-k-eq7 ∙ ap (ways_of c.args.n) (sym k)
