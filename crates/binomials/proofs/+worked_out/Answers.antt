-- `worked_out` meets its contract: of one thing fewer there are no more ways than the largest count. Assumes nothing.
use Rattle.std.proofs.Common.{◌≡◌, sym, ◌∙◌, ℕ, ◌+◌, ◌*◌, ◌-◌, ◌/◌, arith}
use Rattle.combinatorics.specs.Choose.{choose as ways_of}
use Rattle.combinatorics.proofs.Choose.{choose-next}
use Rattle.binomials.proofs.Bounds.{ways-fit, most-is}
use Rattle.binomials.proofs.Orders.{choose-more}
use Rattle.binomials.proofs.+worked_out.Goals as goal
use Rattle.binomials.proofs.+worked_out.Goals.{After-worked_out}

pub returns-then-n-k : goal.returns-then-n-k
returns-then-n-k t c = sym (choose-more c.args.n c.args.k (omega arith))

pub worked_out-requires : goal.worked_out-requires
worked_out-requires t c =
    let a = c.args in
    let most = most-is a.n a.k c.requires.0 c.requires.1 c.requires.2 in
    (omega arith, (c.requires.0, omega (arith, c.requires.1), ways-fit a.n a.k (a.k - 1) most c.requires.1 (omega arith)))

-- one thing more
next : (t : ℕ) (c : After-worked_out t)
    → c.worked_out.result * (c.args.n - (c.args.k - 1)) / c.args.k ≡ ways_of c.args.n c.args.k
next t c =
    let a = c.args in
    let e : a.k - 1 + 1 ≡ a.k = omega arith in
    rw c.worked_out.ensures (rw e at (choose-next a.n (a.k - 1)))

pub scaled-requires : goal.scaled-requires
scaled-requires t c =
    (omega arith, c.requires.1, omega (arith, c.requires.0), omega (arith, next t c, c.requires.2))

pub returns : goal.returns
returns t c = c.scaled.ensures ∙ next t (goal.at.returns t c).After-worked_out
