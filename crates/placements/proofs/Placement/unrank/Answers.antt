-- `Placement::unrank` meets its contract: the i starts still to come are those of the rank that is left. Assumes nothing.
use mathlib.Core.Path.{◌≡◌, sym, subst}
use Prim.Native.Nat.{◌+◌, ◌-◌, ◌*◌, ◌≤◌}
use native.Mathlib.Nat.{mul-le-mul, mul-le-mul_left}
use native.Mathlib.Omega.{arith}
use Rattle.combinatorics.specs.Choose.{choose}
use Rattle.combinatorics.specs.Bursts.{contracted, placements, starts_of}
use Rattle.combinatorics.proofs.Bursts.{rank-of-starts}
use Rattle.combinatorics.proofs.Choose.{choose-before}
use Rattle.combinatorics.proofs.Loops.{starts_down, starts-turned, starts_none, LastStart, starts-next}
use Rattle.cells.specs.Figures.{max_word}
use Rattle.placements.proofs.Filling.{fill-first, fill-turn, fill-last}
use Rattle.placements.proofs.Placement.unrank.Goals as goal
use Rattle.placements.proofs.Placement.unrank.Goals.{After-last_burst-last}

pub loop-i-init : goal.loop-i-init
unfolding placements
loop-i-init c =
    let a = c.args in
    let each : a.m * 1 ≤ a.m * a.b = mul-le-mul_left a.m (omega arith) in (
      omega arith,
      c.requires.1,
      c.requires.2,
      fill-first (starts_of a.n a.m a.b a.rank)
          (starts_down (a.b - 1) (contracted a.n a.m a.b) a.m a.rank) a.m (starts-turned a.n a.m a.b a.rank),
    )

-- a burst's number is one more than the bursts before it
number : (c : After-last_burst-last) → c.loop-i.i - 1 + 1 ≡ c.loop-i.i
number c = omega arith

share_is : (c : After-last_burst-last) → c.last_burst-last.result.share ≡ choose c.last_burst-last.result.reduced c.loop-i.i
share_is c = rw (number c) at c.last_burst-last.ensures.share

-- the start that is found
last : (c : After-last_burst-last)
    → LastStart (c.args.b - 1) c.loop-i.below c.loop-i.i
    c.loop-i.left c.last_burst-last.result.reduced
last c =
    let l = c.loop-i in
    let d = c.args.b - 1 in
    subst (LastStart d l.below l.i l.left) (sym (rw (number c) at c.last_burst-last.ensures.reduced))
    (starts-next d l.below l.i l.left c.loop-i-test.true l.invariant.2)

pub overflow_sub-left : goal.overflow_sub-left
overflow_sub-left c = omega (arith, (last (goal.at.overflow_sub-left c).After-last_burst-last).reach, share_is (goal.at.overflow_sub-left c).After-last_burst-last)

-- what the bursts before it take from its start
room : (c : After-last_burst-last) → (c.loop-i.i - 1) * (c.args.b - 1) ≤ max_word
room c =
    let a = c.args in
    let i = c.loop-i.i in
    omega (arith, mul-le-mul {n₁ = i - 1} {m₁ = a.b - 1} {n₂ = a.m} {m₂ = a.b} (omega arith) (omega arith))

pub overflow_add-start : goal.overflow_add-start
overflow_add-start c = omega (arith, room (goal.at.overflow_add-start c).After-last_burst-last, (last (goal.at.overflow_add-start c).After-last_burst-last).below)

pub overflow_cast-found : goal.overflow_cast-found
overflow_cast-found c = omega (arith, room (goal.at.overflow_cast-found c).After-last_burst-last, (last (goal.at.overflow_cast-found c).After-last_burst-last).below)

pub loop-i-preserved : goal.loop-i-preserved
loop-i-preserved c =
    let a = c.args in
    let l = c.loop-i in
    let t = last (goal.at.loop-i-preserved c).After-last_burst-last in
    let r = c.last_burst-last.result.reduced in
    let e : c.last_burst-last.result.share ≡ choose r l.i = share_is (goal.at.loop-i-preserved c).After-last_burst-last in (
      omega (arith, t.below),
      omega (arith, l.invariant.1, choose-before r l.below l.i t.below c.loop-i-test.true),
      rw e t.rest,
      rw e (fill-turn (r + (l.i - 1) * (a.b - 1)) (starts_down (a.b - 1) r (l.i - 1) (l.left - choose r l.i)) l.invariant.3 t.starts (omega arith)
          (omega arith)),
    )

pub returns : goal.returns
returns c =
    let a = c.args in
    let l = c.loop-i in
    let e : l.i ≡ 0 = omega arith in
    let f = rw (e, starts_none (a.b - 1) l.below l.left) at l.invariant.3 in
    fill-last f (rank-of-starts a.n a.m a.b (omega arith) (omega arith) a.rank c.requires.2).count
