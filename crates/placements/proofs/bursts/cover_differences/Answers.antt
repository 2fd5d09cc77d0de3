-- `cover_differences` meets its contract: the differences before position x lie in bursts. Assumes nothing.
use mathlib.Core.Path.{◌≡◌, sym, ap, ◌∙◌}
use mathlib.Core.Bool.{not}
use native.Mathlib.Omega.{arith}
use lib.ListN.{length, get_or}
use Rattle.combinatorics.proofs.Cases.{eqb-other}
use Rattle.combinatorics.proofs.Cover.{of-covers}
use Rattle.placements.specs.Bridge.{starts_in, differ_at}
use Rattle.placements.proofs.Positions.{uncovered}
use Rattle.placements.proofs.bursts.cover_differences.Goals as goal

pub returns-then-not-in_burst : goal.returns-then-not-in_burst
returns-then-not-in_burst c =
    let a = c.args in
    let x = c.loop-x.x in
    sym (uncovered (differ_at a.word.now a.other.now) a.b x (starts_in a.at) (length a.word.now)
    c.loop-x-test.true
    (ap not (eqb-other (get_or a.word.now x 0) (get_or a.other.now x 0) c.if-word-x.true))
    (sym c.in_burst.ensures ∙ c.if-not-in_burst.true))

pub returns : goal.returns
returns c =
    let a = c.args in
    let t = c.loop-x in
    let e : t.x ≡ length a.word.now = omega arith in
    sym (of-covers (length a.word.now) a.b (differ_at a.word.now a.other.now) (starts_in a.at) (rw e at t.invariant))
