-- `least_cover` meets its contract: the scan finds the greedy placement, and ends at 0 exactly when that covers. Assumes nothing.
use mathlib.Core.Path.{◌≡◌, sym, ◌∙◌}
use Prim.Native.Nat.{suc, ◌≤◌}
use native.Mathlib.Omega.{arith}
use Rattle.combinatorics.specs.Bursts.{placements, cover_rank}
use Rattle.combinatorics.proofs.Cases.{leb-holds, leb-fails}
use Rattle.combinatorics.proofs.Scan.{burst_start, burst-room, last-stays, scan-covers, scan-fails}
use Rattle.construction_a.specs.Outcomes.{defect_at}
use Rattle.placements.proofs.Scanning.{Scanning, scan-first, start_is, scan-turn, end_is, found-is}
use Rattle.placements.proofs.least_cover.Goals as goal
use Rattle.placements.proofs.least_cover.Goals.{After-burst_start-start, After-loop-i}

-- the scan is over
over : (c : After-loop-i)
    → Scanning c.args.n c.args.m c.args.b
    (defect_at c.args.map.now) 0 c.loop-i.start c.loop-i.end c.loop-i.found
over c =
    let e : c.loop-i.i ≡ 0 = omega arith in
    rw e at c.loop-i.invariant

pub loop-i-init : goal.loop-i-init
loop-i-init c =
    let a = c.args in
    rw c.last_end-end.ensures (scan-first a.n a.m a.b (defect_at a.map.now) (omega arith))

-- the start that is found
is : (c : After-burst_start-start)
    → c.burst_start-start.result
    ≡ burst_start (defect_at c.args.map.now) c.args.b
    c.loop-i.i c.loop-i.start
is c = c.burst_start-start.ensures ∙ start_is c.loop-i.invariant (omega arith)

within : (c : After-burst_start-start) → c.burst_start-start.result ≤ c.loop-i.start
within c =
    let a = c.args in
    let l = c.loop-i in
    omega (arith, is c, (burst-room (defect_at a.map.now) a.b l.i l.start (omega arith) l.invariant.room).1)

pub overflow_cast-found : goal.overflow_cast-found
overflow_cast-found c = omega (arith, within (goal.at.overflow_cast-found c).After-burst_start-start)

pub last_end-end-requires-then-start-end : goal.last_end-end-requires-then-start-end
last_end-end-requires-then-start-end c = omega (arith, within (goal.at.last_end-end-requires-then-start-end c).After-burst_start-start)

pub loop-i-preserved-then-start-end : goal.loop-i-preserved-then-start-end
loop-i-preserved-then-start-end c =
    scan-turn c.loop-i.invariant (omega arith) (omega arith) (is (goal.at.loop-i-preserved-then-start-end c).After-burst_start-start) c.last_end-end-then-start-end.ensures

pub loop-i-preserved : goal.loop-i-preserved
loop-i-preserved c =
    let a = c.args in
    let stays = last-stays (defect_at a.map.now) c.burst_start-start.result c.loop-i.start (within (goal.at.loop-i-preserved c).After-burst_start-start)
    (omega (arith, c.loop-i.invariant.last)) in
    scan-turn c.loop-i.invariant (omega arith) (omega arith) (is (goal.at.loop-i-preserved c).After-burst_start-start) (c.loop-i.invariant.last ∙ sym stays)

pub returns-else-end-eq0 : goal.returns-else-end-eq0
returns-else-end-eq0 c =
    let a = c.args in
    let h = c.requires.0 in
    let w = defect_at a.map.now in
    let f = over (goal.at.returns-else-end-eq0 c).After-loop-i in
    let l = scan-fails a.n a.m a.b w h.some h.within (λ e. c.if-end-eq0.false (end_is f ∙ e)) in
    let t = leb-fails (suc (cover_rank a.n a.m a.b w)) (placements a.n a.m a.b) (omega arith) in
    rw t

pub returns-then-end-eq0 : goal.returns-then-end-eq0
returns-then-end-eq0 c =
    let a = c.args in
    let h = c.requires.0 in
    let w = defect_at a.map.now in
    let f = over (goal.at.returns-then-end-eq0 c).After-loop-i in
    let l = scan-covers a.n a.m a.b w h.some h.within (sym (end_is f) ∙ c.if-end-eq0.true) in
    let t = leb-holds (suc (cover_rank a.n a.m a.b w)) (placements a.n a.m a.b) l in
    rw (t, found-is f h l)
