-- `fill_block` meets its contract: the head cells, then burst after burst, then the rest. Assumes nothing.
use mathlib.Core.Path.{◌≡◌, sym, ap, ◌∙◌}
use Prim.Native.Nat.{ℕ, suc, ◌+◌, ◌≤◌, ◌<◌}
use native.Mathlib.Omega.{arith}
use lib.ListN.{get_or}
use Rattle.cells.specs.Cells.{message}
use Rattle.cells.specs.Plan.{Frame}
use Rattle.placements.specs.Bridge.{starts_in}
use Rattle.blocks.specs.Numbers.{kind_numbers}
use Rattle.stretches.specs.declared.fill.Filling.{Filling}
use Rattle.stretches.specs.Walk.{frame_by, next_start}
use Rattle.stretches.specs.ByBlock.{Past, Cells}
use Rattle.stretches.proofs.ByBlock.{Walkable, walkable, Hopped, burst-hop, message-cells, rest-hop, rest-none, edge_in}
use Rattle.stretches.proofs.Resuming.{message-left, message-filled, burst-filled}
use Rattle.stretches.proofs.fill.fill_block.Goals as goal
use Rattle.stretches.proofs.fill.fill_block.Goals.{Start}

-- ---- What the contract lends

abbrev g : Start → Frame
g s = frame_by s.args.walk s.args.heads.now (kind_numbers s.args.kinds.now) (starts_in s.args.at)

w : (s : Start) → Walkable (g s) s.args.walk.b (starts_in s.args.at)
w s = walkable s.requires.tables.0.walks

-- where the block ends
abbrev edge : Start → ℕ
edge s = get_or s.args.heads.now (suc s.args.block) 0

-- the next burst, where it starts in the block, and the message before it
abbrev next : Start → ℕ → ℕ
next s i = next_start s.args.walk.n (starts_in s.args.at) i

abbrev PastAt : Start → Filling → Type 0
PastAt s here = Past (g s) s.args.walk.b (starts_in s.args.at) s.args.block here.at here.passed

hop : (s : Start) (here : Filling) → PastAt s here → next s here.passed < edge s
    → Hopped (w s) s.args.block here.at here.passed s.requires.tables.1.0 (next s here.passed)
hop s here = burst-hop (w s) s.args.block here.at here.passed s.requires.tables.1.0

message-to : (s : Start) (here : Filling) → PastAt s here → (to : ℕ) → to ≤ next s here.passed → to ≤ edge s → Cells (g s) message here.at to
message-to s here = message-cells (w s) s.args.block here.at here.passed s.requires.tables.1.0

-- ---- What is left of the code

pub fill_message-here-requires : goal.fill_message-here-requires
fill_message-here-requires c =
    let t = c.loop-here in
    let p = t.invariant.1.0 in
    let stop = t.invariant.1.2 in
    let h = hop (goal.at.fill_message-here-requires c).Start t.here p (omega (arith, t.invariant.0, stop, c.loop-here-test.true)) in
    let cells = message-to (goal.at.fill_message-here-requires c).Start t.here p t.here.stop (omega (arith, stop)) (omega (arith, t.invariant.0, c.loop-here-test.true)) in (
      omega (arith, stop, h.onward),
      omega (arith, stop, h.ends, t.invariant.2.filled.size),
      message-left t.invariant.2 t.here.stop (omega (arith, stop, h.onward)) (omega (arith, stop, h.ends)) cells,
    )

pub fill_burst-here-requires : goal.fill_burst-here-requires
fill_burst-here-requires c =
    let t = c.loop-here in
    let stop = t.invariant.1.2 in
    let h = hop (goal.at.fill_burst-here-requires c).Start t.here t.invariant.1.0 (omega (arith, t.invariant.0, stop, c.loop-here-test.true)) in
    let m = c.fill_message-here.ensures in (
      c.requires.tables.0.walks.bursts,
      omega (arith, m.at-is, stop, h.ends, m.size, t.invariant.2.filled.size),
      omega (arith, m.passed_is, h.number, c.requires.tables.0.walks.bursts.count),
    )

pub loop-here-smaller : goal.loop-here-smaller
loop-here-smaller c =
    let t = c.loop-here in
    let h = hop (goal.at.loop-here-smaller c).Start t.here t.invariant.1.0
    (omega (arith, t.invariant.0, t.invariant.1.2, c.loop-here-test.true)) in
    omega (
      arith,
      c.fill_message-here.ensures.passed_is,
      c.fill_burst-here.ensures.filled.passed_is,
      h.number,
      c.requires.tables.0.walks.bursts.count,
    )

pub loop-here-preserved : goal.loop-here-preserved
loop-here-preserved c =
    let t = c.loop-here in
    let p = t.invariant.1.0 in
    let start = t.invariant.1.2 in
    let h = hop (goal.at.loop-here-preserved c).Start t.here p (omega (arith, t.invariant.0, start, c.loop-here-test.true)) in
    let cells = message-to (goal.at.loop-here-preserved c).Start t.here p t.here.stop (omega (arith, start))
    (omega (arith, t.invariant.0, c.loop-here-test.true)) in
    let m = c.fill_message-here.ensures in
    let u = c.fill_burst-here.ensures.filled in
    let before = message-filled t.invariant.2 t.here.stop (omega (arith, start, h.onward)) (omega (arith, start, h.ends)) cells m in
    let stop : c.fill_message-here.result.at ≡ next (goal.at.loop-here-preserved c).Start t.here.passed = m.at-is ∙ start in
    let here : c.fill_burst-here.result.at ≡ next (goal.at.loop-here-preserved c).Start t.here.passed + c.args.walk.b = omega (arith, u.at-is, stop) in
    let count : c.fill_burst-here.result.passed ≡ t.here.passed + 1 = omega (arith, u.passed_is, m.passed_is) in (
      t.invariant.0,
      (rw (here, count) h.past, omega (arith, u.indexed-is, m.indexed-is, t.invariant.1.1), c.fill_burst-here.ensures.stop),
      burst-filled before (rw stop h.ends) (rw stop h.cells) u,
    )

pub returns-then-edge-here : goal.returns-then-edge-here
returns-then-edge-here c =
    let t = c.loop-here in (
      t.invariant.2,
      (
        rest-none (w (goal.at.returns-then-edge-here c).Start) c.args.block t.here.at t.here.passed c.requires.tables.1.0 t.invariant.1.0
            (omega (arith, t.invariant.0, c.if-edge-here.true)),
        t.invariant.1.1,
        t.invariant.1.2,
      ),
    )

pub fill_message-requires : goal.fill_message-requires
fill_message-requires c =
    let t = c.loop-here in
    let within = edge_in (w (goal.at.fill_message-requires c).Start) c.args.block c.requires.tables.1.0 in
    let cells = message-to (goal.at.fill_message-requires c).Start t.here t.invariant.1.0 (edge (goal.at.fill_message-requires c).Start) (omega (arith, t.invariant.0, t.invariant.1.2, c.loop-here-test.false))
    (omega arith) in
    let up : t.here.at ≤ edge (goal.at.fill_message-requires c).Start = omega (arith, t.invariant.0, c.if-edge-here.false) in (
      omega (arith, t.invariant.0, up),
      omega (arith, t.invariant.0, within, t.invariant.2.filled.size),
      omega (arith, t.invariant.0, message-left t.invariant.2 (edge (goal.at.fill_message-requires c).Start) up within cells),
    )

pub returns : goal.returns
returns c =
    let t = c.loop-here in
    let p = t.invariant.1.0 in
    let before : edge (goal.at.returns c).Start ≤ next (goal.at.returns c).Start t.here.passed = omega (arith, t.invariant.0, t.invariant.1.2, c.loop-here-test.false) in
    let inside : t.here.at < edge (goal.at.returns c).Start = omega (arith, t.invariant.0, c.if-edge-here.false) in
    let m = rw t.invariant.0 at c.fill_message.ensures in
    let cells = message-to (goal.at.returns c).Start t.here p (edge (goal.at.returns c).Start) before (omega arith) in (
      message-filled t.invariant.2 (edge (goal.at.returns c).Start) (omega arith) (edge_in (w (goal.at.returns c).Start) c.args.block c.requires.tables.1.0) cells m,
      (
        rw (m.at-is, m.passed_is) (rest-hop (w (goal.at.returns c).Start) c.args.block t.here.at t.here.passed c.requires.tables.1.0 p inside before),
        m.indexed-is
            ∙ t.invariant.1.1,
        m.stop_is ∙ t.invariant.1.2 ∙ ap (next (goal.at.returns c).Start) (sym m.passed_is),
      ),
    )
