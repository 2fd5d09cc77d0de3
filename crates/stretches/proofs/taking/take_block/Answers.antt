-- `take_block` meets its contract: past the head cells, then burst after burst, then the rest. Assumes nothing.
use mathlib.Core.Path.{◌≡◌, refl, sym, ap, ◌∙◌}
use Prim.Native.Nat.{ℕ, suc, ◌+◌, ◌≤◌, ◌<◌}
use native.Mathlib.Numerals.{add-one}
use native.Mathlib.Omega.{arith}
use lib.ListN.{get_or}
use Rattle.cells.specs.Cells.{burst, message}
use Rattle.cells.specs.Plan.{Frame}
use Rattle.placements.specs.Bridge.{starts_in}
use Rattle.blocks.specs.Numbers.{kind_number, kind_numbers}
use Rattle.blocks.specs.declared.Kind.TheVariants.{Fixed}
use Rattle.blocks.proofs.Numbers.{kind-at}
use Rattle.stretches.specs.declared.taking.Taking.{Taking}
use Rattle.stretches.specs.Walk.{frame_by, head_cells, head_len_of, next_start}
use Rattle.stretches.specs.ByBlock.{Past, Cells}
use Rattle.stretches.proofs.ByBlock.{Walkable, walkable, head-len, head-past, Hopped, burst-hop, message-cells, rest-hop, edge_in}
use Rattle.stretches.proofs.GoingOn.{passes, room, passes-head, cells-taken}
use Rattle.stretches.proofs.taking.take_block.Goals as goal
use Rattle.stretches.proofs.taking.take_block.Goals.{Start}

-- ---- What the contract lends

abbrev g : Start → Frame
g s = frame_by s.args.walk s.args.heads.now (kind_numbers s.args.kinds.now) (starts_in s.args.at)

w : (s : Start) → Walkable (g s) s.args.walk.b (starts_in s.args.at)
w s = walkable s.requires.tables.0.walks

-- where the block ends
abbrev edge : Start → ℕ
edge s = get_or s.args.heads.now (suc s.args.block) 0

edge-is : (s : Start) → get_or s.args.heads.now (s.args.block + 1) 0 ≡ edge s
edge-is s = ap (λ (k : ℕ). get_or s.args.heads.now k 0) (add-one s.args.block)

-- the block's head
abbrev len : Start → ℕ
len s = head_len_of s.args.walk (get_or (kind_numbers s.args.kinds.now) s.args.block 0)

len_is : (s : Start) → head_cells (g s) s.args.block ≡ len s
len_is s = head-len s.requires.tables.0.walks s.args.block s.requires.tables.1.0

past : (s : Start) → Past (g s) s.args.walk.b (starts_in s.args.at) s.args.block (s.args.from.at + len s) s.args.from.passed
past s = rw (len_is s) at (head-past (w s) s.args.block s.args.from.at s.args.from.passed s.requires.tables.1.0 s.requires.tables.1.1.0)

-- the next burst, where it starts in the block, and the message before it
abbrev next : Start → ℕ → ℕ
next s i = next_start s.args.walk.n (starts_in s.args.at) i

abbrev PastAt : Start → Taking → Type 0
PastAt s here = Past (g s) s.args.walk.b (starts_in s.args.at) s.args.block here.at here.passed

hop : (s : Start) (here : Taking) → PastAt s here → next s here.passed < edge s
    → Hopped (w s) s.args.block here.at here.passed s.requires.tables.1.0 (next s here.passed)
hop s here = burst-hop (w s) s.args.block here.at here.passed s.requires.tables.1.0

message-to : (s : Start) (here : Taking) → PastAt s here → (to : ℕ) → to ≤ next s here.passed → to ≤ edge s → Cells (g s) message here.at to
message-to s here = message-cells (w s) s.args.block here.at here.passed s.requires.tables.1.0

-- ---- What is left of the code

len-by : (s : Start) → head_len_of s.args.walk (kind_number (get_or s.args.kinds.now s.args.block Fixed)) ≡ len s
len-by s = ap (head_len_of s.args.walk) (sym (kind-at s.args.kinds.now s.args.block))

pub overflow_add-here : goal.overflow_add-here
overflow_add-here c = omega (arith, c.head_cells.ensures, len-by (goal.at.overflow_add-here c).Start, (past (goal.at.overflow_add-here c).Start).between.within, c.requires.tables.0.walks.n-most)

pub loop-here-init : goal.loop-here-init
loop-here-init c =
    let cells = c.head_cells.ensures ∙ len-by (goal.at.loop-here-init c).Start in
    let passed = rw (len_is (goal.at.loop-here-init c).Start) at (passes-head c.requires.tables.0 c.args.block c.args.from.passed c.requires.tables.1.0 c.requires.tables.1.1.0) in
    (edge-is (goal.at.loop-here-init c).Start, c.requires.tables.1.1.1, rw cells (past (goal.at.loop-here-init c).Start), rw cells passed)

pub take_cells-here-requires : goal.take_cells-here-requires
take_cells-here-requires c =
    let t = c.loop-here in
    let p = t.invariant.2 in
    let h = hop (goal.at.take_cells-here-requires c).Start t.here p (omega (arith, t.invariant.0, t.invariant.1, c.loop-here-test.true)) in
    let cells = message-to (goal.at.take_cells-here-requires c).Start t.here p t.here.stop (omega (arith, t.invariant.1)) (omega (arith, t.invariant.0, c.loop-here-test.true)) in
    let up : t.here.at ≤ t.here.stop = omega (arith, t.invariant.1, h.onward) in
    let within : t.here.stop ≤ c.args.walk.n = omega (arith, t.invariant.1, h.ends) in
    (up, omega (arith, within, t.invariant.3.whole), room t.invariant.3 t.here.stop up within cells)

pub pass_burst-here-requires : goal.pass_burst-here-requires
pass_burst-here-requires c =
    let t = c.loop-here in
    let h = hop (goal.at.pass_burst-here-requires c).Start t.here t.invariant.2 (omega (arith, t.invariant.0, t.invariant.1, c.loop-here-test.true)) in
    let m = c.take_cells-here.ensures in
    (c.requires.tables.0.walks.bursts, omega (arith, m.at-is, t.invariant.1, h.ends), omega (arith, m.passed_is, h.number, c.requires.tables.0.walks.bursts.count))

pub loop-here-smaller : goal.loop-here-smaller
loop-here-smaller c =
    let t = c.loop-here in
    let h = hop (goal.at.loop-here-smaller c).Start t.here t.invariant.2 (omega (arith, t.invariant.0, t.invariant.1, c.loop-here-test.true)) in
    omega (
      arith,
      c.take_cells-here.ensures.passed_is,
      c.pass_burst-here.ensures.passed.2,
      h.number,
      c.requires.tables.0.walks.bursts.count,
    )

pub loop-here-preserved : goal.loop-here-preserved
loop-here-preserved c =
    let t = c.loop-here in
    let p = t.invariant.2 in
    let h = hop (goal.at.loop-here-preserved c).Start t.here p (omega (arith, t.invariant.0, t.invariant.1, c.loop-here-test.true)) in
    let cells = message-to (goal.at.loop-here-preserved c).Start t.here p t.here.stop (omega (arith, t.invariant.1))
    (omega (arith, t.invariant.0, c.loop-here-test.true)) in
    let m = c.take_cells-here.ensures in
    let u = c.pass_burst-here.ensures.passed in
    let stop = next (goal.at.loop-here-preserved c).Start t.here.passed in
    let at-stop : c.take_cells-here.result.at ≡ stop = m.at-is ∙ t.invariant.1 in
    let here : c.pass_burst-here.result.at ≡ stop + c.args.walk.b = omega (arith, u.0, at-stop) in
    let count : c.pass_burst-here.result.passed ≡ t.here.passed + 1 = omega (arith, u.2, m.passed_is) in
    let taken = rw at-stop at (cells-taken t.invariant.3 t.here.stop (omega (arith, t.invariant.1, h.onward)) (omega (arith, t.invariant.1, h.ends)) cells m) in (
      t.invariant.0,
      c.pass_burst-here.ensures.stop,
      rw (here, count) h.past,
      rw (here, u.1) (passes taken (stop + c.args.walk.b) (omega arith) h.ends burst h.cells refl),
    )

pub take_cells-requires : goal.take_cells-requires
take_cells-requires c =
    let t = c.loop-here in
    let within = edge_in (w (goal.at.take_cells-requires c).Start) c.args.block c.requires.tables.1.0 in
    let cells = message-to (goal.at.take_cells-requires c).Start t.here t.invariant.2 (edge (goal.at.take_cells-requires c).Start) (omega (arith, t.invariant.0, t.invariant.1, c.loop-here-test.false)) (omega arith) in
    let up : t.here.at ≤ edge (goal.at.take_cells-requires c).Start = omega (arith, t.invariant.0, c.if-edge-here.false) in
    (omega (arith, t.invariant.0, up), omega (arith, t.invariant.0, within, t.invariant.3.whole), omega (arith, t.invariant.0, room t.invariant.3 (edge (goal.at.take_cells-requires c).Start) up within cells))

pub returns : goal.returns
returns c =
    let t = c.loop-here in
    let p = t.invariant.2 in
    let before : edge (goal.at.returns c).Start ≤ next (goal.at.returns c).Start t.here.passed = omega (arith, t.invariant.0, t.invariant.1, c.loop-here-test.false) in
    let inside : t.here.at < edge (goal.at.returns c).Start = omega (arith, t.invariant.0, c.if-edge-here.false) in
    let m = rw t.invariant.0 at c.take_cells.ensures in
    let cells = message-to (goal.at.returns c).Start t.here p (edge (goal.at.returns c).Start) before (omega arith) in (
      cells-taken t.invariant.3 (edge (goal.at.returns c).Start) (omega arith) (edge_in (w (goal.at.returns c).Start) c.args.block c.requires.tables.1.0) cells m,
      (
        rw (m.at-is, m.passed_is) (rest-hop (w (goal.at.returns c).Start) c.args.block t.here.at t.here.passed c.requires.tables.1.0 p inside before),
        m.stop_is ∙ t.invariant.1
            ∙ ap (next (goal.at.returns c).Start) (sym m.passed_is),
      ),
    )
