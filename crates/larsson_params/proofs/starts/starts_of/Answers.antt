-- `starts_of` meets its contract: the first i sub-blocks have their entries. Assumes nothing.
use mathlib.Core.Path.{◌≡◌, sym, ap, ◌∙◌}
use Prim.Native.Nat.{ℕ, ◌+◌, ◌*◌, ◌≤◌}
use native.Mathlib.Numerals.{add-one}
use native.Mathlib.Omega.{arith}
use lib.ListN.{length, get_or, length-set}
use lib.Seq.{get_or-set_same, get_or-set_other}
use Rattle.combinatorics.proofs.Members.{filled_on}
use Rattle.larsson.specs.Figures.{sub_start}
use Rattle.cells.proofs.Figures.{Ranged}
use Rattle.larsson_params.specs.Given.{larsson_figures_of}
use Rattle.larsson_params.proofs.Shape.{bound, start_is, sub-room}
use Rattle.larsson_params.proofs.starts.starts_of.Goals as goal
use Rattle.larsson_params.proofs.starts.starts_of.Goals.{After-piece_start, Start}

limits : (s : Start) → Ranged (larsson_figures_of s.args.layout)
limits s = bound s.args.layout s.requires

-- the entry of sub-block i
entry : (c : After-piece_start)
    → (let l = c.args.layout in
    c.loop-i.i * l.sub_len + c.piece_start.result ≡ sub_start (larsson_figures_of l) c.loop-i.i)
entry c =
    let l = c.args.layout in
    ap (λ (y : ℕ). c.loop-i.i * l.sub_len + y) c.piece_start.ensures ∙ start_is l c.requires c.loop-i.i

small : (c : After-piece_start)
    → (let l = c.args.layout in c.loop-i.i * l.sub_len + c.piece_start.result ≤ l.n)
small c =
    let l = c.args.layout in
    omega (arith, entry c, sub-room l c.requires c.loop-i.i (omega (arith, c.loop-i-test.true)))

pub overflow_mul-gaps : goal.overflow_mul-gaps
overflow_mul-gaps c = omega (arith, limits (goal.at.overflow_mul-gaps c).Start)

pub overflow_add-sub_blocks : goal.overflow_add-sub_blocks
overflow_add-sub_blocks c = omega (arith, limits (goal.at.overflow_add-sub_blocks c).Start)

pub overflow_mul-start : goal.overflow_mul-start
overflow_mul-start c =
    let l = c.args.layout in
    omega (
      arith,
      start_is l c.requires c.loop-i.i,
      sub-room l c.requires c.loop-i.i
          (omega (arith, c.loop-i-test.true)),
      limits (goal.at.overflow_mul-start c).Start,
    )

pub piece_start-requires : goal.piece_start-requires
piece_start-requires c = (omega (arith, limits (goal.at.piece_start-requires c).Start), omega (arith, c.loop-i-test.true))

pub overflow_add-start : goal.overflow_add-start
overflow_add-start c = omega (arith, small (goal.at.overflow_add-start c).After-piece_start, limits (goal.at.overflow_add-start c).Start)

pub overflow_cast-starts : goal.overflow_cast-starts
overflow_cast-starts c = omega (arith, small (goal.at.overflow_cast-starts c).After-piece_start, limits (goal.at.overflow_cast-starts c).Start)

pub offset_bounds-starts-i : goal.offset_bounds-starts-i
offset_bounds-starts-i c = omega (arith, c.loop-i-test.true, limits (goal.at.offset_bounds-starts-i c).Start)

pub bounds-starts-i : goal.bounds-starts-i
bounds-starts-i c = omega (arith, c.loop-i-test.true, limits (goal.at.bounds-starts-i c).Start)

pub loop-i-preserved : goal.loop-i-preserved
loop-i-preserved c =
    let l = c.args.layout in
    let n = c.loop-i.invariant.0 in (
      simp length-set n,
      filled_on (λ x v. v ≡ sub_start (larsson_figures_of l) x) c.loop-i.starts c.loop-i.i (c.loop-i.i * l.sub_len + c.piece_start.result)
          (omega (arith, n, c.loop-i-test.true, limits (goal.at.loop-i-preserved c).Start)) c.loop-i.invariant.1 (entry (goal.at.loop-i-preserved c).After-piece_start),
    )

pub overflow_cast-starts-2 : goal.overflow_cast-starts-2
overflow_cast-starts-2 c = omega (arith, limits (goal.at.overflow_cast-starts-2 c).Start)

pub offset_bounds-starts-sub_blocks : goal.offset_bounds-starts-sub_blocks
offset_bounds-starts-sub_blocks c = omega (arith, limits (goal.at.offset_bounds-starts-sub_blocks c).Start)

pub bounds-starts-sub_blocks : goal.bounds-starts-sub_blocks
bounds-starts-sub_blocks c = omega (arith, limits (goal.at.bounds-starts-sub_blocks c).Start)

pub returns : goal.returns
returns c =
    let l = c.args.layout in
    let all : c.loop-i.i ≡ 2 * l.m + 1 = omega (arith, c.loop-i-test.false) in
    let behind = 2 * l.m + 1 in (
      λ i h. get_or-set_other c.loop-i.starts behind i l.n 0 (λ e. absurd (omega arith)) ∙ c.loop-i.invariant.1 i (omega arith),
      ap (λ (y : ℕ). get_or (lib.ListN.set c.loop-i.starts behind l.n) y 0) (sym (add-one (2 * l.m)))
          ∙ get_or-set_same c.loop-i.starts behind l.n 0 (omega (arith, c.loop-i.invariant.0, limits (goal.at.returns c).Start)),
    )
