-- `decode_offset` meets its contract: 8, 9, or what the burst's start gives. Assumes nothing.
use Rattle.refusals.specs.Numbers.{number_of}
use mathlib.Core.Path.{◌≡◌, sym, ap, ◌∙◌}
use Prim.Native.Nat.{ℕ, ◌+◌, ◌-◌, ◌≤◌, ◌<◌}
use native.Mathlib.Omega.{arith}
use Rattle.combinatorics.specs.Bursts.{rank_of}
use Rattle.cells.specs.Outcomes.{decoded_from}
use Rattle.construction_b.specs.Figures.{LongParams, parts, head_of, part_len}
use Rattle.construction_b.specs.Reading.{before, written, end_at, read_part}
use Rattle.construction_b.proofs.Figures.{rank-is}
use Rattle.params.specs.Given.{figures_of, long_of, LongLayoutFits}
use Rattle.params.specs.declared.Layout.{Layout}
use Rattle.params.proofs.LongFitting.{long-shaped}
use Rattle.params.proofs.Shape.{bound, long}
use Rattle.placements.specs.Bridge.{starts_in}
use Rattle.decoder.specs.Reader.{read_message}
use Rattle.decoder.proofs.Started.{before-lt, part-head, part-end-is, part-among, part-within, value-is, too_long, before-word, started, long-read}
use Rattle.decoder.proofs.Started.{start-room, start-counts, start-starts, start-valid, start-placing, start-is-held}
use Rattle.decoder.proofs.offset.decode_offset.Goals as goal
use Rattle.decoder.proofs.offset.decode_offset.Goals.{After-block_head-next, After-unrank-placement, Else-end-layout, Else-next-head, Start}

abbrev l : Start → Layout
l s = s.args.layout

abbrev f : Start → LongParams
f s = long_of (figures_of s.args.layout)

abbrev g : (s : Start) → LongLayoutFits (l s)
g s = s.requires.0.fitting

-- the part that has the burst's end
ends-lt : (s : Start) → before s.args.part < parts
ends-lt s = before-lt s.args.part (omega (arith, s.requires.0.among, (g s).laid.parts_is))

pub block_head-head-requires : goal.block_head-head-requires
block_head-head-requires c =
    (long-shaped (l (goal.at.block_head-head-requires c).Start) (g (goal.at.block_head-head-requires c).Start), c.requires.1, part-among (l (goal.at.block_head-head-requires c).Start) (g (goal.at.block_head-head-requires c).Start) c.part_before-ends.result (omega (arith, c.part_before-ends.ensures, ends-lt (goal.at.block_head-head-requires c).Start)))

pub overflow_add-ends : goal.overflow_add-ends
overflow_add-ends c = omega (arith, c.part_before-ends.ensures, ends-lt (goal.at.overflow_add-ends c).Start)

pub block_head-next-requires : goal.block_head-next-requires
block_head-next-requires c = (
  long-shaped (l (goal.at.block_head-next-requires c).Start) (g (goal.at.block_head-next-requires c).Start),
  c.requires.1,
  part-among (l (goal.at.block_head-next-requires c).Start) (g (goal.at.block_head-next-requires c).Start) (c.part_before-ends.result + 1)
      (omega (arith, c.part_before-ends.ensures, ends-lt (goal.at.block_head-next-requires c).Start)),
)

-- where it starts, and how long it is
head_at : (c : After-block_head-next) → c.block_head-head.result ≡ head_of (f (goal.at.After-block_head-next c).Start)
    (before c.args.part)
head_at c =
    c.block_head-head.ensures ∙ part-head (l (goal.at.After-block_head-next c).Start) (g (goal.at.After-block_head-next c).Start) c.part_before-ends.result
    ∙ ap (head_of (f (goal.at.After-block_head-next c).Start)) c.part_before-ends.ensures

next-at : (c : After-block_head-next) → c.block_head-next.result ≡ c.block_head-head.result + part_len (f (goal.at.After-block_head-next c).Start)
    (before c.args.part)
next-at c =
    let e = c.part_before-ends.result in
    c.block_head-next.ensures ∙ part-end-is (l (goal.at.After-block_head-next c).Start) (g (goal.at.After-block_head-next c).Start) e ∙ ap (λ (e : ℕ). head_of (f (goal.at.After-block_head-next c).Start) e + part_len (f (goal.at.After-block_head-next c).Start) e) c.part_before-ends.ensures
    ∙ ap (λ (h : ℕ). h + part_len (f (goal.at.After-block_head-next c).Start) (before c.args.part)) (sym (head_at c))

pub overflow_sub-next : goal.overflow_sub-next
overflow_sub-next c = omega (arith, next-at (goal.at.overflow_sub-next c).After-block_head-next)

pub returns-then-next-head : goal.returns-then-next-head
returns-then-next-head c =
    c.unread.ensures number_of c.args.message.now
    ∙ sym (ap (decoded_from (l (goal.at.returns-then-next-head c).Start).b c.args.message.now)
    (too_long (l (goal.at.returns-then-next-head c).Start) (g (goal.at.returns-then-next-head c).Start) c.args.word.now c.args.part c.args.value c.requires.0.spelled
    (omega (arith, c.if-next-head.true, next-at (goal.at.returns-then-next-head c).After-block_head-next))))

-- ---- A value below its length

below : (c : Else-next-head) → c.args.value < part_len (f (goal.at.Else-next-head c).Start) (before c.args.part)
below c = omega (arith, c.if-next-head.false, next-at (goal.at.Else-next-head c).After-block_head-next)

value-at : (c : Else-next-head) → c.args.value ≡ written (f (goal.at.Else-next-head c).Start) c.args.word.now c.args.part
value-at c =
    value-is (l (goal.at.Else-next-head c).Start) (g (goal.at.Else-next-head c).Start) c.args.word.now c.args.part c.args.value c.requires.0.spelled (below c)

end-at : (c : Else-next-head) → c.block_head-head.result + c.args.value + 1 ≡ end_at (f (goal.at.Else-next-head c).Start) (before c.args.part)
    c.args.value
unfolding end_at
end-at c = omega (arith, head_at (goal.at.Else-next-head c).After-block_head-next)

-- it is within the word
end-within : (c : Else-next-head) → c.block_head-head.result + c.args.value + 1 ≤ (l (goal.at.Else-next-head c).Start).n
end-within c = omega (arith, head_at (goal.at.Else-next-head c).After-block_head-next, below c, part-within (l (goal.at.Else-next-head c).Start) (g (goal.at.Else-next-head c).Start) (before c.args.part) (ends-lt (goal.at.Else-next-head c).Start))

pub returns-then-end-layout : goal.returns-then-end-layout
returns-then-end-layout c =
    let w = c.args.word.now in
    let out = c.args.message.now in
    let e = before c.args.part in
    c.unread-then-end-layout.ensures number_of out
    ∙ sym (ap (decoded_from (l (goal.at.returns-then-end-layout c).Start).b out) (ap (read_part (f (goal.at.returns-then-end-layout c).Start) w e) (sym (value-at (goal.at.returns-then-end-layout c).Else-next-head))
    ∙ before-word (l (goal.at.returns-then-end-layout c).Start) (g (goal.at.returns-then-end-layout c).Start) w e c.args.value (below (goal.at.returns-then-end-layout c).Else-next-head) (omega (arith, c.if-end-layout.true, end-at (goal.at.returns-then-end-layout c).Else-next-head))))

-- ---- The burst's start

abbrev at : Else-end-layout → ℕ
at c = c.block_head-head.result + c.args.value + 1 - (l (goal.at.Else-end-layout c).Start).b

inside : (c : Else-end-layout) → at c + (l (goal.at.Else-end-layout c).Start).b ≤ (l (goal.at.Else-end-layout c).Start).n
inside c = omega (arith, c.if-end-layout.false, end-within (goal.at.Else-end-layout c).Else-next-head)

pub overflow_cast-layout : goal.overflow_cast-layout
overflow_cast-layout c = omega (arith, (bound (l (goal.at.overflow_cast-layout c).Start) (long-shaped (l (goal.at.overflow_cast-layout c).Start) (g (goal.at.overflow_cast-layout c).Start))).n-most)

pub overflow_cast-layout-3 : goal.overflow_cast-layout-3
overflow_cast-layout-3 c =
    omega (arith, (bound (l (goal.at.overflow_cast-layout-3 c).Start) (long-shaped (l (goal.at.overflow_cast-layout-3 c).Start) (g (goal.at.overflow_cast-layout-3 c).Start))).n-most, long (l (goal.at.overflow_cast-layout-3 c).Start) (long-shaped (l (goal.at.overflow_cast-layout-3 c).Start) (g (goal.at.overflow_cast-layout-3 c).Start)))

pub unrank-placement-requires : goal.unrank-placement-requires
unrank-placement-requires c =
    let counts = start-counts (l (goal.at.unrank-placement-requires c).Start) (g (goal.at.unrank-placement-requires c).Start) in
    (start-room (l (goal.at.unrank-placement-requires c).Start) (g (goal.at.unrank-placement-requires c).Start), counts.0, counts.1 (at (goal.at.unrank-placement-requires c).Else-end-layout) (inside (goal.at.unrank-placement-requires c).Else-end-layout))

pub kinds_of-kinds-requires : goal.kinds_of-kinds-requires
kinds_of-kinds-requires c =
    (start-placing (l (goal.at.kinds_of-kinds-requires c).Start) (g (goal.at.kinds_of-kinds-requires c).Start) (at (goal.at.kinds_of-kinds-requires c).Else-end-layout) c.unrank-placement.result (inside (goal.at.kinds_of-kinds-requires c).Else-end-layout) c.unrank-placement.ensures, c.requires.1)

-- what is left to read goes by its placement
placed : (c : After-unrank-placement) → read_part (f (goal.at.After-unrank-placement c).Start)
    c.args.word.now
    (before c.args.part)
    c.args.value
    ≡ read_message (l (goal.at.After-unrank-placement c).Start)
    c.args.word.now (starts_in c.unrank-placement.result)
placed c =
    let w = c.args.word.now in
    let e = before c.args.part in
    let p = c.unrank-placement.result in
    let ends = end-at (goal.at.After-unrank-placement c).Else-next-head in
    started (l (goal.at.After-unrank-placement c).Start) (g (goal.at.After-unrank-placement c).Start) w e c.args.value (below (goal.at.After-unrank-placement c).Else-next-head) (at (goal.at.After-unrank-placement c).Else-end-layout) (ap (λ (x : ℕ). x - (l (goal.at.After-unrank-placement c).Start).b) ends)
    (omega (arith, c.if-end-layout.false, ends)) (start-valid (l (goal.at.After-unrank-placement c).Start) (g (goal.at.After-unrank-placement c).Start) (at (goal.at.After-unrank-placement c).Else-end-layout) p (inside (goal.at.After-unrank-placement c).Else-end-layout) c.unrank-placement.ensures)
    ∙ ap (read_message (l (goal.at.After-unrank-placement c).Start) w) (sym (start-starts (l (goal.at.After-unrank-placement c).Start) (g (goal.at.After-unrank-placement c).Start) (at (goal.at.After-unrank-placement c).Else-end-layout) p (inside (goal.at.After-unrank-placement c).Else-end-layout) c.unrank-placement.ensures))

pub decode_placed-requires : goal.decode_placed-requires
decode_placed-requires c =
    let un = c.unrank-placement in
    let p = un.result in (
      record {
        lent = c.requires.0.lent;
        placing = start-placing (l (goal.at.decode_placed-requires c).Start) (g (goal.at.decode_placed-requires c).Start) (at (goal.at.decode_placed-requires c).Else-end-layout) p (inside (goal.at.decode_placed-requires c).Else-end-layout) un.ensures;
        is_held = start-is-held (l (goal.at.decode_placed-requires c).Start) (g (goal.at.decode_placed-requires c).Start) (at (goal.at.decode_placed-requires c).Else-end-layout) p (inside (goal.at.decode_placed-requires c).Else-end-layout) un.ensures;
        ranked = sym (ap (rank_of (l (goal.at.decode_placed-requires c).Start).b) (start-starts (l (goal.at.decode_placed-requires c).Start) (g (goal.at.decode_placed-requires c).Start) (at (goal.at.decode_placed-requires c).Else-end-layout) p (inside (goal.at.decode_placed-requires c).Else-end-layout) un.ensures) ∙ rank-is (f (goal.at.decode_placed-requires c).Start) (at (goal.at.decode_placed-requires c).Else-end-layout));
        read-as = long-read (l (goal.at.decode_placed-requires c).Start) (g (goal.at.decode_placed-requires c).Start) c.args.word.now c.args.part c.args.value c.requires.0.index (value-at (goal.at.decode_placed-requires c).Else-next-head)
            ∙ placed (goal.at.decode_placed-requires c).After-unrank-placement;
      },
      (c.requires.1, c.kinds_of-kinds.ensures),
    )

pub returns : goal.returns
returns c =
    rw (← value-at (goal.at.returns c).Else-next-head, placed (goal.at.returns c).After-unrank-placement) c.decode_placed.ensures
