-- `index_read` meets its contract, pattern by pattern. Assumes nothing.
use mathlib.Core.Path.{◌≡◌, sym, ap, ◌∙◌}
use mathlib.Core.Bool.{Bool, not}
use mathlib.Core.List.{List}
use mathlib.Core.Option.{none, some}
use Prim.Native.Nat.{ℕ}
use native.Mathlib.Omega.{arith}
use lib.ListN.{length}
use Rattle.combinatorics.specs.Stretch.{has}
use Rattle.construction_a.specs.Figures.{parts}
use Rattle.construction_a.specs.Writing.{row}
use Rattle.cells.specs.Round.{later}
use Rattle.construction_a.specs.Reading.{looks_fixed, bare_parts, index_found}
use Rattle.params.specs.declared.Layout.{Layout}
use Rattle.params.specs.Given.{figures_of, Shaped}
use Rattle.heads.specs.Patterns.{index_in}
use Rattle.heads.proofs.Listed.{candidates-below, count-is, found-whole, found_none, found-few, found-each}
use Rattle.heads.proofs.Looking.{parted, part-fits}
use Rattle.heads.proofs.pattern.index_read.Goals as goal
use Rattle.heads.proofs.pattern.index_read.Goals.{In-None}

abbrev Looks : Layout → List ℕ → ℕ → Bool
Looks l w = looks_fixed (figures_of l) w

abbrev Bare : Layout → List ℕ → List ℕ
Bare l w = bare_parts l.parts l.m (Looks l w)

by_parts : (l : Layout) (w : List ℕ) → Shaped l → index_found l.parts l.m (Looks l w) ≡ index_found (parts (figures_of l)) l.m (Looks l w)
by_parts l w h = ap (λ (p : ℕ). index_found p l.m (Looks l w)) h.parts_is

pub later-requires : goal.later-requires
unfolding bare_parts
later-requires c =
    let l = c.args.layout in
    candidates-below c.bare_parts-bare.result l.parts (λ i. not (has l.m 0 (row l.m (Looks l c.args.word.now) i))) c.bare_parts-bare.ensures
    (parted l c.requires.0.layout).some-parts

pub whole_part-requires : goal.whole_part-requires
whole_part-requires c =
    let h = c.requires.0.layout in
    ((parted c.args.layout h).few-blocks, part-fits c.args.layout h c.in-Some.part c.in-Some.ensures.below)

pub returns-in-Some : goal.returns-in-Some
returns-in-Some c =
    let l = c.args.layout in
    ap some c.whole_part.ensures
    ∙ sym (found-whole l.parts l.m (Looks l c.args.word.now) c.in-Some.part (sym (c.in-Some.ensures.later (Bare l c.args.word.now) c.bare_parts-bare.ensures)))
    ∙ by_parts l c.args.word.now c.requires.0.layout

-- ---- No part is singled out

no_part : (c : In-None) → later c.args.layout.parts (Bare c.args.layout c.args.word.now) ≡ none
no_part c = sym (c.in-None.ensures.later (Bare c.args.layout c.args.word.now) c.bare_parts-bare.ensures)

bare-count : (c : In-None) → c.bare_parts-bare.result.count ≡ length (Bare c.args.layout c.args.word.now)
bare-count c = count-is c.bare_parts-bare.result (Bare c.args.layout c.args.word.now) c.bare_parts-bare.ensures

pub returns-then-bare-ne0 : goal.returns-then-bare-ne0
returns-then-bare-ne0 c =
    let l = c.args.layout in
    sym (found_none l.parts l.m (Looks l c.args.word.now) (no_part (goal.at.returns-then-bare-ne0 c).In-None) (λ z. c.if-bare-ne0.true (bare-count (goal.at.returns-then-bare-ne0 c).In-None ∙ z)))
    ∙ by_parts l c.args.word.now c.requires.0.layout

pub returns-then-m-le2 : goal.returns-then-m-le2
returns-then-m-le2 c =
    let l = c.args.layout in
    sym (found-few l.parts l.m (Looks l c.args.word.now) (no_part (goal.at.returns-then-m-le2 c).In-None) (omega (arith, bare-count (goal.at.returns-then-m-le2 c).In-None)) (omega arith))
    ∙ by_parts l c.args.word.now c.requires.0.layout

pub returns-else-m-le2 : goal.returns-else-m-le2
returns-else-m-le2 c =
    let l = c.args.layout in
    ap (λ (y : ℕ). index_in y c.one_each.result) (sym ((parted l c.requires.0.layout).alike (omega arith))) ∙ c.one_each.ensures
    ∙ sym (found-each l.parts l.m (Looks l c.args.word.now) (no_part (goal.at.returns-else-m-le2 c).In-None) (omega (arith, bare-count (goal.at.returns-else-m-le2 c).In-None)) (omega arith))
    ∙ by_parts l c.args.word.now c.requires.0.layout
