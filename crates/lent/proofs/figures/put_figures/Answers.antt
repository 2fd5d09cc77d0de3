-- `put_figures` meets its contract: 1, 2, 3, or the four numbers of the layout, which are its code's. Assumes nothing.
use mathlib.Core.Path.{◌≡◌, refl, sym, ap, ◌∙◌}
use mathlib.Core.Bool.{true}
use native.Mathlib.Omega.{arith}
use Rattle.std.specs.Prelude.{Ok}
use Rattle.std.proofs.lemmas.Result.{err_from_is_err_and}
use Rattle.refusals.specs.Refusals.{served}
use Rattle.cells.specs.Outcomes.{Coding}
use Rattle.codes.specs.Bridge.{coding_of}
use Rattle.codes.specs.Given.{HasNumbers}
use Rattle.codes.proofs.Answered.{laid-learnt}
use Rattle.params.specs.Answer.{Small}
use Rattle.lent.specs.Figures.{figures_lent}
use Rattle.lent.proofs.FiguresLaws.{lent-unfit, lent_length, lent-served, layout-numbers}
use Rattle.lent.proofs.figures.put_figures.Goals as goal
use Rattle.lent.proofs.figures.put_figures.Goals.{In_ok-layout, Start}

abbrev d : Start → Coding
d s = coding_of s.args.figures

-- the figures fit, and the layout has their numbers
learnt : (c : In_ok-layout) → (let d = coding_of c.args.figures in (d.in_range ≡ true) × (d.fits ≡ true) × HasNumbers d c.in_ok-layout.layout × Small d)
learnt c = laid-learnt c.args.figures (Ok c.in_ok-layout.layout) c.in_ok-layout.layout refl c.in_ok-layout.ensures.answer c.in_ok-layout.ensures.layout

pub returns-in_err-layout : goal.returns-in_err-layout
returns-in_err-layout c =
    let p = err_from_is_err_and c.from_residual.result c.from_residual.ensures.1 in
    rw (p.1, p.2) (sym (lent-unfit (d (goal.at.returns-in_err-layout c).Start) c.args.out.now _ (sym c.in_err-layout.ensures.answer)))

pub returns-then-out-ne-FIGURES : goal.returns-then-out-ne-FIGURES
returns-then-out-ne-FIGURES c =
    let is = learnt (goal.at.returns-then-out-ne-FIGURES c).In_ok-layout in
    sym (lent_length (d (goal.at.returns-then-out-ne-FIGURES c).Start) c.args.out.now is.0 is.1 c.if-out-ne-FIGURES.true)

pub payload_len-requires : goal.payload_len-requires
payload_len-requires c =
    let is = learnt (goal.at.payload_len-requires c).In_ok-layout in
    omega (arith, is.2.alphabet-is, is.3.alphabet-most)

pub returns : goal.returns
returns c =
    let is = learnt (goal.at.returns c).In_ok-layout in
    ap (figures_lent served)
    (c.copy_from_slice.ensures.after
    ∙ layout-numbers (d (goal.at.returns c).Start) c.in_ok-layout.layout is.2 c.placement_count.result c.index_tail.result c.payload_len.result
    c.placement_count.ensures c.index_tail.ensures c.payload_len.ensures)
    ∙ sym (lent-served (d (goal.at.returns c).Start) c.args.out.now is.0 is.1 c.if-out-ne-FIGURES.false)
