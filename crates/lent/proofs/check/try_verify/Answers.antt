-- `try_verify` meets its contract: 1, 2, 3 for the bytes of the starts, or the check with the placement that they are. Assumes nothing.
use mathlib.Core.Path.{◌≡◌, refl, sym, ap, ◌∙◌}
use mathlib.Core.Bool.{true}
use Prim.Native.Nat.{◌*◌}
use native.Mathlib.Omega.{arith}
use Rattle.std.specs.Prelude.{Ok}
use Rattle.std.proofs.lemmas.Result.{err_from_is_err_and}
use Rattle.cells.specs.Outcomes.{Coding, Held, held}
use Rattle.codes.specs.Bridge.{coding_of}
use Rattle.codes.specs.Given.{HasNumbers}
use Rattle.codes.proofs.Answered.{laid-learnt}
use Rattle.params.specs.Answer.{Small}
use Rattle.placements.specs.Bridge.{held_as}
use Rattle.verifier.specs.Verify.{verify_under}
use Rattle.lent.proofs.StartLaws.{starts-read}
use Rattle.lent.proofs.CheckLaws.{verify-unfit, verify-length, verify-placed}
use Rattle.lent.proofs.check.try_verify.Goals as goal
use Rattle.lent.proofs.check.try_verify.Goals.{In_ok-layout, Start}

abbrev d : Start → Coding
d s = coding_of s.args.figures

-- the figures fit, and the layout has their numbers
learnt : (c : In_ok-layout) → (let d = coding_of c.args.figures in (d.in_range ≡ true) × (d.fits ≡ true) × HasNumbers d c.in_ok-layout.layout × Small d)
learnt c = laid-learnt c.args.figures (Ok c.in_ok-layout.layout) c.in_ok-layout.layout refl c.in_ok-layout.ensures.answer c.in_ok-layout.ensures.layout

twice : (c : In_ok-layout) → 2 * c.in_ok-layout.layout.m ≡ 2 * (coding_of c.args.figures).bursts
twice c = omega (arith, (learnt c).2.bursts-is)

pub returns-in_err-layout : goal.returns-in_err-layout
returns-in_err-layout c =
    let a = c.args in
    let p = err_from_is_err_and c.from_residual.result c.from_residual.ensures.1 in
    rw (p.1, p.2) (sym (verify-unfit (d (goal.at.returns-in_err-layout c).Start) a.starts.now a.message.now a.word.now _ (sym c.in_err-layout.ensures.answer)))

pub returns-then-starts-layout : goal.returns-then-starts-layout
returns-then-starts-layout c =
    let a = c.args in
    let is = learnt (goal.at.returns-then-starts-layout c).In_ok-layout in
    sym (verify-length (d (goal.at.returns-then-starts-layout c).Start) a.starts.now a.message.now a.word.now is.0 is.1
    (λ e. c.if-starts-layout.true (e ∙ sym (twice (goal.at.returns-then-starts-layout c).In_ok-layout))))

pub placement_at-at-requires : goal.placement_at-at-requires
placement_at-at-requires c =
    let is = learnt (goal.at.placement_at-at-requires c).In_ok-layout in
    (omega (arith, is.2.bursts-is, is.3.bursts-most), omega (arith, c.if-starts-layout.false))

pub returns : goal.returns
returns c =
    let a = c.args in
    let is = learnt (goal.at.returns c).In_ok-layout in
    let size = c.if-starts-layout.false in
    let at = c.placement_at-at in
    c.verify_fitting.ensures
    ∙ ap (λ (d : Coding). verify_under d (held_as at.result) a.message.now a.word.now) c.in_ok-layout.ensures.layout.0
    ∙ ap (λ (h : Held). verify_under (d (goal.at.returns c).Start) h a.message.now a.word.now) (at.ensures ∙ ap held (starts-read a.starts.now c.in_ok-layout.layout.m size))
    ∙ sym (verify-placed (d (goal.at.returns c).Start) a.starts.now a.message.now a.word.now is.0 is.1 (size ∙ twice (goal.at.returns c).In_ok-layout))
