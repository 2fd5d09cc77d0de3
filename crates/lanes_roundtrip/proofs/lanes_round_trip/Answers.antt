-- `lanes_round_trip` meets its contract: figures that don't serve are refused as alone, and the others have a layout. Assumes nothing.
use mathlib.Core.Path.{sym, ap, ◌∙◌}
use Rattle.cells.specs.Outcomes.{Coding}
use Rattle.std.proofs.lemmas.Result.{err_from_is_err_and}
use Rattle.refusals.specs.Numbers.{answer_of}
use Rattle.codes.specs.Bridge.{coding_of}
use Rattle.lanes_roundtrip.specs.LanesRoundTrip.{LanesRoundTrip, lanes_round_trip_under}
use Rattle.lanes_roundtrip.proofs.Chain.{covers-defects}
use Rattle.lanes_roundtrip.proofs.Tests.{trip-unfit}
use Rattle.lanes_roundtrip.proofs.lanes_round_trip.Goals as goal

-- what the layout that was answered gives
pub returns-clause-outcome : goal.returns-clause-outcome
returns-clause-outcome c =
    let a = c.args in
    c.fitting_round_trip.ensures
    ∙ ap (λ (k : Coding). lanes_round_trip_under k a.depth a.map.now a.sent.now a.damage.now a.words.now a.interleaved.now a.read.now)
    c.in_ok-layout.ensures.layout.0

pub returns-clause-covered : goal.returns-clause-covered
returns-clause-covered c =
    let a = c.args in
    let outcome = c.fitting_round_trip.ensures
    ∙ ap (λ (k : Coding). lanes_round_trip_under k a.depth a.map.now a.sent.now a.damage.now a.words.now a.interleaved.now a.read.now)
    c.in_ok-layout.ensures.layout.0 in covers-defects a.figures a.depth a.map.now a.sent.now a.damage.now a.words.now a.interleaved.now a.read.now
    (answer_of c.fitting_round_trip.result) (ap (λ (o : LanesRoundTrip). o.answer) outcome)

pub returns-in_err-layout-clause-outcome : goal.returns-in_err-layout-clause-outcome
returns-in_err-layout-clause-outcome c =
    let a = c.args in
    let p = err_from_is_err_and c.from_residual.result c.from_residual.ensures.1 in
    rw (p.1, p.2)
    (trip-unfit (coding_of a.figures) a.depth a.map.now a.sent.now a.damage.now a.words.now a.interleaved.now
    a.read.now _ (sym c.in_err-layout.ensures.answer))

pub returns-in_err-layout-clause-covered : goal.returns-in_err-layout-clause-covered
returns-in_err-layout-clause-covered c =
    let a = c.args in
    let p = err_from_is_err_and c.from_residual.result c.from_residual.ensures.1 in
    rw (p.1, p.2)
    (covers-defects a.figures a.depth a.map.now a.sent.now a.damage.now a.words.now a.interleaved.now a.read.now _
    (ap (λ (o : LanesRoundTrip). o.answer)
    (trip-unfit (coding_of a.figures) a.depth a.map.now a.sent.now a.damage.now a.words.now a.interleaved.now
    a.read.now _ (sym c.in_err-layout.ensures.answer))))
