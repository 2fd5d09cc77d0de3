-- `all_covered` meets its contract: the lanes so far are covered, and those behind them are left. Assumes nothing.
use mathlib.Core.Path.{◌≡◌, sym, ap, ◌∙◌}
use mathlib.Core.List.{List}
use mathlib.Core.Bool.{not}
use Prim.Native.Nat.{ℕ}
use lib.Dec.{eqb}
use Rattle.std.specs.Result.{is_err}
use native.Mathlib.Omega.{arith}
use Rattle.refusals.specs.Refusals.{served}
use Rattle.cells.specs.Outcomes.{Covered, cover_under}
use Rattle.codes.specs.Given.{coding_in}
use Rattle.lanes_roundtrip.proofs.Covering.{covers, passes_on, fails-here, none_left}
use Rattle.lanes_roundtrip.proofs.Filling.{part-is-lane}
use Rattle.lanes_roundtrip.proofs.lane_by_lane.all_covered.Goals as goal
use Rattle.lanes_roundtrip.proofs.lane_by_lane.all_covered.Goals.{After-cover_fitting}
use Rattle.lanes_roundtrip.proofs.lane_by_lane.all_covered.Invariants.{is_covered}

-- whether the lane is covered is what covering answers
answer-is : (c : After-cover_fitting) → is_covered c.args.layout c.args.maps.now c.loop-j.j ≡ not (is_err c.cover_fitting.result)
answer-is c =
    let a = c.args in
    sym (ap (λ (o : Covered). eqb o.answer served) c.cover_fitting.ensures
    ∙ ap (λ (map : List ℕ). eqb (cover_under (coding_in a.layout) map).answer served) (part-is-lane a.layout.n c.loop-j.j a.maps.now))
    ∙ covers c.cover_fitting.result

pub returns-then-is_err : goal.returns-then-is_err
returns-then-is_err c =
    let a = c.args in
    let p = is_covered a.layout a.maps.now in
    sym (c.loop-j.invariant ∙ fails-here p a.depth c.loop-j.j (omega arith)
    (answer-is (goal.at.returns-then-is_err c).After-cover_fitting ∙ ap not (sym c.is_err.ensures.value ∙ c.if-is_err.true)))

pub loop-j-preserved : goal.loop-j-preserved
loop-j-preserved c =
    let a = c.args in
    let p = is_covered a.layout a.maps.now in
    c.loop-j.invariant ∙ passes_on p a.depth c.loop-j.j (omega arith)
    (answer-is (goal.at.loop-j-preserved c).After-cover_fitting ∙ ap not (sym c.is_err.ensures.value ∙ c.if-is_err.false))

pub returns : goal.returns
returns c =
    let a = c.args in
    sym (c.loop-j.invariant ∙ none_left (is_covered a.layout a.maps.now) a.depth c.loop-j.j (omega arith))
