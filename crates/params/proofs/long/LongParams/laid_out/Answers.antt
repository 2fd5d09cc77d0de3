-- `LongParams::laid_out` meets its contract: the search gives r, and the laws of laying out the rest. Assumes nothing.
use mathlib.Core.Path.{refl, sym}
use Prim.Native.Nat.{◌/◌, ◌≤◌, ◌<◌}
use native.Mathlib.Omega.{arith}
use Rattle.construction_b.specs.Figures.{LongParams, parts}
use Rattle.construction_b.proofs.Figures.{ranged}
use Rattle.params.specs.Bridge.{given_long}
use Rattle.params.proofs.LongLaying.{count-is, burst-unfit, tail-is, tail-unfit, len_is, figured-as}
use Rattle.params.proofs.long.LongParams.laid_out.Goals as goal
use Rattle.params.proofs.long.LongParams.laid_out.Goals.{Start}

abbrev figures : Start → LongParams
figures s = given_long s.args.self

pub least_tail-index_tail-requires : goal.least_tail-index_tail-requires
least_tail-index_tail-requires c =
    omega (arith, (ranged (figures (goal.at.least_tail-index_tail-requires c).Start) c.requires).q-least)

pub returns-clause-answer : goal.returns-clause-answer
returns-clause-answer c =
    let f = figures (goal.at.returns-clause-answer c).Start in
    let t = c.least_tail-index_tail in
    let l = c.if-block_min-index_tail.false in
    let b = c.if-block_min-b.false in
    let short : f.b ≤ f.n / parts = omega (arith, b) in
    let room : t.result < f.n / parts = omega (arith, l) in figured-as f c.requires t.result t.ensures short room

pub returns-clause-layout : goal.returns-clause-layout
returns-clause-layout c =
    let f = figures (goal.at.returns-clause-layout c).Start in
    let t = c.least_tail-index_tail in
    let l = c.if-block_min-index_tail.false in
    let b = c.if-block_min-b.false in
    let short : f.b ≤ f.n / parts = omega (arith, b) in
    let room : t.result < f.n / parts = omega (arith, l) in record {
      n-is = refl;
      q-is = refl;
      m-is = refl;
      b-is = refl;
      parts_is = refl;
      count-is = count-is f;
      tail-is = tail-is f c.requires t.result t.ensures;
      len_is = len_is f c.requires t.result t.ensures short room;
      spells-is = refl;
    }

pub returns-then-block_min-b-clause-answer : goal.returns-then-block_min-b-clause-answer
returns-then-block_min-b-clause-answer c =
    sym (burst-unfit (figures (goal.at.returns-then-block_min-b-clause-answer c).Start) c.requires c.if-block_min-b.true)

pub returns-then-block_min-index_tail-clause-answer : goal.returns-then-block_min-index_tail-clause-answer
returns-then-block_min-index_tail-clause-answer c =
    let t = c.least_tail-index_tail in
    sym (tail-unfit (figures (goal.at.returns-then-block_min-index_tail-clause-answer c).Start) c.requires t.result t.ensures (omega (arith, c.if-block_min-b.false)) c.if-block_min-index_tail.true)
