-- `Params::counted` meets its contract: the calls give p and r, and the laws of laying out the rest. Assumes nothing.
use mathlib.Core.Path.{refl, sym, ap, ◌∙◌}
use Prim.Native.Nat.{ℕ, ◌+◌, ◌-◌, ◌*◌, ◌/◌}
use native.Mathlib.Omega.{arith}
use Rattle.cells.specs.Figures.{least_tail, Params}
use Rattle.construction_a.specs.Outcomes.{figured}
use Rattle.params.specs.Bridge.{given}
use Rattle.params.proofs.Laying.{Parted, in-range, blocks-some, blocks-few, Searched, tail-is, tail-unfit, burst-unfit, Fitted, taken-fits}
use Rattle.params.proofs.Laying.{len_is, figured-as}
use Rattle.params.proofs.Params.counted.Goals as goal
use Rattle.params.proofs.Params.counted.Goals.{After-least_tail-index_tail, After-parts-parts, Else-block_min-index_tail-2, Start}

abbrev start : After-parts-parts → Start
start s = s.before.before.before.before.before

abbrev figures : After-parts-parts → Params
figures s = given (start s).args.self

parted : (s : After-parts-parts) → Parted (figures s) s.parts-parts.result
parted s = record { range = (start s).requires.0; total = (start s).requires.1; counted = omega (arith, (start s).requires.2, (start s).requires.3); p-is = s.parts-parts.ensures }

pub overflow_mul-block_min : goal.overflow_mul-block_min
overflow_mul-block_min c = omega (arith, blocks-few (parted (goal.at.overflow_mul-block_min c).After-parts-parts))

pub nonzero_div-block_min : goal.nonzero_div-block_min
nonzero_div-block_min c = blocks-some (parted (goal.at.nonzero_div-block_min c).After-parts-parts)

pub least_tail-index_tail-requires : goal.least_tail-index_tail-requires
least_tail-index_tail-requires c = omega (arith, (in-range (parted (goal.at.least_tail-index_tail-requires c).After-parts-parts)).q-least)

searched : (s : After-least_tail-index_tail) → Searched (figures s.before) s.parts-parts.result s.least_tail-index_tail.result
searched s =
    let f = figures s.before in
    record {
      parted = parted s.before;
      found = s.least_tail-index_tail.ensures ∙ ap (λ (t : ℕ). least_tail f.q f.m t (f.n / (s.parts-parts.result * f.m))) (start s.before).requires.2;
    }

fitted : (c : Else-block_min-index_tail-2) → Fitted (figures c.before.before.before) c.parts-parts.result c.least_tail-index_tail.result
fitted c = record { searched = searched c.before.before; room = omega (arith, c.if-block_min-index_tail.false); short = omega (arith, c.if-block_min-index_tail-2.false) }

pub overflow_sub-message_len-2 : goal.overflow_sub-message_len-2
overflow_sub-message_len-2 c = taken-fits (fitted (goal.at.overflow_sub-message_len-2 c).Else-block_min-index_tail-2)

pub returns-clause-answer : goal.returns-clause-answer
returns-clause-answer c =
    let t = (start (goal.at.returns-clause-answer c).After-parts-parts).requires.2 in
    let l = c.least_tail-index_tail.result in
    let f = figures (goal.at.returns-clause-answer c).After-parts-parts in ap (λ (x : ℕ). figured x l (f.n - f.m * (f.b + c.parts-parts.result + l - 1))) t ∙ figured-as (fitted (goal.at.returns-clause-answer c).Else-block_min-index_tail-2)

pub returns-clause-layout : goal.returns-clause-layout
returns-clause-layout c =
    let t = (start (goal.at.returns-clause-layout c).After-parts-parts).requires.2 in
    let l = c.least_tail-index_tail.result in
    let f = figures (goal.at.returns-clause-layout c).After-parts-parts in record {
      n-is = refl;
      q-is = refl;
      m-is = refl;
      b-is = refl;
      parts_is = c.parts-parts.ensures;
      count-is = t;
      tail-is = tail-is (searched (goal.at.returns-clause-layout c).After-least_tail-index_tail);
      len_is = len_is (fitted (goal.at.returns-clause-layout c).Else-block_min-index_tail-2);
      spells-is = refl;
    }

pub returns-then-block_min-index_tail-2-clause-answer : goal.returns-then-block_min-index_tail-2-clause-answer
returns-then-block_min-index_tail-2-clause-answer c = sym (burst-unfit (searched (goal.at.returns-then-block_min-index_tail-2-clause-answer c).After-least_tail-index_tail) (omega (arith, c.if-block_min-index_tail-2.true)))

pub returns-then-block_min-index_tail-clause-answer : goal.returns-then-block_min-index_tail-clause-answer
returns-then-block_min-index_tail-clause-answer c = sym (tail-unfit (searched (goal.at.returns-then-block_min-index_tail-clause-answer c).After-least_tail-index_tail) (omega (arith, c.if-block_min-index_tail.true)))
