-- `counted` meets its contract: the search gives R, and the laws of laying out the rest. Assumes nothing.
use mathlib.Core.Path.{◌≡◌, refl, sym, ap, ◌∙◌}
use Prim.Native.Nat.{ℕ, ◌+◌, ◌-◌, ◌*◌, ◌^◌, ◌≤◌}
use native.Mathlib.Nat.{div-le_self}
use native.Mathlib.Omega.{arith}
use lib.Dec.{leb}
use Rattle.combinatorics.specs.Stretch.{first}
use Rattle.cells.specs.Cut.{piece_len}
use Rattle.cells.specs.Outcomes.{figured}
use Rattle.cells.proofs.Cut.{len-most}
use Rattle.cells.specs.Figures.{Params}
use Rattle.params.specs.Bridge.{given}
use Rattle.larsson_params.proofs.Laying.{Searched, in-range, sub_is, blocks-unfit, blocks-fit, gaps-is, burst-unfit, taken-fits, len_is, figured-as}
use Rattle.larsson_params.proofs.counted.Goals as goal
use Rattle.larsson_params.proofs.counted.Goals.{After-least_factors-sub_len, After-piece_len, Else-n-m, Else-piece_len-b, Start}

abbrev start : After-least_factors-sub_len → Start
start s = s.before.before.before.before.before

abbrev figures : After-least_factors-sub_len → Params
figures s = given (start s).args.given

searched : (s : After-least_factors-sub_len) → Searched (figures s) s.least_factors-sub_len.result
searched s =
    let f = figures s in
    record {
      range = (start s).requires.0;
      total = (start s).requires.1;
      counted = omega (arith, (start s).requires.2, (start s).requires.3);
      found = s.least_factors-sub_len.ensures ∙ ap (λ (t : ℕ). first f.n 0 (λ x. leb t (1 * f.q ^ x))) (start s).requires.2;
    }

room : (c : Else-n-m) → (2 * (figures c.before).m + 1) * c.least_factors-sub_len.result ≤ (figures c.before).n
room c = blocks-fit (searched c.before) (omega (arith, c.if-n-m.false))

pub piece_len-requires : goal.piece_len-requires
piece_len-requires c = omega (arith, (in-range (searched (goal.at.piece_len-requires c).After-least_factors-sub_len)).m-least)

-- the shortest gap, as it was worked out
shortest : (c : After-piece_len)
    → (c.piece_len.result ≡ piece_len ((figures c.before.before).n - (2 * (figures c.before.before).m + 1) * c.least_factors-sub_len.result) (2 * (figures c.before.before).m) 0)
shortest c = c.piece_len.ensures

pub overflow_add-piece_len : goal.overflow_add-piece_len
overflow_add-piece_len c =
    let f = figures (goal.at.overflow_add-piece_len c).After-least_factors-sub_len in
    let t = f.n - (2 * f.m + 1) * c.least_factors-sub_len.result in
    omega (arith, shortest (goal.at.overflow_add-piece_len c).After-piece_len, len-most t (2 * f.m) 0, div-le_self t (2 * f.m), (in-range (searched (goal.at.overflow_add-piece_len c).After-least_factors-sub_len)).n-most)

short : (c : Else-piece_len-b)
    → ((figures c.before.before.before).b ≤ piece_len ((figures c.before.before.before).n - (2 * (figures c.before.before.before).m + 1) * c.least_factors-sub_len.result) (2 * (figures c.before.before.before).m) 0 + 1)
short c = omega (arith, shortest c.before, c.if-piece_len-b.false)

pub overflow_sub-result-2 : goal.overflow_sub-result-2
overflow_sub-result-2 c = omega (arith, taken-fits (searched (goal.at.overflow_sub-result-2 c).After-least_factors-sub_len) (room (goal.at.overflow_sub-result-2 c).Else-n-m) (short (goal.at.overflow_sub-result-2 c).Else-piece_len-b))

pub returns-clause-answer : goal.returns-clause-answer
returns-clause-answer c =
    let h = searched (goal.at.returns-clause-answer c).After-least_factors-sub_len in
    let t = (start (goal.at.returns-clause-answer c).After-least_factors-sub_len).requires.2 in
    let f = figures (goal.at.returns-clause-answer c).After-least_factors-sub_len in
    let r = c.least_factors-sub_len.result in
    let fits = room (goal.at.returns-clause-answer c).Else-n-m in ap (λ (x : ℕ). figured x r (f.n - f.m * f.b - (f.m + 1) * r)) t ∙ figured-as h fits (short (goal.at.returns-clause-answer c).Else-piece_len-b)

pub returns-clause-layout : goal.returns-clause-layout
returns-clause-layout c =
    let h = searched (goal.at.returns-clause-layout c).After-least_factors-sub_len in
    let t = (start (goal.at.returns-clause-layout c).After-least_factors-sub_len).requires.2 in
    let f = figures (goal.at.returns-clause-layout c).After-least_factors-sub_len in
    let r = c.least_factors-sub_len.result in
    let fits = room (goal.at.returns-clause-layout c).Else-n-m in record {
      n-is = refl;
      q-is = refl;
      m-is = refl;
      b-is = refl;
      count-is = t;
      sub_is = sub_is h;
      gaps-is = gaps-is h;
      len_is = len_is h fits (short (goal.at.returns-clause-layout c).Else-piece_len-b);
    }

pub returns-then-n-m-clause-answer : goal.returns-then-n-m-clause-answer
returns-then-n-m-clause-answer c = sym (blocks-unfit (searched (goal.at.returns-then-n-m-clause-answer c).After-least_factors-sub_len) c.if-n-m.true)

pub returns-then-piece_len-b-clause-answer : goal.returns-then-piece_len-b-clause-answer
returns-then-piece_len-b-clause-answer c = sym (burst-unfit (searched (goal.at.returns-then-piece_len-b-clause-answer c).After-least_factors-sub_len) (omega (arith, shortest (goal.at.returns-then-piece_len-b-clause-answer c).After-piece_len, c.if-piece_len-b.true)))
