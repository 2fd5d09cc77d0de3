-- `deinterleave_fitting` meets its contract: what is refused, and otherwise the table transposed. Assumes nothing.
use mathlib.Core.Path.{◌≡◌, refl, sym, ap, ◌∙◌}
use Rattle.refusals.specs.Numbers.{answer_of}
use Rattle.std.proofs.lemmas.Result.{err_from_is_err_and}
use Rattle.refusals.proofs.Numbers.{never-served}
use mathlib.Core.List.{List}
use Prim.Native.Nat.{ℕ}
use native.Mathlib.Nat.{mul_comm}
use Rattle.cells.specs.Erasures.{found_bound}
use Rattle.codes.specs.Given.{coding_in}
use Rattle.codes.proofs.Layouts.{found_in}
use Rattle.lanes.specs.Interleaving.{deinterleaved}
use Rattle.lanes.specs.Outcomes.{rearranged}
use Rattle.lanes.proofs.Outcomes.{judged-refused, judged-passed, length-in}
use Rattle.lanes.proofs.deinterleave_fitting.Goals as goal
use Rattle.lanes.proofs.deinterleave_fitting.Goals.{After-judged}

-- the test of the symbols is by the bound of what can be found
told : (c : After-judged) (taken : List ℕ) → (let a = c.args in let k = coding_in a.layout in
    answer_of c.judged.result ≡ (rearranged k a.depth (found_bound a.layout.q) a.strip.now a.words.now taken).answer)
told c taken =
    let a = c.args in
    c.judged.ensures a.words.now taken refl
    ∙ ap (λ (n : ℕ). (rearranged (coding_in a.layout) a.depth n a.strip.now a.words.now taken).answer) c.found_bound.ensures

pub transpose-requires : goal.transpose-requires
transpose-requires c =
    let taken = deinterleaved c.args.depth c.args.layout.n c.args.strip.now in
    let k = coding_in c.args.layout in
    let p = judged-passed k c.args.depth (found_bound c.args.layout.q)
    c.args.strip.now c.args.words.now taken (answer_of c.judged.result) (told (goal.at.transpose-requires c).After-judged taken) (ap answer_of c.in_ok-judged.was) in
    let swap = length-in c.args.layout c.requires c.args.depth ∙ mul_comm c.args.depth c.args.layout.n in
    (record { source = p.lent ∙ swap; room = p.room ∙ swap })

pub returns-in_err-judged : goal.returns-in_err-judged
returns-in_err-judged c =
    let a = c.args in
    let k = coding_in a.layout in
    let taken = deinterleaved a.depth k.codec.word_len a.strip.now in
    let p = err_from_is_err_and c.from_residual.result c.from_residual.ensures.1 in
    rw (p.1, p.2)
    (judged-refused k a.depth k.codec.found_bound a.strip.now a.words.now taken _
    (rw (← found_in a.layout c.requires) at (sym (ap answer_of c.in_err-judged.was) ∙ told (goal.at.returns-in_err-judged c).After-judged taken)) (never-served _))
