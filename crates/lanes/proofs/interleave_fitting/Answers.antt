-- `interleave_fitting` meets its contract: what is refused, and otherwise the table transposed. Assumes nothing.
use mathlib.Core.Path.{refl, ◌∙◌}
use Rattle.codes.specs.Given.{coding_in}
use Rattle.codes.proofs.Layouts.{numbers-in}
use Rattle.lanes.specs.Interleaving.{interleaved}
use Rattle.lanes.proofs.Outcomes.{judged-refused, judged-passed, length-in}
use Rattle.std.proofs.lemmas.Result.{err_from_is_err_and}
use Rattle.refusals.proofs.Numbers.{never-served}
use Rattle.refusals.specs.Refusals.{served}
use Rattle.lanes.proofs.interleave_fitting.Goals as goal

pub transpose-requires : goal.transpose-requires
transpose-requires c =
    let laid = interleaved c.args.depth c.args.layout.n c.args.words.now in
    let k = coding_in c.args.layout in
    let told = c.in_ok-judged.ensures c.args.strip.now laid refl in
    let p = judged-passed k c.args.depth c.args.layout.q
    c.args.words.now c.args.strip.now laid served told refl in
    let own = length-in c.args.layout c.requires c.args.depth in
    (record { source = p.lent ∙ own; room = p.room ∙ own })

pub returns-in_err-judged : goal.returns-in_err-judged
returns-in_err-judged c =
    let a = c.args in
    let k = coding_in a.layout in
    let laid = interleaved a.depth k.codec.word_len a.words.now in
    let p = err_from_is_err_and c.from_residual.result c.from_residual.ensures.1 in
    let q = (numbers-in a.layout c.requires).alphabet-is in
    rw (p.1, p.2)
    (judged-refused k a.depth k.codec.alphabet a.words.now a.strip.now laid _ (rw q at (c.in_err-judged.ensures a.strip.now laid refl)) (never-served _))
