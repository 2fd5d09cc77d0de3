-- `replay` meets its contract. Assumes nothing.
use Rattle.refusals.specs.Numbers.{answer_of}
use mathlib.Core.Path.{ap, ◌∙◌}
use native.Mathlib.Omega.{arith}
use Rattle.refusals.specs.Refusals.{wrong_length, bad_record}
use Rattle.jobs.specs.Table.{TableOut}
use Rattle.jobs.specs.Slots.{entries}
use Rattle.ledger.proofs.ReplayLaws.{turned-away, numbers-unfit, answers-unfit, letter-unknown, calls-served, meets}
use Rattle.ledger.proofs.Turns.{all_known}
use Rattle.ledger.proofs.replay.Goals as goal

pub make_calls-requires : goal.make_calls-requires
make_calls-requires c =
    record {
      numbers_fit = c.if-numbers-letters.false;
      answers-fit = c.if-answers-letters.false;
      known-letters = all_known c.args.letters.now c.all_letters.ensures ∙ c.if-not-all_letters.false;
    }

pub returns-clause-ledger : goal.returns-clause-ledger
returns-clause-ledger c =
    let a = c.args in (meets (entries a.table) a.letters.now a.numbers.now a.answers.now c.make_calls.result _
    (c.make_calls.ensures
    ∙ calls-served (entries a.table) a.letters.now a.numbers.now a.answers.now
    (record {
      numbers_fit = c.if-numbers-letters.false;
      answers-fit = c.if-answers-letters.false;
      known-letters = all_known c.args.letters.now c.all_letters.ensures ∙ c.if-not-all_letters.false;
    }))).1

pub returns-clause-outcome : goal.returns-clause-outcome
returns-clause-outcome c =
    let a = c.args in (meets (entries a.table) a.letters.now a.numbers.now a.answers.now c.make_calls.result _
    (c.make_calls.ensures
    ∙ calls-served (entries a.table) a.letters.now a.numbers.now a.answers.now
    (record {
      numbers_fit = c.if-numbers-letters.false;
      answers-fit = c.if-answers-letters.false;
      known-letters = all_known c.args.letters.now c.all_letters.ensures ∙ c.if-not-all_letters.false;
    }))).0

pub returns-then-answers-letters-clause-outcome : goal.returns-then-answers-letters-clause-outcome
returns-then-answers-letters-clause-outcome c =
    let a = c.args in (meets (entries a.table) a.letters.now a.numbers.now a.answers.now c.refuse-then-answers-letters.result a.answers.now
    (turned-away c.refuse-then-answers-letters.result (entries a.table) wrong_length a.answers.now (c.refuse-then-answers-letters.ensures answer_of)
    ∙ answers-unfit (entries a.table) a.letters.now a.numbers.now a.answers.now c.if-numbers-letters.false c.if-answers-letters.true)).0

pub returns-then-not-all_letters-clause-outcome : goal.returns-then-not-all_letters-clause-outcome
returns-then-not-all_letters-clause-outcome c =
    let a = c.args in (meets (entries a.table) a.letters.now a.numbers.now a.answers.now c.refuse-then-not-all_letters.result a.answers.now
    (turned-away c.refuse-then-not-all_letters.result (entries a.table) bad_record a.answers.now (c.refuse-then-not-all_letters.ensures answer_of)
    ∙ letter-unknown (entries a.table) a.letters.now a.numbers.now a.answers.now c.if-numbers-letters.false
    c.if-answers-letters.false
    (all_known c.args.letters.now c.all_letters.ensures ∙ c.if-not-all_letters.true))).0

pub returns-then-numbers-letters-clause-outcome : goal.returns-then-numbers-letters-clause-outcome
returns-then-numbers-letters-clause-outcome c =
    let a = c.args in (meets (entries a.table) a.letters.now a.numbers.now a.answers.now c.refuse.result a.answers.now
    (turned-away c.refuse.result (entries a.table) wrong_length a.answers.now (c.refuse.ensures answer_of)
    ∙ numbers-unfit (entries a.table) a.letters.now a.numbers.now a.answers.now c.if-numbers-letters.true)).0

pub returns-then-numbers-letters-clause-ledger : goal.returns-then-numbers-letters-clause-ledger
returns-then-numbers-letters-clause-ledger c = λ before agrees is.
    absurd (omega (arith, ap (λ (o : TableOut). o.answer) (c.refuse.ensures answer_of), is))

pub returns-then-answers-letters-clause-ledger : goal.returns-then-answers-letters-clause-ledger
returns-then-answers-letters-clause-ledger c = λ before agrees is.
    absurd (omega (arith, ap (λ (o : TableOut). o.answer) (c.refuse-then-answers-letters.ensures answer_of), is))

pub returns-then-not-all_letters-clause-ledger : goal.returns-then-not-all_letters-clause-ledger
returns-then-not-all_letters-clause-ledger c = λ before agrees is.
    absurd (omega (arith, ap (λ (o : TableOut). o.answer) (c.refuse-then-not-all_letters.ensures answer_of), is))
