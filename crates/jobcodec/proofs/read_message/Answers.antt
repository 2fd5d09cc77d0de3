-- `read_message` meets its contract: a refused word's number is passed through, and an accepted word's message goes on. Assumes nothing.
use mathlib.Core.Path.{◌≡◌, refl, sym, ap, ◌∙◌}
use mathlib.Core.List.{List}
use Prim.Native.Nat.{ℕ}
use borrow.Author.Rules.{rules}
use lib.ListN.{length}
use Rattle.cells.specs.Outcomes.{decode_under}
use Rattle.codes.specs.Given.{coding_in}
use Rattle.codes.proofs.Layouts.{numbers-in}
use Rattle.jobs.specs.Slots.{entries}
use Rattle.payloads.specs.Payload.{payload_in}
use Rattle.std.specs.Prelude.{Result, Ok, Err}
use Rattle.std.proofs.lemmas.Result.{MatchResult-at_err}
use Rattle.refusals.specs.Numbers.{answer_of}
use Rattle.refusals.specs.declared.Refusal.{Refusal}
use Rattle.decoder.specs.Answer.{answer_as}
use Rattle.jobcodec.specs.Given.{spelled_answer}
use Rattle.jobcodec.specs.JobRead.{withhold, job_of_payload, job_in, job_read_under}
use Rattle.jobcodec.proofs.Outcomes.{after_spelled, spelled-decodes, read-decodes, holding}
use Rattle.jobcodec.proofs.read_message.Goals as goal
use Rattle.jobcodec.proofs.read_message.Goals.{Start}

-- the job reading is what is made of the word's answer
spelled : (s : Start) (r said : Result ℕ Refusal) (ms : List ℕ) → r ≡ said
    → answer_as r ≡ spelled_answer s.args.layout.q (length s.args.message.now)
    (decode_under (coding_in s.args.layout) s.args.word.now s.args.message.now)
    → ms ≡ (decode_under (coding_in s.args.layout) s.args.word.now s.args.message.now).message
    → (let q = s.args.layout.q in let k = (coding_in s.args.layout).codec.message_len_of in let es = entries s.args.table in let out =
    s.args.payload.now in
    job_read_under (coding_in s.args.layout) es s.args.word.now out
    ≡ after_spelled (withhold out) (λ ds. job_of_payload es out (payload_in q k ds)) (answer_as said) ms)
spelled s r said ms is e lent =
    let l = s.args.layout in
    let d = coding_in l in
    let q = (numbers-in l s.requires.serves).alphabet-is in
    let es = entries s.args.table in
    let w = s.args.word.now in
    let out = s.args.payload.now in
    read-decodes d es w out s.requires.ready s.requires.lent
    ∙ spelled-decodes (withhold out) (λ ds. job_of_payload es out (payload_in d.codec.alphabet d.codec.message_len_of ds)) d w
    (job_in d.codec.alphabet d.codec.message_len_of es out) (λ a. refl) (λ ss ds. refl)
    s.args.message.now ms s.requires.ready.range s.requires.ready.fit s.requires.room r said is
    (e ∙ ap (λ (x : ℕ). spelled_answer x (length s.args.message.now) (decode_under d w s.args.message.now)) q) lent
    ∙ ap (λ (x : ℕ). after_spelled (withhold out) (λ ds. job_of_payload es out (payload_in x d.codec.message_len_of ds)) (answer_as said) ms) (sym q)

pub returns-in_default : goal.returns-in_default
returns-in_default c =
    let d = c.read_spelled-answer in
    ap (withhold c.args.payload.now)
    (ap answer_of (MatchResult-at_err _ (λ e. c.map.result ≡ Err e) c.in_default.field-0 c.in_default.is c.map.ensures.cases))
    ∙ sym (spelled (goal.at.returns-in_default c).Start d.result _ d.new.message c.in_default.is d.ensures.answer d.ensures.message)

pub hand_out-requires : goal.hand_out-requires
hand_out-requires c =
    let d = c.read_spelled-answer in
    holding c.requires c.args.word.now d.new.message (search rules) d.ensures.message c.in-Ok.field-0 (ap answer_as (sym c.in-Ok.is) ∙ d.ensures.answer)

pub returns : goal.returns
returns c =
    let d = c.read_spelled-answer in
    let same : length d.new.message ≡ (coding_in c.args.layout).codec.message_len_of = search (rules, c.requires.room) in
    rw (spelled (goal.at.returns c).Start d.result _ d.new.message c.in-Ok.is d.ensures.answer d.ensures.message, ← same) c.hand_out.ensures
