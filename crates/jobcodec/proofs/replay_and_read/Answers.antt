-- `replay_and_read` meets its contract: the table follows the ledger, and the reading under it is what demand 3 claims. Assumes nothing.
use mathlib.Core.Path.{◌≡◌, sym, ap, subst, ◌∙◌}
use Rattle.refusals.specs.Refusals.{served}
use Rattle.codes.specs.Bridge.{coding_of}
use Rattle.ledger.specs.Replay.{calls_of, replayed}
use Rattle.jobs.specs.Slots.{entries}
use Rattle.jobcodec.specs.JobRead.{job_read_under}
use Rattle.jobcodec.specs.DemandThree.{Claim}
use Rattle.jobcodec.specs.Given.{seen}
use Rattle.jobcodec.proofs.DemandThree.{follows-figures}
use Rattle.jobcodec.proofs.Calls.{list-refused, list-goes-on}
use Rattle.std.proofs.lemmas.Result.{err_from_is_err_and}
use Rattle.refusals.specs.Numbers.{answer_of}
use Rattle.refusals.proofs.Numbers.{never-served}
use Rattle.jobcodec.proofs.replay_and_read.Goals as goal

pub returns-clause-claim : goal.returns-clause-claim
returns-clause-claim c =
    let a = c.args in
    let d = coding_of a.figures in
    let r = c.replay-made in
    let j = c.job_read in
    let accepted : answer_of r.result.answer ≡ served = ap answer_of c.in_ok-made.was in
    let answers = r.new.answers in
    let es = entries r.result.table in
    let calls = calls_of a.letters.now a.numbers.now in
    let read : seen (answer_of j.result) j.new.payload ≡ job_read_under d es a.word.now a.payload.now =
    rw (j.ensures.answer, j.ensures.payload) in λ before agrees. subst (Claim d before calls a.word.now a.payload.now answers) (sym read)
    (follows-figures a.figures before calls answers es a.word.now a.payload.now (r.ensures.ledger before agrees accepted))

pub returns-clause-outcome : goal.returns-clause-outcome
returns-clause-outcome c =
    let a = c.args in
    let d = coding_of a.figures in
    let r = c.replay-made in
    let j = c.job_read in
    let accepted : answer_of r.result.answer ≡ served = ap answer_of c.in_ok-made.was in
    let answers = r.new.answers in
    let es = entries r.result.table in
    let calls = calls_of a.letters.now a.numbers.now in
    let read : seen (answer_of j.result) j.new.payload ≡ job_read_under d es a.word.now a.payload.now =
    rw (j.ensures.answer, j.ensures.payload) in list-goes-on d (entries a.table) a.letters.now a.numbers.now a.answers.now a.word.now a.payload.now
    (replayed r.result answers) r.ensures.outcome (seen (answer_of j.result) j.new.payload) accepted read

pub returns-in_err-made-clause-outcome : goal.returns-in_err-made-clause-outcome
returns-in_err-made-clause-outcome c =
    let a = c.args in
    let r = c.replay-made in
    let p = err_from_is_err_and c.from_residual.result c.from_residual.ensures.1 in
    rw (p.1, p.2, ← ap answer_of c.in_err-made.was)
    (list-refused (coding_of a.figures) (entries a.table) a.letters.now a.numbers.now a.answers.now a.word.now a.payload.now
    (replayed r.result r.new.answers) r.ensures.outcome (λ e. never-served _ (sym (ap answer_of c.in_err-made.was) ∙ e)))
