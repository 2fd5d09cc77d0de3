-- `may_move` meets its contract, refusal by refusal. Assumes nothing.
use mathlib.Core.Path.{◌≡◌, sym, ap, ◌∙◌}
use mathlib.Core.List.{List}
use Prim.Native.Nat.{ℕ}
use Rattle.jobs.specs.declared.Entry.{Entry}
use Rattle.jobs.specs.Jobs.{is_job, needs_open}
use Rattle.jobs.specs.Slots.{entries}
use Rattle.jobs.specs.Table.{standing, lookup}
use Rattle.payloads.specs.Payload.{job_number}
use Rattle.jobcodec.specs.JobWrite.{job_status}
use Rattle.std.proofs.lemmas.Result.{err_from_is_err_and}
use Rattle.refusals.proofs.Numbers.{never-served}
use Rattle.moving.proofs.Tests.{not-open, surplus, no-job, moves}
use Rattle.moving.proofs.may_move.Goals as goal

-- what is asked of the table is asked of the payload's number
told : (es : List Entry) (y : List ℕ) {number r : ℕ} → number ≡ job_number y → r ≡ needs_open (standing (lookup es number)) → r ≡ needs_open (job_status es y)
told es y e h = h ∙ ap (λ (x : ℕ). needs_open (standing (lookup es x))) e

pub returns-in_err-needs_open : goal.returns-in_err-needs_open
returns-in_err-needs_open c =
    let is = told (entries c.args.table) c.args.payload.now c.job_number-number.ensures c.in_err-needs_open.ensures in
    let p = err_from_is_err_and c.from_residual.result c.from_residual.ensures.1 in
    rw (p.1, p.2) (is ∙ sym (not-open (entries c.args.table) c.args.room c.args.payload.now (λ e. never-served _ (is ∙ e))))

pub returns-then-not-has_room : goal.returns-then-not-has_room
returns-then-not-has_room c =
    let is = told (entries c.args.table) c.args.payload.now c.job_number-number.ensures c.in_ok-needs_open.ensures in
    sym (surplus (entries c.args.table) c.args.room c.args.payload.now (sym is)
    (sym c.has_room.ensures ∙ c.if-not-has_room.true))

pub returns-then-not-is_job : goal.returns-then-not-is_job
returns-then-not-is_job c =
    let is = told (entries c.args.table) c.args.payload.now c.job_number-number.ensures c.in_ok-needs_open.ensures in
    sym (no-job (entries c.args.table) c.args.room c.args.payload.now (sym is)
    (sym c.has_room.ensures ∙ c.if-not-has_room.false)
    (ap is_job (sym c.job_number-number.ensures) ∙ sym c.is_job.ensures ∙ c.if-not-is_job.true))

pub returns : goal.returns
returns c =
    let is = told (entries c.args.table) c.args.payload.now c.job_number-number.ensures c.in_ok-needs_open.ensures in
    sym (moves (entries c.args.table) c.args.room c.args.payload.now (sym is)
    (sym c.has_room.ensures ∙ c.if-not-has_room.false)
    (ap is_job (sym c.job_number-number.ensures) ∙ sym c.is_job.ensures ∙ c.if-not-is_job.false))
