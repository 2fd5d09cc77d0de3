-- `try_read` meets its contract: what a job is refused with for its table, or what job read answers. Assumes nothing.
use mathlib.Core.Path.{ap, ◌∙◌}
use mathlib.Core.List.{List}
use Rattle.std.proofs.lemmas.Result.{err_from_is_err_and}
use Rattle.codes.specs.Bridge.{coding_of}
use Rattle.jobs.specs.declared.Entry.{Entry}
use Rattle.jobs.specs.Slots.{entries}
use Rattle.jobcodec.specs.JobRead.{job_read_under}
use Rattle.lent_jobs.proofs.JobLaws.{all_seen, read-refused, read_whole}
use Rattle.lent_jobs.proofs.job.try_read.Goals as goal

pub returns-in_err-held : goal.returns-in_err-held
returns-in_err-held c =
    let a = c.args in
    let p = err_from_is_err_and c.from_residual.result c.from_residual.ensures.1 in
    rw (p.1, p.2) (read-refused (coding_of a.figures) a.table.now a.word.now a.payload.now _ c.in_err-held.ensures)

pub returns : goal.returns
returns c =
    let a = c.args in
    let f = coding_of a.figures in
    let lent = c.in_ok-held.ensures in
    all_seen (job_read_under f (entries c.in_ok-held.held) a.word.now a.payload.now)
    c.job_read.ensures.payload c.job_read.ensures.answer
    ∙ ap (λ (es : List Entry). job_read_under f es a.word.now a.payload.now) lent.2
    ∙ read_whole f a.table.now a.word.now a.payload.now lent.0 lent.1
