-- `read_payload` meets its contract: the line by what job read answers; a payload that is handed out has a job number. Assumes nothing.
use native.Mathlib.Omega.{arith}
use Rattle.codes.specs.Given.{coding_in}
use Rattle.jobs.specs.Slots.{entries}
use Rattle.transfer.proofs.Serving.{read_number}
use mathlib.Core.Path.{sym, ap}
use Rattle.jobcodec.specs.JobRead.{JobRead}
use Rattle.transfer.proofs.job_records.read_payload.Goals as goal

pub put_payload-requires : goal.put_payload-requires
put_payload-requires c =
    let a = c.args in
    let job = c.job_read in
    let number = read_number (coding_in a.layout) (entries a.table) a.word.now a.payload.now
    (ap (λ (x : JobRead). x.answer) (sym c.in-Ok.ensures)) in
    (c.requires.0, omega (arith, c.requires.1, job.auto.payload), omega (arith, number, job.auto.payload))
