-- `read_in` meets its contract: the first places of the array hold 0. Assumes nothing.
use mathlib.Core.Path.{refl}
use Rattle.std.proofs.Common.{ℕ, take, replicate}
use Rattle.codes.specs.Given.{coding_in}
use Rattle.jobs.specs.Slots.{entries}
use Rattle.transfer.proofs.Serving.{zeros, put-read}
use Rattle.transfer.proofs.job_records.read_in.Goals as goal

pub returns : goal.returns
returns g c =
    let a = c.args in
    let d = coding_in a.layout in
    let read = c.read_payload in
    put-read read.result a.line.now read.new.line (entries a.table) d d a.word.now a.word.now
    (take {A = ℕ} a.count (replicate g.row.ROOM 0)) (replicate {A = ℕ} a.count 0) refl refl (zeros a.count g.row.ROOM c.requires.1) read.ensures
