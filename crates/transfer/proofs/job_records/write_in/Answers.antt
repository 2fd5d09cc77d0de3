-- `write_in` meets its contract: the first places of the array hold 0. Assumes nothing.
use mathlib.Core.Path.{refl}
use Rattle.std.proofs.Common.{ℕ, take, replicate}
use Rattle.codes.specs.Given.{coding_in}
use Rattle.placements.specs.Bridge.{held_as}
use Rattle.jobs.specs.Slots.{entries}
use Rattle.transfer.proofs.Serving.{zeros, put-write}
use Rattle.transfer.proofs.job_records.write_in.Goals as goal

pub returns : goal.returns
returns g c =
    let a = c.args in
    let n = a.layout.n in
    let d = coding_in a.layout in
    let put = c.write_word in
    put-write put.result a.line.now put.new.line (entries a.table) d d (held_as a.at) (held_as a.at) a.payload.now a.payload.now
    (take {A = ℕ} n (replicate g.row.ROOM 0)) (replicate {A = ℕ} n 0) refl refl refl (zeros n g.row.ROOM c.requires.1) put.ensures
