-- `table_in` meets its contract: the first i slots are read. Assumes nothing.
use native.Mathlib.Omega.{arith}
use Rattle.jobs.specs.Slots.{entries}
use Rattle.lent_jobs.proofs.TableLaws.{read_none, entry-is, read-turn, read_all}
use Rattle.lent_jobs.proofs.table.table_in.Goals as goal

pub loop-i-init : goal.loop-i-init
loop-i-init c = read_none c.args.bytes.now (entries c.empty-table.result) c.empty-table.ensures.table

pub loop-i-preserved : goal.loop-i-preserved
loop-i-preserved c =
    let bs = c.args.bytes.now in
    let l = c.loop-i in
    read-turn bs l.table l.i c.entry_of.result (omega arith) l.invariant
    (entry-is bs l.i c.job_number-number.result c.entry_of.result c.job_number-number.ensures c.entry_of.ensures)

pub returns : goal.returns
returns c =
    let l = c.loop-i in
    read_all c.args.bytes.now l.i (entries l.table) (omega arith) l.invariant
