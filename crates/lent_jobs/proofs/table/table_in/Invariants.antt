-- `table_in` meets its contract: the first i slots are read. Assumes nothing.
use Rattle.jobs.specs.Slots.{entries}
use Rattle.lent_jobs.proofs.TableLaws.{Read}
use Rattle.lent_jobs.proofs.table.table_in.Given as goal

abbrev pub invariant-loop-i : goal.invariant-loop-i
invariant-loop-i l = Read l.bytes l.i (entries l.table)
