-- `put_table` meets its contract: the first i slots are written. Assumes nothing.
use Rattle.jobs.specs.Slots.{entries}
use Rattle.lent_jobs.proofs.TableLaws.{Put}
use Rattle.lent_jobs.proofs.table.put_table.Given as goal

abbrev pub invariant-loop-i : goal.invariant-loop-i
invariant-loop-i l = Put (entries l.table) l.i l.bytes
