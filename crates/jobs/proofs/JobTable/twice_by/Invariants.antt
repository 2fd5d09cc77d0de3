-- `JobTable::twice_by` meets its contract. The invariant: from slot `i` on no number is held twice, and each has its mark. Assumes nothing.
use Rattle.jobs.specs.Slots.{entries}
use Rattle.jobs.proofs.Marks.{Marked}
use Rattle.jobs.proofs.JobTable.twice_by.Given as goal

abbrev pub invariant-loop-i : goal.invariant-loop-i
invariant-loop-i l = Marked (entries l.self) l.marks l.i
