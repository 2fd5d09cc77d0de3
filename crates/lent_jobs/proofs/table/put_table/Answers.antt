-- `put_table` meets its contract: the first i slots are written. Assumes nothing.
use mathlib.Core.Path.{◌≡◌}
use native.Mathlib.Omega.{arith}
use borrow.Author.Rules.{rules}
use lib.ListN.{length}
use Rattle.jobs.specs.Jobs.{slot_count}
use Rattle.jobs.specs.Slots.{entries}
use Rattle.lent_jobs.proofs.TableLaws.{put-none, put-turn}
use Rattle.lent_jobs.proofs.table.put_table.Goals as goal
use Rattle.lent_jobs.proofs.table.put_table.Goals.{Start}

many : (s : Start) → length (entries s.args.table) ≡ slot_count
many s = search rules

pub loop-i-init : goal.loop-i-init
loop-i-init c = put-none (entries c.args.table) (many (goal.at.loop-i-init c).Start) c.args.bytes.now c.requires

pub loop-i-preserved : goal.loop-i-preserved
loop-i-preserved c =
    let l = c.loop-i in
    put-turn (entries c.args.table) (many (goal.at.loop-i-preserved c).Start) l.i _ l.bytes c.put_entry.new.bytes (omega arith) l.invariant
    c.put_entry.ensures
