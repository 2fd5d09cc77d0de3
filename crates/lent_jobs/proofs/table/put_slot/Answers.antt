-- `put_slot` meets its contract. Assumes nothing.
use Rattle.lent_jobs.proofs.TableLaws.{slot-put}
use Rattle.lent_jobs.proofs.table.put_slot.Goals as goal

pub returns : goal.returns
returns c =
    let call = c.spell_value in
    slot-put c.args.state c.args.number c.args.bytes.now call.new.symbols c.requires call.ensures
