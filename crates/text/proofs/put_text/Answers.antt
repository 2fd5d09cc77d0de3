-- `put_text` meets its contract. Assumes nothing.
use Rattle.text.proofs.Line.{part-put}
use Rattle.text.proofs.put_text.Goals as goal

pub returns-clause-line : goal.returns-clause-line
returns-clause-line c = part-put c.args.at c.args.text.now c.args.line.now c.copy_from_slice.new.self c.copy_from_slice.ensures.after
