-- `is_readable_by` meets its contract: no record begins so, or by its length. Assumes nothing.
use mathlib.Core.Path.{sym, ap, ◌∙◌}
use Rattle.records.specs.Bridge.{session_of}
use Rattle.records.specs.Records.{is_whole}
use Rattle.records.proofs.Readable.{begun-readable}
use Rattle.records.proofs.is_readable_by.Goals as goal

pub returns-in-Some : goal.returns-in-Some
returns-in-Some c =
    let bytes = c.args.received.now in
    ap (is_whole bytes) c.in-Some.ensures ∙ sym (begun-readable (session_of c.args.session) bytes)

pub returns-in-None : goal.returns-in-None
returns-in-None c =
    let bytes = c.args.received.now in
    ap (is_whole bytes) c.in-None.ensures ∙ sym (begun-readable (session_of c.args.session) bytes)
