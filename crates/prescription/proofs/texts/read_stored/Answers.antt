-- `read_stored` meets its contract: either eye can be refused, and then the distance. Assumes nothing.
use Rattle.std.proofs.Common.{◌∙◌}
use Rattle.prescription.specs.Stored.{lens_in, fields_at, byte_at}
use Rattle.prescription.proofs.Reading.{eye-read, both_read}
use Rattle.prescription.proofs.texts.read_stored.Goals as goal

pub returns : goal.returns
returns c =
    let t = c.args.text.now in
    let r = lens_in (fields_at t 0) in
    let l = lens_in (fields_at t 6) in
    c.with_distance.ensures
    ∙ both_read r l c.in_ok-right.right c.in_ok-left.left (byte_at t 12)
    (eye-read r c.in_ok-right.right c.in_ok-right.ensures) (eye-read l c.in_ok-left.left c.in_ok-left.ensures)
