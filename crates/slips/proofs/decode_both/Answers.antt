-- `decode_both` meets its contract: both words are read by `decode`, and the claim is that of its outcomes. Assumes nothing.
use Rattle.slips.proofs.Reading.{reads_as}
use Rattle.slips.proofs.decode_both.Goals as goal

pub returns-clause-claim : goal.returns-clause-claim
returns-clause-claim c =
    let a = c.args in
    let first = c.decode-first.ensures.outcome in
    let second = c.decode-second.ensures.outcome in
    reads_as a.figures a.strip.now a.altered.now a.message.now a.changed.now first second
