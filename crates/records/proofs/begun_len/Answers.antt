-- `begun_len` meets its contract: too short, a wrong mark, or the length by the letter. Assumes nothing.
use mathlib.Core.Path.{sym, ◌∙◌}
use Rattle.records.specs.Bridge.{session_of}
use Rattle.records.proofs.Readable.{begun-short, begun_first, begun-second, begun-both}
use Rattle.records.proofs.begun_len.Goals as goal

pub returns : goal.returns
returns c =
    let a = c.args in
    c.record_len.ensures
    ∙ sym (begun-both (session_of a.session) a.received.now c.if-received-lt-HEAD_LEN.false c.if-received-ne76.false c.if-received-ne84.false)

pub returns-then-received-lt-HEAD_LEN : goal.returns-then-received-lt-HEAD_LEN
returns-then-received-lt-HEAD_LEN c = sym (begun-short (session_of c.args.session) c.args.received.now c.if-received-lt-HEAD_LEN.true)

pub returns-then-received-ne76 : goal.returns-then-received-ne76
returns-then-received-ne76 c = sym (begun_first (session_of c.args.session) c.args.received.now c.if-received-ne76.true)

pub returns-then-received-ne84 : goal.returns-then-received-ne84
returns-then-received-ne84 c =
    sym (begun-second (session_of c.args.session) c.args.received.now c.if-received-ne76.false c.if-received-ne84.true)
