-- `step_on` meets its contract: the end of input, a record too many, one that cannot be read, and one that is served. Assumes nothing.
use mathlib.Core.Path.{sym, subst, ◌∙◌}
use native.Mathlib.Omega.{arith}
use Rattle.transfer.specs.Steps.{Step}
use Rattle.records.specs.Bridge.{session_of}
use Rattle.transfer.specs.Bridge.{Shown}
use Rattle.records.proofs.Readable.{readable-whole}
use Rattle.transfer.proofs.Serving.{step_end, step-many, step-unreadable, step-serves}
use Rattle.transfer.proofs.step_on.Goals as goal

pub returns-then-received-eq0 : goal.returns-then-received-eq0
returns-then-received-eq0 c =
    let a = c.args in
    let done = c.end in
    subst (λ (o : Step). Shown done.result a.line.now done.new.line o)
    (sym (step_end (session_of a.session) a.received.now c.if-received-eq0.true)) done.ensures

pub returns-then-session-ge-MAX_RECORDS : goal.returns-then-session-ge-MAX_RECORDS
returns-then-session-ge-MAX_RECORDS c =
    let a = c.args in
    let done = c.stop in
    subst (λ (o : Step). Shown done.result a.line.now done.new.line o)
    (sym (step-many (session_of a.session) a.received.now c.if-received-eq0.false
    c.if-session-ge-MAX_RECORDS.true)) done.ensures

pub returns-then-not-is_readable_by : goal.returns-then-not-is_readable_by
returns-then-not-is_readable_by c =
    let a = c.args in
    let done = c.stop-then-not-is_readable_by in
    subst (λ (o : Step). Shown done.result a.line.now done.new.line o)
    (sym (step-unreadable (session_of a.session) a.received.now c.if-received-eq0.false
    (omega (arith, c.if-session-ge-MAX_RECORDS.false))
    (sym c.is_readable_by.ensures ∙ c.if-not-is_readable_by.true))) done.ensures

pub serve-requires : goal.serve-requires
serve-requires c =
    let from = session_of c.args.session in
    record {
      ready = record { fewer = omega (arith, c.if-session-ge-MAX_RECORDS.false); room = c.requires.0 };
      knows = c.requires.1;
      whole = readable-whole from c.args.received.now (sym c.is_readable_by.ensures ∙ c.if-not-is_readable_by.false);
    }

pub returns : goal.returns
returns c =
    let a = c.args in
    let done = c.serve in
    subst (λ (o : Step). Shown done.result a.line.now done.new.line o)
    (sym (step-serves (session_of a.session) a.received.now c.if-received-eq0.false
    (omega (arith, c.if-session-ge-MAX_RECORDS.false))
    (sym c.is_readable_by.ensures ∙ c.if-not-is_readable_by.false))) done.ensures
