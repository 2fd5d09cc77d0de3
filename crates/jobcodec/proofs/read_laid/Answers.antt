-- `read_laid` meets its contract: too few bytes, a buffer of another length, or what the message gives. Assumes nothing.
use mathlib.Core.Path.{sym, ◌∙◌}
use Rattle.codes.proofs.Layouts.{numbers-in}
use Prim.Native.Nat.{ℕ, ◌≤◌}
use native.Mathlib.Omega.{arith}
use lib.ListN.{replicate, length-replicate}
use Rattle.cells.specs.Figures.{max_word}
use Rattle.codes.specs.Given.{coding_in}
use Rattle.jobs.specs.Slots.{entries}
use Rattle.jobcodec.specs.Given.{ReadableJob}
use Rattle.jobcodec.proofs.Calls.{alphabet-few, bytes-are, message-short, ready, read-few, read_length}
use Rattle.jobcodec.proofs.read_laid.Goals as goal
use Rattle.jobcodec.proofs.read_laid.Goals.{Else-payload-count, Start}

pub payload_len-count-requires : goal.payload_len-count-requires
payload_len-count-requires c =
    alphabet-few c.args.layout (entries c.args.table) c.requires

pub returns-then-count-lt-MIN_PAYLOAD : goal.returns-then-count-lt-MIN_PAYLOAD
returns-then-count-lt-MIN_PAYLOAD c =
    sym (read-few c.args.layout (entries c.args.table) c.requires c.args.word.now c.args.payload.now c.payload_len-count.result
    c.payload_len-count.ensures c.if-count-lt-MIN_PAYLOAD.true)

pub returns-then-payload-count : goal.returns-then-payload-count
returns-then-payload-count c =
    let l = c.args.layout in
    let es = entries c.args.table in
    let count = c.payload_len-count.result in
    let e = c.payload_len-count.ensures in
    sym (read_length (coding_in l) es c.args.word.now c.args.payload.now (ready l es c.requires count e (omega (arith, c.if-count-lt-MIN_PAYLOAD.false)))
    (λ d. c.if-payload-count.true (d ∙ sym (bytes-are l es c.requires count e))))

-- what a message in any array may count on
readable : (c : Else-payload-count)
    → (let a = c.args in ReadableJob a.layout (entries a.table) (replicate {A = ℕ} a.layout.message_len 0) a.payload.now)
readable c =
    let l = c.args.layout in
    let es = entries c.args.table in
    let count = c.payload_len-count.result in
    let e = c.payload_len-count.ensures in
    record {
      serves = c.requires.serves;
      ready = ready l es c.requires count e (omega (arith, c.if-count-lt-MIN_PAYLOAD.false));
      room = length-replicate {A = ℕ} l.message_len 0 ∙ (numbers-in l c.requires.serves).len_is;
      lent = c.if-payload-count.false ∙ bytes-are l es c.requires count e;
    }

pub read_in-requires : goal.read_in-requires
read_in-requires c = (omega arith, omega arith, readable (goal.at.read_in-requires c).Else-payload-count)

pub read_in-requires-2 : goal.read_in-requires-2
read_in-requires-2 c =
    (message-short c.args.layout (entries c.args.table) c.requires, omega arith, readable (goal.at.read_in-requires-2 c).Else-payload-count)
