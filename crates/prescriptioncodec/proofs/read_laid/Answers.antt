-- `read_laid` meets its contract: too few bytes, or what the message gives. Assumes nothing.
use mathlib.Core.Path.{◌≡◌, sym, ◌∙◌}
use Prim.Native.Nat.{ℕ, ◌≤◌}
use native.Mathlib.Omega.{arith}
use lib.ListN.{replicate, length-replicate}
use Rattle.cells.specs.Bytes.{payload_len}
use Rattle.cells.specs.Figures.{max_word}
use Rattle.params.specs.Given.{short_word}
use Rattle.jobs.specs.Slots.{entries}
use Rattle.jobcodec.specs.Given.{ReadableJob}
use Rattle.jobcodec.proofs.Calls.{alphabet-few, bytes-are, message-short, ready}
use Rattle.codes.proofs.Layouts.{numbers-in}
use Rattle.prescriptioncodec.proofs.Payload.{payload-within}
use Rattle.prescriptioncodec.proofs.Reading.{read-few}
use Rattle.prescriptioncodec.proofs.read_laid.Goals as goal
use Rattle.prescriptioncodec.proofs.read_laid.Goals.{Else-count-lt-MIN_PAYLOAD, Start}

longest : (s : Start) → s.args.layout.message_len ≤ max_word
longest s = message-short s.args.layout (entries s.args.table) s.requires

-- an array with room for the message has room for the payload
within : (s : Start) (count : ℕ) → count ≡ payload_len s.args.layout.q s.args.layout.message_len → (room : ℕ)
    → s.args.layout.message_len ≤ room → count ≤ room
within s count e room le = omega (arith, payload-within s.args.layout count e, le)

-- what message and payload in any arrays may count on
readable : (c : Else-count-lt-MIN_PAYLOAD) → (let a = c.args in
    ReadableJob a.layout (entries a.table) (replicate {A = ℕ} a.layout.message_len 0) (replicate {A = ℕ} c.payload_len-count.result 0))
readable c =
    let l = c.args.layout in
    let es = entries c.args.table in
    let count = c.payload_len-count.result in
    let e = c.payload_len-count.ensures in
    record {
      serves = c.requires.serves;
      ready = ready l es c.requires count e (omega (arith, c.if-count-lt-MIN_PAYLOAD.false));
      room = length-replicate {A = ℕ} l.message_len 0 ∙ (numbers-in l c.requires.serves).len_is;
      lent = length-replicate {A = ℕ} count 0 ∙ bytes-are l es c.requires count e;
    }

pub payload_len-count-requires : goal.payload_len-count-requires
payload_len-count-requires c = alphabet-few c.args.layout (entries c.args.table) c.requires

pub returns-then-count-lt-MIN_PAYLOAD : goal.returns-then-count-lt-MIN_PAYLOAD
returns-then-count-lt-MIN_PAYLOAD c =
    let len = c.payload_len-count in
    sym (read-few c.args.layout (entries c.args.table) c.args.word.now c.requires len.result len.ensures c.if-count-lt-MIN_PAYLOAD.true)

pub read_in-requires : goal.read_in-requires
read_in-requires c =
    let len = c.payload_len-count in
    let short : c.args.layout.message_len ≤ short_word = omega (arith, c.if-layout-le-SHORT_LEN.true) in
    (short, within (goal.at.read_in-requires c).Start len.result len.ensures short_word short, omega arith, readable (goal.at.read_in-requires c).Else-count-lt-MIN_PAYLOAD)

pub read_in-requires-2 : goal.read_in-requires-2
read_in-requires-2 c =
    let len = c.payload_len-count in
    let long = longest (goal.at.read_in-requires-2 c).Start in
    (long, within (goal.at.read_in-requires-2 c).Start len.result len.ensures max_word long, omega arith, readable (goal.at.read_in-requires-2 c).Else-count-lt-MIN_PAYLOAD)
