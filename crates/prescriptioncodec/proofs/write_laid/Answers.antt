-- `write_laid` meets its contract, refusal by refusal, and then writes the payload as a job's. Assumes nothing.
use mathlib.Core.Path.{◌≡◌, sym, ap, ◌∙◌}
use Prim.Native.Nat.{ℕ, ◌≤◌}
use native.Mathlib.Omega.{arith}
use lib.ListN.{length, take, replicate}
use Rattle.cells.specs.Bytes.{payload_len}
use Rattle.cells.specs.Outcomes.{Coding}
use Rattle.cells.specs.Figures.{max_word}
use Rattle.codes.specs.Given.{HasNumbers, coding_in}
use Rattle.params.specs.Given.{short_word}
use Rattle.codes.specs.declared.WordLayout.{WordLayout}
use Rattle.codes.proofs.Layouts.{numbers-in, apart_in, bound}
use Rattle.placements.specs.Bridge.{held_as, starts_in}
use Rattle.jobs.specs.Slots.{entries}
use Rattle.jobcodec.specs.Given.{ReadyUnder}
use Rattle.jobcodec.proofs.Calls.{alphabet-few, bytes-are, message-short, ready}
use Rattle.prescription.specs.Eyes.{prescribed_of}
use Rattle.prescriptioncodec.specs.PrescriptionWrite.{as_job, prescription_write_under}
use Rattle.prescriptioncodec.proofs.Calls.{write-few, write-count, write-length, write-starts, write-short, write-as-job}
use Rattle.prescriptioncodec.proofs.Payload.{payload-within, lent_is}
use Rattle.prescriptioncodec.proofs.write_laid.Goals as goal
use Rattle.prescriptioncodec.proofs.write_laid.Goals.{Else-count-lt-MIN_PAYLOAD, Else-count-lt-MIN_PRESCRIBED, Start}

abbrev l : Start → WordLayout
l s = s.args.layout

abbrev d : Start → Coding
d s = coding_in (l s)

is : (s : Start) → HasNumbers (d s) (l s)
is s = numbers-in (l s) s.requires.serves

-- five bytes or more, so many as the payload will hold
goes-on : (c : Else-count-lt-MIN_PAYLOAD) → ReadyUnder (d (goal.at.Else-count-lt-MIN_PAYLOAD c).Start) (entries c.args.table)
goes-on c = ready (l (goal.at.Else-count-lt-MIN_PAYLOAD c).Start) (entries c.args.table) c.requires c.payload_len-count.result
    c.payload_len-count.ensures (omega (arith, c.if-count-lt-MIN_PAYLOAD.false))

as_many : (c : Else-count-lt-MIN_PAYLOAD) → c.payload_len-count.result ≡ payload_len (d (goal.at.Else-count-lt-MIN_PAYLOAD c).Start).codec.alphabet
    (d (goal.at.Else-count-lt-MIN_PAYLOAD c).Start).codec.message_len_of
as_many c = bytes-are (l (goal.at.Else-count-lt-MIN_PAYLOAD c).Start) (entries c.args.table) c.requires c.payload_len-count.result
    c.payload_len-count.ensures

count_most : (c : Else-count-lt-MIN_PRESCRIBED) → c.payload_len-count.result ≤ max_word
count_most c =
    let len = c.payload_len-count in
    omega (arith, payload-within (l (goal.at.Else-count-lt-MIN_PRESCRIBED c).Start) len.result len.ensures, message-short (l (goal.at.Else-count-lt-MIN_PRESCRIBED c).Start) (entries c.args.table) c.requires)

written_is : (c : Else-count-lt-MIN_PRESCRIBED) → (let a = c.args in let s = (goal.at.Else-count-lt-MIN_PRESCRIBED c).Start in
    as_job (d s) (entries a.table) (held_as a.at) a.number c.payload_len-count.result a.word.now (prescribed_of a.prescription)
    ≡ prescription_write_under (d s) (entries a.table) (held_as a.at) a.number a.prescription a.word.now)
written_is c =
    let a = c.args in
    let s = (goal.at.Else-count-lt-MIN_PRESCRIBED c).Start in
    ap (λ (K : ℕ). as_job (d s) (entries a.table) (held_as a.at) a.number K a.word.now (prescribed_of a.prescription))
    (as_many (goal.at.Else-count-lt-MIN_PRESCRIBED c).Else-count-lt-MIN_PAYLOAD)
    ∙ sym (write-as-job (d s) (entries a.table) (held_as a.at) a.number a.prescription a.word.now (goes-on (goal.at.Else-count-lt-MIN_PRESCRIBED c).Else-count-lt-MIN_PAYLOAD)
    (c.if-at-layout.false ∙ (is s).bursts-is) (c.if-word-layout.false ∙ (is s).word-is)
    (apart_in (l s) c.requires.serves (starts_in a.at) ∙ sym c.apart.ensures ∙ c.if-not-apart.false)
    (omega (arith, as_many (goal.at.Else-count-lt-MIN_PRESCRIBED c).Else-count-lt-MIN_PAYLOAD, c.if-count-lt-MIN_PRESCRIBED.false)))

pub payload_len-count-requires : goal.payload_len-count-requires
payload_len-count-requires c = alphabet-few (l (goal.at.payload_len-count-requires c).Start) (entries c.args.table) c.requires

pub returns-then-count-lt-MIN_PAYLOAD : goal.returns-then-count-lt-MIN_PAYLOAD
returns-then-count-lt-MIN_PAYLOAD c =
    let len = c.payload_len-count in
    sym (write-few (l (goal.at.returns-then-count-lt-MIN_PAYLOAD c).Start) (entries c.args.table) (held_as c.args.at) c.args.number c.args.prescription c.args.word.now c.requires
    len.result len.ensures c.if-count-lt-MIN_PAYLOAD.true)

pub returns-then-at-layout : goal.returns-then-at-layout
returns-then-at-layout c =
    sym (write-count (d (goal.at.returns-then-at-layout c).Start) (entries c.args.table) (held_as c.args.at) c.args.number c.args.prescription c.args.word.now
    (goes-on (goal.at.returns-then-at-layout c).Else-count-lt-MIN_PAYLOAD) (λ e. c.if-at-layout.true (e ∙ sym (is (goal.at.returns-then-at-layout c).Start).bursts-is)))

pub returns-then-word-layout : goal.returns-then-word-layout
returns-then-word-layout c =
    sym (write-length (d (goal.at.returns-then-word-layout c).Start) (entries c.args.table) (held_as c.args.at) c.args.number c.args.prescription c.args.word.now
    (goes-on (goal.at.returns-then-word-layout c).Else-count-lt-MIN_PAYLOAD) (c.if-at-layout.false ∙ (is (goal.at.returns-then-word-layout c).Start).bursts-is) (λ e. c.if-word-layout.true (e ∙ sym (is (goal.at.returns-then-word-layout c).Start).word-is)))

pub overflow_cast-layout : goal.overflow_cast-layout
overflow_cast-layout c = omega (arith, (bound (l (goal.at.overflow_cast-layout c).Start) c.requires.serves).n-most)

pub overflow_cast-layout-2 : goal.overflow_cast-layout-2
overflow_cast-layout-2 c =
    omega (arith, (bound (l (goal.at.overflow_cast-layout-2 c).Start) c.requires.serves).n-most, (bound (l (goal.at.overflow_cast-layout-2 c).Start) c.requires.serves).long)

pub apart-requires : goal.apart-requires
apart-requires c = omega (arith, c.if-at-layout.false, (bound (l (goal.at.apart-requires c).Start) c.requires.serves).m-most)

pub returns-then-not-apart : goal.returns-then-not-apart
returns-then-not-apart c =
    sym (write-starts (d (goal.at.returns-then-not-apart c).Start) (entries c.args.table) (held_as c.args.at) c.args.number c.args.prescription c.args.word.now
    (goes-on (goal.at.returns-then-not-apart c).Else-count-lt-MIN_PAYLOAD)
    (c.if-at-layout.false ∙ (is (goal.at.returns-then-not-apart c).Start).bursts-is) (c.if-word-layout.false ∙ (is (goal.at.returns-then-not-apart c).Start).word-is)
    (apart_in (l (goal.at.returns-then-not-apart c).Start) c.requires.serves (starts_in c.args.at) ∙ sym c.apart.ensures ∙ c.if-not-apart.true))

pub returns-then-count-lt-MIN_PRESCRIBED : goal.returns-then-count-lt-MIN_PRESCRIBED
returns-then-count-lt-MIN_PRESCRIBED c =
    sym (write-short (d (goal.at.returns-then-count-lt-MIN_PRESCRIBED c).Start) (entries c.args.table) (held_as c.args.at) c.args.number c.args.prescription c.args.word.now (goes-on (goal.at.returns-then-count-lt-MIN_PRESCRIBED c).Else-count-lt-MIN_PAYLOAD)
    (c.if-at-layout.false ∙ (is (goal.at.returns-then-count-lt-MIN_PRESCRIBED c).Start).bursts-is)
    (c.if-word-layout.false ∙ (is (goal.at.returns-then-count-lt-MIN_PRESCRIBED c).Start).word-is)
    (apart_in (l (goal.at.returns-then-count-lt-MIN_PRESCRIBED c).Start) c.requires.serves (starts_in c.args.at) ∙ sym c.apart.ensures ∙ c.if-not-apart.false)
    (omega (arith, as_many (goal.at.returns-then-count-lt-MIN_PRESCRIBED c).Else-count-lt-MIN_PAYLOAD, c.if-count-lt-MIN_PRESCRIBED.true)))

pub returns-then-count-le-SHORT_LEN : goal.returns-then-count-le-SHORT_LEN
returns-then-count-le-SHORT_LEN c = c.write_in.ensures ∙ written_is (goal.at.returns-then-count-le-SHORT_LEN c).Else-count-lt-MIN_PRESCRIBED

pub write_in-requires-2 : goal.write_in-requires-2
write_in-requires-2 c =
    (c.requires, omega arith, count_most (goal.at.write_in-requires-2 c).Else-count-lt-MIN_PRESCRIBED, omega arith)

pub returns : goal.returns
returns c = c.write_in-2.ensures ∙ written_is (goal.at.returns c).Else-count-lt-MIN_PRESCRIBED
