-- `may_write` meets its contract, refusal by refusal. Assumes nothing.
use mathlib.Core.Path.{◌≡◌, sym, ap, ◌∙◌}
use mathlib.Core.List.{List}
use Prim.Native.Nat.{ℕ}
use native.Mathlib.Omega.{arith}
use Rattle.cells.specs.Bytes.{payload_len}
use Rattle.cells.specs.Outcomes.{Coding, Held, Encoded}
use Rattle.codes.specs.Given.{HasNumbers, coding_in}
use Rattle.codes.specs.declared.WordLayout.{WordLayout}
use Rattle.codes.proofs.Layouts.{numbers-in, apart_in, bound}
use Rattle.placements.specs.Bridge.{held_as, starts_in}
use Rattle.jobs.specs.declared.Entry.{Entry}
use Rattle.jobs.specs.Jobs.{is_job, needs_open}
use Rattle.jobs.specs.Slots.{entries}
use Rattle.jobs.specs.Table.{standing, lookup}
use Rattle.jobcodec.specs.Given.{ReadyUnder}
use Rattle.jobcodec.proofs.Calls.{alphabet-few, bytes-are, ready, write-few, write-count, write_bytes, write-length, write-starts, write-zero}
use Rattle.jobcodec.proofs.Calls.{write-status}
use Rattle.jobcodec.proofs.may_write.Goals as goal
use Rattle.jobcodec.proofs.may_write.Goals.{Else-count-lt-MIN_PAYLOAD, Start}

abbrev answer : Encoded → ℕ
answer r = r.answer

-- ---- What the contract lends

abbrev l : Start → WordLayout
l s = s.args.layout

abbrev d : Start → Coding
d s = coding_in (l s)

abbrev es : Start → List Entry
es s = entries s.args.table

abbrev at : Start → Held
at s = held_as s.args.at

abbrev y : Start → List ℕ
y s = s.args.payload.now

abbrev w : Start → List ℕ
w s = s.args.word.now

is : (s : Start) → HasNumbers (d s) (l s)
is s = numbers-in (l s) s.requires.serves

-- five bytes or more, so many as the payload holds
goes-on : (c : Else-count-lt-MIN_PAYLOAD) → ReadyUnder (d (goal.at.Else-count-lt-MIN_PAYLOAD c).Start) (es (goal.at.Else-count-lt-MIN_PAYLOAD c).Start)
goes-on c = ready (l (goal.at.Else-count-lt-MIN_PAYLOAD c).Start) (es (goal.at.Else-count-lt-MIN_PAYLOAD c).Start) c.requires c.payload_len-count.result c.payload_len-count.ensures
    (omega arith)

as_many : (c : Else-count-lt-MIN_PAYLOAD) → c.payload_len-count.result ≡ payload_len (d (goal.at.Else-count-lt-MIN_PAYLOAD c).Start).codec.alphabet
    (d (goal.at.Else-count-lt-MIN_PAYLOAD c).Start).codec.message_len_of
as_many c = bytes-are (l (goal.at.Else-count-lt-MIN_PAYLOAD c).Start) (es (goal.at.Else-count-lt-MIN_PAYLOAD c).Start) c.requires c.payload_len-count.result c.payload_len-count.ensures

pub payload_len-count-requires : goal.payload_len-count-requires
payload_len-count-requires c = alphabet-few (l (goal.at.payload_len-count-requires c).Start) (es (goal.at.payload_len-count-requires c).Start) c.requires

pub returns-then-count-lt-MIN_PAYLOAD : goal.returns-then-count-lt-MIN_PAYLOAD
returns-then-count-lt-MIN_PAYLOAD c =
    sym (ap answer (write-few (l (goal.at.returns-then-count-lt-MIN_PAYLOAD c).Start) (es (goal.at.returns-then-count-lt-MIN_PAYLOAD c).Start) c.requires (at (goal.at.returns-then-count-lt-MIN_PAYLOAD c).Start) (y (goal.at.returns-then-count-lt-MIN_PAYLOAD c).Start) (w (goal.at.returns-then-count-lt-MIN_PAYLOAD c).Start) c.payload_len-count.result c.payload_len-count.ensures c.if-count-lt-MIN_PAYLOAD.true))

pub returns-then-at-layout : goal.returns-then-at-layout
returns-then-at-layout c =
    sym (ap answer (write-count (d (goal.at.returns-then-at-layout c).Start) (es (goal.at.returns-then-at-layout c).Start) (at (goal.at.returns-then-at-layout c).Start) (y (goal.at.returns-then-at-layout c).Start) (w (goal.at.returns-then-at-layout c).Start) (goes-on (goal.at.returns-then-at-layout c).Else-count-lt-MIN_PAYLOAD) (λ e. c.if-at-layout.true (e ∙ sym (is (goal.at.returns-then-at-layout c).Start).bursts-is))))

pub returns-then-payload-count : goal.returns-then-payload-count
returns-then-payload-count c =
    sym (ap answer (write_bytes (d (goal.at.returns-then-payload-count c).Start) (es (goal.at.returns-then-payload-count c).Start) (at (goal.at.returns-then-payload-count c).Start) (y (goal.at.returns-then-payload-count c).Start) (w (goal.at.returns-then-payload-count c).Start) (goes-on (goal.at.returns-then-payload-count c).Else-count-lt-MIN_PAYLOAD) (c.if-at-layout.false ∙ (is (goal.at.returns-then-payload-count c).Start).bursts-is)
    (λ e. c.if-payload-count.true (e ∙ sym (as_many (goal.at.returns-then-payload-count c).Else-count-lt-MIN_PAYLOAD)))))

pub returns-then-word-layout : goal.returns-then-word-layout
returns-then-word-layout c =
    sym (ap answer (write-length (d (goal.at.returns-then-word-layout c).Start) (es (goal.at.returns-then-word-layout c).Start) (at (goal.at.returns-then-word-layout c).Start) (y (goal.at.returns-then-word-layout c).Start) (w (goal.at.returns-then-word-layout c).Start) (goes-on (goal.at.returns-then-word-layout c).Else-count-lt-MIN_PAYLOAD) (c.if-at-layout.false ∙ (is (goal.at.returns-then-word-layout c).Start).bursts-is)
    (c.if-payload-count.false ∙ as_many (goal.at.returns-then-word-layout c).Else-count-lt-MIN_PAYLOAD) (λ e. c.if-word-layout.true (e ∙ sym (is (goal.at.returns-then-word-layout c).Start).word-is))))

pub overflow_cast-layout : goal.overflow_cast-layout
overflow_cast-layout c = omega (arith, (bound (l (goal.at.overflow_cast-layout c).Start) c.requires.serves).n-most)

pub overflow_cast-layout-2 : goal.overflow_cast-layout-2
overflow_cast-layout-2 c =
    omega (arith, (bound (l (goal.at.overflow_cast-layout-2 c).Start) c.requires.serves).n-most, (bound (l (goal.at.overflow_cast-layout-2 c).Start) c.requires.serves).long)

pub apart-requires : goal.apart-requires
apart-requires c = omega (arith, c.if-at-layout.false, (bound (l (goal.at.apart-requires c).Start) c.requires.serves).m-most)

pub returns-then-not-apart : goal.returns-then-not-apart
returns-then-not-apart c =
    sym (ap answer (write-starts (d (goal.at.returns-then-not-apart c).Start) (es (goal.at.returns-then-not-apart c).Start) (at (goal.at.returns-then-not-apart c).Start) (y (goal.at.returns-then-not-apart c).Start) (w (goal.at.returns-then-not-apart c).Start) (goes-on (goal.at.returns-then-not-apart c).Else-count-lt-MIN_PAYLOAD)
    (c.if-at-layout.false ∙ (is (goal.at.returns-then-not-apart c).Start).bursts-is)
    (c.if-payload-count.false ∙ as_many (goal.at.returns-then-not-apart c).Else-count-lt-MIN_PAYLOAD) (c.if-word-layout.false ∙ (is (goal.at.returns-then-not-apart c).Start).word-is)
    (apart_in (l (goal.at.returns-then-not-apart c).Start) c.requires.serves (starts_in c.args.at) ∙ sym c.apart.ensures ∙ c.if-not-apart.true)))

pub returns-then-not-is_job : goal.returns-then-not-is_job
returns-then-not-is_job c =
    sym (ap answer (write-zero (d (goal.at.returns-then-not-is_job c).Start) (es (goal.at.returns-then-not-is_job c).Start) (at (goal.at.returns-then-not-is_job c).Start) (y (goal.at.returns-then-not-is_job c).Start) (w (goal.at.returns-then-not-is_job c).Start) (goes-on (goal.at.returns-then-not-is_job c).Else-count-lt-MIN_PAYLOAD)
    (c.if-at-layout.false ∙ (is (goal.at.returns-then-not-is_job c).Start).bursts-is)
    (c.if-payload-count.false ∙ as_many (goal.at.returns-then-not-is_job c).Else-count-lt-MIN_PAYLOAD)
    (c.if-word-layout.false ∙ (is (goal.at.returns-then-not-is_job c).Start).word-is)
    (apart_in (l (goal.at.returns-then-not-is_job c).Start) c.requires.serves (starts_in c.args.at) ∙ sym c.apart.ensures
    ∙ c.if-not-apart.false)
    (ap is_job (sym c.job_number-number.ensures) ∙ sym c.is_job.ensures ∙ c.if-not-is_job.true)))

pub returns : goal.returns
returns c =
    c.needs_open.ensures ∙ ap (λ (n : ℕ). needs_open (standing (lookup (es (goal.at.returns c).Start) n))) c.job_number-number.ensures
    ∙ sym (write-status (d (goal.at.returns c).Start) (es (goal.at.returns c).Start) (at (goal.at.returns c).Start) (y (goal.at.returns c).Start) (w (goal.at.returns c).Start) (goes-on (goal.at.returns c).Else-count-lt-MIN_PAYLOAD)
    (c.if-at-layout.false ∙ (is (goal.at.returns c).Start).bursts-is)
    (c.if-payload-count.false ∙ as_many (goal.at.returns c).Else-count-lt-MIN_PAYLOAD)
    (c.if-word-layout.false ∙ (is (goal.at.returns c).Start).word-is)
    (apart_in (l (goal.at.returns c).Start) c.requires.serves (starts_in c.args.at) ∙ sym c.apart.ensures
    ∙ c.if-not-apart.false)
    (ap is_job (sym c.job_number-number.ensures) ∙ sym c.is_job.ensures ∙ c.if-not-is_job.false))
