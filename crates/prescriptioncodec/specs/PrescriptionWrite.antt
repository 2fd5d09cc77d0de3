-- What prescription write answers, and what the lent word holds afterwards, for every input. Number and prescription come by value. Assumes nothing.
use Rattle.std.specs.Prelude.{not, ◌&&◌, List, ◌++◌, ℕ, ◌-◌, eqb, leb, length, replicate}
use Rattle.std.proofs.Math.Option.{Option, none, some}
use Rattle.refusals.specs.Refusals.{must, served, invalid, unfit, wrong_length, bad_starts, bad_payload, bad_prescription, number_zero}
use Rattle.combinatorics.specs.Bursts.{apart}
use Rattle.cells.specs.Bytes.{byte_values, payload_len}
use Rattle.cells.specs.Digits.{plain, spell}
use Rattle.cells.specs.Outcomes.{Coding, Held, in_use, Encoded, unwritten}
use Rattle.jobs.specs.declared.Entry.{Entry}
use Rattle.jobs.specs.Jobs.{is_job}
use Rattle.jobs.specs.Table.{twice}
use Rattle.payloads.specs.Payload.{carries_job, job_number, message_of}
use Rattle.jobcodec.specs.JobWrite.{job_status, where_open, job_write_under}
use Rattle.prescription.specs.declared.texts.Prescription.{Prescription}
use Rattle.prescription.specs.Eyes.{Prescribed, prescribed_of}
use Rattle.prescription.specs.Stored.{text_of}

-- "a 4-byte job number, high byte first, then text"
abbrev pub number_len : ℕ
number_len = 4

unfoldable pub number_bytes : ℕ → List ℕ
number_bytes n = spell byte_values (replicate number_len plain) n

-- the payload of a number and a prescription, of K bytes
unfoldable pub prescription_payload : ℕ → ℕ → Prescribed → List ℕ
prescription_payload K n x = number_bytes n ++ text_of (K - number_len) x

-- "a payload below 17 bytes" is too short: number and thirteen bytes
abbrev pub min_prescription_len : ℕ
min_prescription_len = 17

-- ---- Under any figures

-- the state refusals are left: 17 12 23 14
abbrev pub write_open : Coding → List Entry → Held → List ℕ → List ℕ → Encoded
write_open d es at payload out =
    must (is_job (job_number payload)) (unwritten out number_zero)
    (where_open (job_status es payload) (unwritten out)
    (record { answer = served; word = d.codec.encode (in_use at) (message_of d.codec.alphabet d.codec.message_len_of payload) }))

abbrev pub write_prescribed : Coding → List Entry → Held → ℕ → Option Prescribed → List ℕ → Encoded
write_prescribed d es at n none out = unwritten out bad_prescription
write_prescribed d es at n (some x) out = write_open d es at (prescription_payload (payload_len d.codec.alphabet d.codec.message_len_of) n x) out

-- "The prescription calls refuse with 16, after all other input refusals, any .. value in memory outside these rules .. or a payload below 17 bytes":
-- 1 2 10 3 5 16 17 12 23 14
abbrev pub prescription_write_under : Coding → List Entry → Held → ℕ → Prescription → List ℕ → Encoded
prescription_write_under d es at n p out =
    let c = d.codec in
    let q = c.alphabet in
    let k = c.message_len_of in
    must (d.in_range && not (twice es)) (unwritten out invalid)
    (must d.fits (unwritten out unfit)
    (must (carries_job q k) (unwritten out bad_payload)
    (must (eqb at.count d.bursts && eqb (length out) c.word_len) (unwritten out wrong_length)
    (must (apart d.burst_len c.word_len 0 (in_use at)) (unwritten out bad_starts)
    (must (leb min_prescription_len (payload_len q k)) (unwritten out bad_prescription)
    (write_prescribed d es at n (prescribed_of p) out))))))

-- where every other test is passed: the prescription's payload of K bytes, written as a job's
abbrev pub as_job : Coding → List Entry → Held → ℕ → ℕ → List ℕ → Option Prescribed → Encoded
as_job d es at n K out none = unwritten out bad_prescription
as_job d es at n K out (some x) = job_write_under d es at (prescription_payload K n x) out
