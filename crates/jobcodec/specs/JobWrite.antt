-- What job write answers, and what the lent word holds afterwards, for every input. "Job calls lend all K payload bytes, number included."
-- Assumes nothing.
use Rattle.std.specs.Prelude.{not, ◌&&◌, List, ℕ, eqb, length}
use Rattle.refusals.specs.Refusals.{must, served, invalid, unfit, wrong_length, bad_starts, bad_payload, number_zero}
use Rattle.combinatorics.specs.Bursts.{apart}
use Rattle.cells.specs.Bytes.{payload_len}
use Rattle.cells.specs.Outcomes.{Coding, Held, in_use, Encoded, unwritten}
use Rattle.cells.specs.Figures.{Params}
use Rattle.construction_a.specs.Outcomes.{coding}
use Rattle.jobs.specs.declared.Entry.{Entry}
use Rattle.jobs.specs.Jobs.{is_job, Status, needs_open}
use Rattle.jobs.specs.Table.{standing, lookup, twice}
use Rattle.payloads.specs.Payload.{carries_job, job_number, message_of}

-- what the table has of a payload's job number
abbrev pub job_status : List Entry → List ℕ → Status
job_status es payload = standing (lookup es (job_number payload))

-- what a number refuses, unless it is 0
abbrev pub unless : {A : Type 0} → ℕ → (ℕ → A) → A → A
unless a refuse rest = must (eqb a served) (refuse a) rest

-- "Writing or reading a job requires it open and leaves the book unchanged": 12, 23 and 14 are left to refuse with, and no table is handed back
abbrev pub where_open : {A : Type 0} → Status → (ℕ → A) → A → A
where_open s refuse rest = unless (needs_open s) refuse rest

-- ---- Under any figures: "job write 1 2 10 3 5 12 14"; document 02, ticket 3: "It refuses with 17, itself a state refusal and ahead of the others, the ..
-- writing of 0"; ticket 10: "It refuses with 23, after 12 and before 14, .. writing .. a held job"

abbrev pub job_write_under : Coding → List Entry → Held → List ℕ → List ℕ → Encoded
job_write_under d es at payload out =
    let c = d.codec in
    let q = c.alphabet in
    let k = c.message_len_of in
    must (d.in_range && not (twice es)) (unwritten out invalid)
    (must d.fits (unwritten out unfit)
    (must (carries_job q k) (unwritten out bad_payload)
    (must (eqb at.count d.bursts && eqb (length payload) (payload_len q k) && eqb (length out) c.word_len) (unwritten out wrong_length)
    (must (apart d.burst_len c.word_len 0 (in_use at)) (unwritten out bad_starts)
    (must (is_job (job_number payload)) (unwritten out number_zero)
    (where_open (job_status es payload) (unwritten out)
    (record { answer = served; word = c.encode (in_use at) (message_of q k payload) })))))))

-- ---- Under Construction A

unfoldable pub job_write_out : Params → List Entry → Held → List ℕ → List ℕ → Encoded
job_write_out f = job_write_under (coding f)
