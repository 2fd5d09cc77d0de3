-- Jobs for a program in another language: what one with a table in bytes is refused with before its own refusals, and what job write and job read answer
-- and their lent buffers hold afterwards, for every input. Assumes nothing.
use Rattle.std.specs.Prelude.{◌≡◌, Result, Ok, Err, Bool, true, not, ◌&&◌, List, ℕ, ◌*◌, eqb, length}
use Rattle.refusals.specs.Refusals.{must, served, invalid, unfit, wrong_length, bad_payload}
use Rattle.refusals.specs.declared.Refusal.{Refusal}
use Rattle.refusals.specs.Numbers.{number_of}
use Rattle.cells.specs.Outcomes.{Coding, held, Encoded, unwritten}
use Rattle.cells.specs.Figures.{Params}
use Rattle.construction_a.specs.Outcomes.{coding}
use Rattle.jobs.specs.declared.JobTable.{JobTable}
use Rattle.jobs.specs.Slots.{entries}
use Rattle.jobs.specs.Table.{twice}
use Rattle.payloads.specs.Payload.{carries_job}
use Rattle.jobcodec.specs.JobWrite.{job_write_under}
use Rattle.jobcodec.specs.JobRead.{JobRead, withhold, job_read_under}
use Rattle.lent.specs.Starts.{starts_from}
use Rattle.lent_jobs.specs.Table.{table_len, states_known, table_in}

abbrev pub has_table_len : List ℕ → Bool
has_table_len bytes = eqb (length bytes) table_len

-- 1 otherwise: "a book with one number twice", or an unknown state. In a table of another length no slot is looked at.
abbrev pub slots_fit : List ℕ → Bool
slots_fit bytes = must (has_table_len bytes) true (states_known bytes && not (twice (table_in bytes)))

-- "1 2 10 3", where 3 stands for the bytes of the table, and for those whose lengths the call looks at besides
abbrev pub with_table : {O : Type 0} → Coding → List ℕ → Bool → (ℕ → O) → O → O
with_table d table lengths refuse rest =
    must (d.in_range && slots_fit table) (refuse invalid)
    (must d.fits (refuse unfit)
    (must (carries_job d.codec.alphabet d.codec.message_len_of) (refuse bad_payload)
    (must (has_table_len table && lengths) (refuse wrong_length)
    rest)))

-- what a job with a table of another length is refused with
unfoldable pub without_table : Coding → ℕ
without_table d =
    must d.in_range invalid
    (must d.fits unfit
    (must (carries_job d.codec.alphabet d.codec.message_len_of) bad_payload
    wrong_length))

-- the table that a job is given, or what it is refused with before its own refusals
abbrev pub LentAs : Coding → List ℕ → Result JobTable Refusal → Type 0
LentAs d bytes (Ok t) = (length bytes ≡ table_len) × (states_known bytes ≡ true) × (entries t ≡ table_in bytes)
LentAs d bytes (Err r) = number_of r ≡ must (has_table_len bytes) (without_table d) (must (states_known bytes) invalid served)

-- ---- Under any figures

-- "job write 1 2 10 3 5 12 14", with 17 before 12 and 23 before 14, where 3 stands for the bytes of the table and of the starts too
unfoldable pub job_write_bytes_under : Coding → List ℕ → List ℕ → List ℕ → List ℕ → Encoded
job_write_bytes_under d table starts payload out =
    with_table d table (eqb (length starts) (2 * d.bursts)) (unwritten out)
    (job_write_under d (table_in table) (held (starts_from starts)) payload out)

-- "job read 1 2, 10 for K, 3 4 7 8 9, 10, 12 14", with 19 and 21 as in word read and 23 before 14, where 3 stands for the bytes of the table
-- too
unfoldable pub job_read_bytes_under : Coding → List ℕ → List ℕ → List ℕ → JobRead
job_read_bytes_under d table w out = with_table d table true (withhold out) (job_read_under d (table_in table) w out)

-- ---- Under Construction A

unfoldable pub job_write_bytes_out : Params → List ℕ → List ℕ → List ℕ → List ℕ → Encoded
job_write_bytes_out f = job_write_bytes_under (coding f)

unfoldable pub job_read_bytes_out : Params → List ℕ → List ℕ → List ℕ → JobRead
job_read_bytes_out f = job_read_bytes_under (coding f)
