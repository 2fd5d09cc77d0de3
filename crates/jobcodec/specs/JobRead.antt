-- What job read answers, and what the lent payload holds afterwards, for every input. Assumes nothing.
use Rattle.std.specs.Prelude.{not, ◌&&◌, List, ℕ, eqb, length}
use Rattle.refusals.specs.Refusals.{must, served, invalid, unfit, wrong_length, bad_symbol, bad_payload}
use Rattle.combinatorics.specs.Lists.{all_below}
use Rattle.cells.specs.Bytes.{payload_len}
use Rattle.cells.specs.Codec.{Codec, Reading, accepted, refused}
use Rattle.cells.specs.Outcomes.{Coding}
use Rattle.cells.specs.Figures.{Params}
use Rattle.construction_a.specs.Outcomes.{coding}
use Rattle.jobs.specs.declared.Entry.{Entry}
use Rattle.jobs.specs.Table.{twice}
use Rattle.payloads.specs.Payload.{carries_job, payload_in, spells_payload}
use Rattle.jobcodec.specs.JobWrite.{job_status, where_open}

pub record JobRead : Type 0 where
  pub answer : ℕ
  pub payload : List ℕ

-- "Handing out is an accepted job reading, and the lent K bytes are then that payload."
abbrev pub hand_out : List ℕ → JobRead
hand_out payload = record { answer = served; payload = payload }

-- "Every refusal returns its number only; output buffers .. keep their contents."
abbrev pub withhold : List ℕ → ℕ → JobRead
withhold out a = record { answer = a; payload = out }

-- ---- Under any codec with alphabet q and messages of k symbols

-- "Writing or reading a job requires it open": of a payload 12, 23 and 14 are left to refuse with
abbrev pub job_of_payload : List Entry → List ℕ → List ℕ → JobRead
job_of_payload es out payload = where_open (job_status es payload) (withhold out) (hand_out payload)

-- "The job reader goes on only with an accepted word": of its message 10, and then those of its payload
abbrev pub job_of : ℕ → ℕ → List Entry → List ℕ → List ℕ → JobRead
job_of q k es out ms = must (spells_payload q k ms) (withhold out bad_payload) (job_of_payload es out (payload_in q k ms))

abbrev pub job_in : ℕ → ℕ → List Entry → List ℕ → Reading → JobRead
job_in q k es out (refused a) = withhold out a
job_in q k es out (accepted ss ms) = job_of q k es out ms

-- "10 for K, 3 4 7 8 9, 10, 12 14", where the word's own refusals are its code's, with 19 among them and 21 in the place of 7 by the Larsson code; document 02, ticket 10: "It refuses with 23, after 12 and before 14,
-- reading .. a held job"
unfoldable pub job_reading : Codec → List Entry → List ℕ → List ℕ → JobRead
job_reading c es w out =
    let q = c.alphabet in
    let k = c.message_len_of in
    must (carries_job q k) (withhold out bad_payload)
    (must (eqb (length w) c.word_len && eqb (length out) (payload_len q k)) (withhold out wrong_length)
    (must (all_below c.found_bound w) (withhold out bad_symbol)
    (job_in q k es out (c.decode w))))

-- ---- Under any figures: "job read 1 2, 10 for K, 3 4 7 8 9, 10, 12 14", with 19 and 21 as in word read and 23 before 14

abbrev pub job_read_under : Coding → List Entry → List ℕ → List ℕ → JobRead
job_read_under d es w out =
    must (d.in_range && not (twice es)) (withhold out invalid)
    (must d.fits (withhold out unfit)
    (job_reading d.codec es w out))

-- ---- Under Construction A

unfoldable pub job_read_out : Params → List Entry → List ℕ → List ℕ → JobRead
job_read_out f = job_read_under (coding f)
