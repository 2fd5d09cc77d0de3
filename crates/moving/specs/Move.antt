-- Ticket 9 of document 02, "Moving the racks over": a job read under one codec and written under another, "with the same figures and placement".
-- What a move answers, and what the lent word holds afterwards, for every input: "Only the output strip changes." Assumes nothing.
use Rattle.std.specs.Prelude.{Bool, not, ◌&&◌, List, ℕ, eqb, length}
use Rattle.refusals.specs.Refusals.{must, served, invalid, unfit, wrong_length, bad_symbol, bad_payload, surplus_bytes, number_zero}
use Rattle.combinatorics.specs.Lists.{all_below}
use Rattle.cells.specs.Bytes.{payload_len}
use Rattle.cells.specs.Codec.{Codec, Reading, accepted, refused}
use Rattle.cells.specs.Figures.{Params}
use Rattle.cells.specs.Outcomes.{Coding, Encoded, unwritten}
use Rattle.construction_a.specs.Outcomes.{coding as coding_a}
use Rattle.larsson.specs.Outcomes.{coding as coding_larsson}
use Rattle.jobs.specs.declared.Entry.{Entry}
use Rattle.jobs.specs.Jobs.{is_job}
use Rattle.jobs.specs.Table.{twice}
use Rattle.payloads.specs.Payload.{carries_job, job_number, message_of, payload_in, spells_payload}
use Rattle.jobcodec.specs.JobWrite.{job_status, where_open}
use Rattle.moving.specs.Resize.{resized, has_room}

-- ---- From one codec to another

-- the bytes of a codec's payload
abbrev pub payload_bytes : Codec → ℕ
payload_bytes c = payload_len c.alphabet c.message_len_of

abbrev pub served_word : List ℕ → Encoded
served_word w = record { answer = served; word = w }

-- a payload written at a placement
unfoldable pub job_word : Codec → List ℕ → List ℕ → List ℕ
job_word c starts payload = c.encode starts (message_of c.alphabet c.message_len_of payload)

-- "22, after the reader's refusals and before the writer's 17"; the writer's 12, 23 and 14 are behind the reader's own
unfoldable pub move_job : Codec → List ℕ → List ℕ → List ℕ → Encoded
move_job to out starts payload =
    must (has_room (payload_bytes to) payload) (unwritten out surplus_bytes)
    (must (is_job (job_number payload)) (unwritten out number_zero)
    (served_word (job_word to starts (resized (payload_bytes to) payload))))

-- the reader's "10, 12 14" of an accepted word, with 23 between
unfoldable pub move_message : Codec → Codec → List Entry → List ℕ → List ℕ → List ℕ → Encoded
move_message from to es out starts ms =
    let payload = payload_in from.alphabet from.message_len_of ms in
    must (spells_payload from.alphabet from.message_len_of ms) (unwritten out bad_payload)
    (where_open (job_status es payload) (unwritten out)
    (move_job to out starts payload))

abbrev pub move_read : Codec → Codec → List Entry → List ℕ → Reading → Encoded
move_read from to es out (refused a) = unwritten out a
move_read from to es out (accepted starts ms) = move_message from to es out starts ms

-- "both payloads have 5 bytes or more, else 10, and every lent length be right, else 3, each at the reader's place"
unfoldable pub move : Codec → Codec → List Entry → List ℕ → List ℕ → Encoded
move from to es w out =
    must (carries_job from.alphabet from.message_len_of && carries_job to.alphabet to.message_len_of) (unwritten out bad_payload)
    (must (eqb (length w) from.word_len && eqb (length out) to.word_len) (unwritten out wrong_length)
    (must (all_below from.found_bound w) (unwritten out bad_symbol)
    (move_read from to es out (from.decode w))))

-- ---- From figures to others

-- "with the same figures": n, q, m and b, where Construction B's m is 1
unfoldable pub same_figures : Coding → Coding → Bool
same_figures d e =
    eqb d.codec.word_len e.codec.word_len && eqb d.codec.alphabet e.codec.alphabet && eqb d.bursts e.bursts
    && eqb d.burst_len e.burst_len

-- "Both layouts must fit, else 2", and figures that differ are 2 too: 1 2 10 3, the reader's from 4 on, 10, 12 23 14, 22, 17
unfoldable pub move_under : Coding → Coding → List Entry → List ℕ → List ℕ → Encoded
move_under d e es w out =
    must (d.in_range && e.in_range && not (twice es)) (unwritten out invalid)
    (must (same_figures d e && d.fits && e.fits) (unwritten out unfit)
    (move d.codec e.codec es w out))

-- ---- Between the Larsson code and Construction A

-- "A job read from an older strip should be written as a Construction A strip": 1 2 10 3 4 21 8 9 19 10, 12 23 14, 22, 17
abbrev pub to_construction_a : Params → List Entry → List ℕ → List ℕ → Encoded
to_construction_a f = move_under (coding_larsson f) (coding_a f)

-- "and moved back when an old edger needs it": 1 2 10 3 4 7 19 8 9 19 10, 12 23 14, 22, 17
abbrev pub to_larsson : Params → List Entry → List ℕ → List ℕ → Encoded
to_larsson f = move_under (coding_a f) (coding_larsson f)
