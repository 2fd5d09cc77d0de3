-- Moving a job for a program in another language, with the table in bytes: what it answers, and what the lent strip holds afterwards, for every input.
-- Assumes nothing.
use Rattle.std.specs.Prelude.{◌&&◌, List, ℕ}
use Rattle.refusals.specs.Refusals.{must, invalid, unfit, wrong_length, bad_payload}
use Rattle.cells.specs.Figures.{Params}
use Rattle.cells.specs.Outcomes.{Coding, Encoded, unwritten}
use Rattle.construction_a.specs.Outcomes.{coding as coding_a}
use Rattle.larsson.specs.Outcomes.{coding as coding_larsson}
use Rattle.payloads.specs.Payload.{carries_job}
use Rattle.moving.specs.Move.{same_figures, move_under}
use Rattle.lent_jobs.specs.Table.{table_in}
use Rattle.lent_jobs.specs.Jobs.{has_table_len, slots_fit}

-- "1 2 10 3", where 3 stands for the bytes of the table too
unfoldable pub move_bytes_under : Coding → Coding → List ℕ → List ℕ → List ℕ → Encoded
move_bytes_under d e table w out =
    must (d.in_range && e.in_range && slots_fit table) (unwritten out invalid)
    (must (same_figures d e && d.fits && e.fits) (unwritten out unfit)
    (must (carries_job d.codec.alphabet d.codec.message_len_of && carries_job e.codec.alphabet e.codec.message_len_of) (unwritten out bad_payload)
    (must (has_table_len table) (unwritten out wrong_length)
    (move_under d e (table_in table) w out))))

-- "A job read from an older strip should be written as a Construction A strip"
abbrev pub to_construction_a_bytes : Params → List ℕ → List ℕ → List ℕ → Encoded
to_construction_a_bytes f = move_bytes_under (coding_larsson f) (coding_a f)

-- "and moved back when an old edger needs it"
abbrev pub to_larsson_bytes : Params → List ℕ → List ℕ → List ℕ → Encoded
to_larsson_bytes f = move_bytes_under (coding_a f) (coding_larsson f)
