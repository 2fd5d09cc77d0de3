-- What a move with a table of another length is refused with. Assumes nothing.
use Rattle.std.specs.Prelude.{◌&&◌, ℕ}
use Rattle.refusals.specs.Refusals.{must, invalid, unfit, wrong_length, bad_payload}
use Rattle.cells.specs.Outcomes.{Coding}
use Rattle.payloads.specs.Payload.{carries_job}
use Rattle.moving.specs.Move.{same_figures}

-- what the figures alone are refused with, 1 2 10, or else 3
unfoldable pub move_without_table : Coding → Coding → ℕ
move_without_table d e =
    must (d.in_range && e.in_range) invalid
    (must (same_figures d e && d.fits && e.fits) unfit
    (must (carries_job d.codec.alphabet d.codec.message_len_of && carries_job e.codec.alphabet e.codec.message_len_of) bad_payload
    wrong_length))
