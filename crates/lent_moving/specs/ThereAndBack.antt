-- "There and back returns the original message whenever the first move is accepted and the book is the same at the second.", for a table in bytes. The
-- proof is `there-and-back-bytes` of proofs/ThereAndBack.antt. Assumes nothing.
use Rattle.std.specs.Prelude.{◌≡◌, List, ℕ}
use Rattle.refusals.specs.Refusals.{served}
use Rattle.cells.specs.Outcomes.{Coding}
use Rattle.codes.specs.Bridge.{coding_of}
use Rattle.codes.specs.declared.Figures.{Figures}
use Rattle.moving.specs.ThereAndBack.{Returned}
use Rattle.lent_moving.specs.Moves.{move_bytes_under}

-- whatever the bytes of the table are
abbrev pub ThereAndBackBytesUnder : Coding → Coding → Type 0
ThereAndBackBytesUnder d e =
    (table w out : List ℕ) → (move_bytes_under d e table w out).answer ≡ served
    → Returned d.codec e.codec w (move_bytes_under d e table w out).word (move_bytes_under e d table)

-- from any code to any other, with whatever figures
abbrev pub ThereAndBackBytes : Type 0
ThereAndBackBytes = (from to : Figures) → ThereAndBackBytesUnder (coding_of from) (coding_of to)
