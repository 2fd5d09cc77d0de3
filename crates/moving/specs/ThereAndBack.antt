-- "There and back returns the original message whenever the first move is accepted and the book is the same at the second." The statement, and what a
-- move does to the job; the proofs are `there_and_back` and `moves-job` of proofs/Figures.antt. Then the call that runs both moves, whose
-- proof is `came-back` of proofs/ThereAndBack.antt. Assumes nothing.
use Rattle.std.specs.Prelude.{◌≡◌, true, false, List, ℕ, ◌<◌, length, get_or}
use Rattle.refusals.specs.Refusals.{served}
use Rattle.combinatorics.specs.Bursts.{in_burst}
use Rattle.combinatorics.specs.Lists.{all_below}
use Rattle.cells.specs.Codec.{Codec, accepted, Word}
use Rattle.cells.specs.Outcomes.{Coding, Held, held, Encoded}
use Rattle.codes.specs.Bridge.{coding_of}
use Rattle.codes.specs.declared.Figures.{Figures}
use Rattle.jobs.specs.declared.Entry.{Entry}
use Rattle.payloads.specs.Payload.{job_number}
use Rattle.jobcodec.specs.JobWrite.{unless, job_write_under}
use Rattle.jobcodec.specs.JobRead.{hand_out, job_reading}
use Rattle.roundtrip.specs.Damage.{damaged}
use Rattle.moving.specs.Resize.{resized, has_room}
use Rattle.moving.specs.Move.{payload_bytes, served_word, move_under}

-- w' differs from a word only inside a placement's bursts
abbrev pub SpoiltFrom : Codec → List ℕ → List ℕ → List ℕ → Type 0
SpoiltFrom c starts w w' = (x : ℕ) → x < c.word_len → c.spoilt starts x ≡ false → get_or w' x 0 ≡ get_or w x 0

-- a strip w that was moved as `moved`, and moved back by `back`
pub record Returned (from to : Codec) (w moved : List ℕ) (back : List ℕ → List ℕ → Encoded) : Type 0 where
  pub starts : List ℕ
  pub message : List ℕ
  pub read : from.decode w ≡ accepted starts message
  -- "returns the original message": the strip of that placement and message, whether the moved strip was spoilt inside its runs or not
  pub returns : (w' out : List ℕ) → Word to w' → SpoiltFrom to starts moved w' → length out ≡ from.word_len
      → back w' out ≡ served_word (from.encode starts message)
  pub unspoilt : Word to moved
  pub again : from.decode (from.encode starts message) ≡ accepted starts message

-- "whenever the first move is accepted and the book is the same at the second"
abbrev pub ThereAndBackUnder : Coding → Coding → Type 0
ThereAndBackUnder d e =
    (es : List Entry) (w out : List ℕ) → (move_under d e es w out).answer ≡ served
    → Returned d.codec e.codec w (move_under d e es w out).word (move_under e d es)

-- from any code to any other, with whatever figures: the first move is accepted only where they are the same
abbrev pub ThereAndBack : Type 0
ThereAndBack = (from to : Figures) → ThereAndBackUnder (coding_of from) (coding_of to)

-- "A job read from an older strip should be written as a Construction A strip with the same figures and placement": what job reading hands out of the strip,
-- and of the strip it was moved to; and what job writing, here `write`, leaves
pub record SameJob (from to : Codec) (write : Held → List ℕ → List ℕ → Encoded) (es : List Entry) (w moved : List ℕ) : Type 0 where
  pub starts : List ℕ
  pub message : List ℕ
  pub payload : List ℕ
  pub read : from.decode w ≡ accepted starts message
  pub before : (buffer : List ℕ) → length buffer ≡ payload_bytes from → job_reading from es w buffer ≡ hand_out payload
  pub after : (buffer : List ℕ) → length buffer ≡ payload_bytes to → job_reading to es moved buffer ≡ hand_out (resized (payload_bytes to) payload)
  -- "Number and text are preserved": nothing but zero bytes is cut off
  pub whole : has_room (payload_bytes to) payload ≡ true
  pub number : job_number (resized (payload_bytes to) payload) ≡ job_number payload
  -- "with the same .. placement": the moved strip is what job writing leaves in any strip of the length, for the placement that was read
  pub as_written : (out : List ℕ) → length out ≡ to.word_len → write (held starts) (resized (payload_bytes to) payload) out ≡ served_word moved

-- where a move is accepted
abbrev pub MovesJobUnder : Coding → Coding → Type 0
MovesJobUnder d e =
    (es : List Entry) (w out : List ℕ) → (move_under d e es w out).answer ≡ served
    → SameJob d.codec e.codec (job_write_under e es) es w (move_under d e es w out).word

-- from any code to any other
abbrev pub MovesJob : Type 0
MovesJob = (from to : Figures) → MovesJobUnder (coding_of from) (coding_of to)

-- ---- One call that moves a strip there and back, with damage in between

-- what it answers, and both lent strips afterwards
pub record MovedBack : Type 0 where
  pub answer : ℕ
  pub between : List ℕ
  pub back : List ℕ

abbrev pub there_and_back_as : ℕ → List ℕ → List ℕ → MovedBack
there_and_back_as a between back = record { answer = a; between = between; back = back }

-- the refusal of the first move, and both strips as they were lent; or what the second move makes of the strip that is found in between, with the values of
-- ds in the bursts of a placement
unfoldable pub there_and_back_out : Coding → Coding → List Entry → List ℕ → List ℕ → List ℕ → List ℕ → List ℕ → MovedBack
there_and_back_out d e es starts w ds between lent =
    let there = move_under d e es w between in
    let found = damaged (in_burst e.burst_len starts) ds there.word in
    let back = move_under e d es found lent in
    unless there.answer (λ a. there_and_back_as a between lent)
    (there_and_back_as back.answer found back.word)

-- the strip of a placement and a message, which reads as these
pub record Original (c : Codec) (starts message : List ℕ) (answer : ℕ) (back : List ℕ) : Type 0 where
  pub accepts : answer ≡ served
  pub strip : back ≡ c.encode starts message
  pub reads : c.decode back ≡ accepted starts message

-- "returns the original message whenever the first move is accepted": where the damage is up to q and inside the bursts of the placement that was read, and
-- the last strip has the length
abbrev pub CameBack : Coding → Coding → List Entry → List ℕ → List ℕ → List ℕ → List ℕ → List ℕ → ℕ → List ℕ → Type 0
CameBack d e es starts w ds between lent answer back =
    (placement message : List ℕ) → (move_under d e es w between).answer ≡ served → d.codec.decode w ≡ accepted placement message
    → all_below e.codec.found_bound ds ≡ true → ((x : ℕ) → in_burst e.burst_len starts x ≡ true → in_burst e.burst_len placement x ≡ true)
    → length lent ≡ d.codec.word_len → Original d.codec placement message answer back
