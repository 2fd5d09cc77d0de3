-- What the inner functions of moving ask for, and how their answers are read. Assumes nothing.
use Rattle.std.specs.Prelude.{◌≡◌, true, List, ℕ, ◌≤◌, length}
use Rattle.refusals.specs.Refusals.{must, served, bad_payload, surplus_bytes, number_zero}
use Rattle.combinatorics.specs.Bursts.{apart}
use Rattle.cells.specs.Bytes.{payload_len}
use Rattle.cells.specs.Codec.{Codec}
use Rattle.cells.specs.Outcomes.{Coding, Encoded, unwritten}
use Rattle.cells.specs.Figures.{max_word, max_alphabet}
use Rattle.codes.specs.declared.WordLayout.{WordLayout}
use Rattle.codes.specs.Given.{coding_in, Serves}
use Rattle.placements.specs.declared.Placement.{Placement}
use Rattle.placements.specs.Bridge.{starts_in}
use Rattle.jobs.specs.declared.Entry.{Entry}
use Rattle.jobs.specs.Jobs.{is_job}
use Rattle.payloads.specs.Payload.{carries_job, job_number, message_of, payload_in, spells_payload}
use Rattle.jobcodec.specs.JobWrite.{job_status, unless, where_open}
use Rattle.moving.specs.Resize.{resized, has_room}
use Rattle.moving.specs.Move.{served_word}

-- ---- A payload that was read

-- what a payload that was read is refused with where it is to have so many bytes: the reader's 12 23 14, then 22 and 17; 0 otherwise
unfoldable pub moving_number : List Entry → ℕ → List ℕ → ℕ
moving_number es room payload =
    where_open (job_status es payload) (λ a. a)
    (must (has_room room payload) surplus_bytes
    (must (is_job (job_number payload)) number_zero
    served))

-- ---- A message that was read

-- what it is refused with where the other message has k symbols: 10, and then those of its payload
unfoldable pub message_number : ℕ → List Entry → ℕ → List ℕ → ℕ
message_number q es k ms =
    must (spells_payload q (length ms) ms) bad_payload
    (moving_number es (payload_len q k) (payload_in q (length ms) ms))

-- the message of k symbols that has its number and text
abbrev pub message_moved : ℕ → ℕ → List ℕ → List ℕ
message_moved q k ms = message_of q k (resized (payload_len q k) (payload_in q (length ms) ms))

-- and the word of that message
abbrev pub word_moved : Codec → List Entry → List ℕ → List ℕ → List ℕ → Encoded
word_moved to es out starts ms =
    unless (message_number to.alphabet es to.message_len_of ms) (unwritten out)
    (served_word (to.encode starts (message_moved to.alphabet to.message_len_of ms)))

-- the lent message afterwards, where nothing was refused
abbrev pub OtherMessage : ℕ → ℕ → List ℕ → List ℕ → List ℕ → Type 0
OtherMessage q answer ms lent after = answer ≡ served → after ≡ message_moved q (length lent) ms

-- a message with five bytes or more, and the other; neither is longer than the longest word
pub record JobMessage (q : ℕ) (message other : List ℕ) : Type 0 where
  pub alphabet : 2 ≤ q
  pub bytes : q ≤ max_alphabet
  pub carries : 5 ≤ payload_len q (length message)
  pub short : length message ≤ max_word
  pub other-short : length other ≤ max_word

-- ---- Figures that fit both codes

-- two codes of the same figures: words, alphabets and bursts are the same
pub record Alike (d e : Coding) : Type 0 where
  pub word : d.codec.word_len ≡ e.codec.word_len
  pub alphabet : d.codec.alphabet ≡ e.codec.alphabet
  pub bursts : d.bursts ≡ e.bursts
  pub burst : d.burst_len ≡ e.burst_len

-- the layouts of two such codes; both payloads have five bytes or more, and both strips the length
pub record BothReady (from to : WordLayout) (strip moved : ℕ) : Type 0 where
  pub serves-from : Serves from
  pub serves-to : Serves to
  pub alike : Alike (coding_in from) (coding_in to)
  pub carries-from : carries_job (coding_in from).codec.alphabet (coding_in from).codec.message_len_of ≡ true
  pub carries-to : carries_job (coding_in to).codec.alphabet (coding_in to).codec.message_len_of ≡ true
  pub complete : strip ≡ (coding_in from).codec.word_len
  pub lent : moved ≡ (coding_in to).codec.word_len

-- a placement and a message that were read, and the lent word
pub record MovedWritable (d : Coding) (at : Placement) (message out : List ℕ) : Type 0 where
  pub count : at.count ≡ d.bursts
  pub placed : apart d.burst_len d.codec.word_len 0 (starts_in at) ≡ true
  pub carries : 5 ≤ payload_len d.codec.alphabet (length message)
  pub short : length message ≤ max_word
  pub lent : length out ≡ d.codec.word_len
