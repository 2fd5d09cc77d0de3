-- What the inner functions of job write and job read ask for, and how their answers are read. Assumes nothing.
use Rattle.std.specs.Prelude.{◌≡◌, true, false, List, ℕ, ◌≤◌, length}
use Rattle.refusals.specs.Refusals.{must, bad_payload}
use Rattle.cells.specs.Bytes.{payload_len}
use Rattle.cells.specs.Outcomes.{Coding, WordAnswer, rank_is, refusal, Decoded}
use Rattle.cells.specs.Figures.{max_alphabet}
use Rattle.codes.specs.Given.{coding_in, Serves}
use Rattle.codes.specs.declared.WordLayout.{WordLayout}
use Rattle.jobs.specs.declared.Entry.{Entry}
use Rattle.jobs.specs.Table.{twice}
use Rattle.payloads.specs.Payload.{carries_job, spells_payload}
use Rattle.jobcodec.specs.JobRead.{JobRead}

-- what was seen of a job reading: its answer, and the lent payload
abbrev pub seen : ℕ → List ℕ → JobRead
seen a out = record { answer = a; payload = out }

-- a layout of figures that fit, and a table that holds no number twice
pub record ServesTable (l : WordLayout) (es : List Entry) : Type 0 where
  pub serves : Serves l
  pub once : twice es ≡ false

-- a payload as long as the message has bytes
pub record PayloadFits (l : WordLayout) (payload message : List ℕ) : Type 0 where
  pub serves : Serves l
  pub count : length payload ≡ payload_len l.q (length message)

-- figures and table in order, and five bytes or more
pub record ReadyUnder (d : Coding) (es : List Entry) : Type 0 where
  pub range : d.in_range ≡ true
  pub once : twice es ≡ false
  pub fit : d.fits ≡ true
  pub carries : carries_job d.codec.alphabet d.codec.message_len_of ≡ true

-- figures that carry a job, room for the message, and a buffer for the payload
pub record ReadableJob (l : WordLayout) (es : List Entry) (message payload : List ℕ) : Type 0 where
  pub serves : Serves l
  pub ready : ReadyUnder (coding_in l) es
  pub room : length message ≡ (coding_in l).codec.message_len_of
  pub lent : length payload ≡ payload_len (coding_in l).codec.alphabet (coding_in l).codec.message_len_of

abbrev pub spelled_as : ℕ → ℕ → List ℕ → WordAnswer → WordAnswer
spelled_as q k ms (rank_is v) = must (spells_payload q k ms) (refusal bad_payload) (rank_is v)
spelled_as q k ms (refusal a) = refusal a

-- what a word is answered with where its message is to spell a payload: 10 behind the word's own refusals
abbrev pub spelled_answer : ℕ → ℕ → Decoded → WordAnswer
spelled_answer q k d = spelled_as q k d.message d.answer

-- a message that spells as many bytes as the payload has, a job number at least
pub record SpellsJob (q : ℕ) (message payload : List ℕ) : Type 0 where
  pub alphabet : 2 ≤ q
  pub bytes : q ≤ max_alphabet
  pub count : length payload ≡ payload_len q (length message)
  pub number : 4 ≤ length payload
  pub spelled : spells_payload q (length message) message ≡ true
