-- Demand 3 in the terms of those who call: a program in C, and whoever sends records to the transfer program. The claim is that of
-- jobcodec/specs/DemandThree. The proofs are `bytes-claimed` and `session-claimed` of proofs/DemandThree.antt. Assumes nothing.
use Rattle.std.specs.Prelude.{◌≡◌, ◌≢◌, Bool, true, not, cond, ◌&&◌, ◌||◌, List, [], ◌∷◌, ℕ, ◌+◌, ◌<◌, eqb, length, drop, replicate}
use Rattle.std.proofs.Math.Option.{Option, none, some}
use Rattle.refusals.specs.Refusals.{served}
use Rattle.combinatorics.specs.Lists.{all}
use Rattle.cells.specs.Outcomes.{figures_number, figures_under}
use Rattle.codes.specs.declared.Figures.{Figures}
use Rattle.codes.specs.Bridge.{coding_of}
use Rattle.jobs.specs.declared.Entry.{Entry}
use Rattle.jobs.specs.Jobs.{Call}
use Rattle.jobs.specs.Letters.{kind_of, is_letter}
use Rattle.ledger.specs.Replay.{call_before}
use Rattle.ledger.specs.Simulation.{Start}
use Rattle.payloads.specs.Payload.{job_number}
use Rattle.jobcodec.specs.DemandThree.{Claim}
use Rattle.jobcodec.specs.JobRead.{JobRead}
use Rattle.lent_jobs.specs.Follows.{answers_on, bytes_after, has32_bits}
use Rattle.lent_jobs.specs.Jobs.{job_read_bytes_under}
use Rattle.lent_jobs.specs.Table.{TableOf}
use Rattle.lines.specs.Lines.{refusal_line, letter_s, letter_l, letter_r}
use Rattle.records.specs.Records.{record_head_len, is_marked, letter_of, payload_len_of, figures_in, long_figures_in}
use Rattle.transfer.specs.Steps.{stopped, read_step, step_out}
use Rattle.records.specs.Session.{Session, at_start, max_records}

-- ---- A program in C

-- Any list of `burgzemi_open`, `_cancel`, `_finish`, `_reinstate`, `_hold` and `_release` on the bytes of a table that a list may start from, each on the
-- bytes that the one before left, then `burgzemi_job_read`, `burgzemi_long_job_read` or `burgzemi_larsson_job_read` on the last ones: the claim of the answers,
-- and of what the reading answers and leaves in the lent payload. 320 bytes of 0 are the empty table (`EmptyBytes`).
abbrev pub BytesClaimed : Type 0
BytesClaimed =
    (f : Figures) (bytes : List ℕ) (es : List Entry) (before : List Call) → TableOf bytes es → Start es before
    → (calls : List Call) (w out : List ℕ) → all has32_bits calls ≡ true
    → Claim (coding_of f) before calls w out (answers_on bytes calls) (job_read_bytes_under (coding_of f) (bytes_after bytes calls) w out)

-- ---- The transfer program: any records that it serves, and an R behind them. "The book starts empty"

-- the session after records, and whether each was served: none "prints "stop 11" and ends"
unfoldable pub session_after : Session → List (List ℕ) → Session
session_after s [] = s
session_after s (r ∷ rs) = session_after (step_out s r).next rs

unfoldable pub all_served : Session → List (List ℕ) → Bool
all_served s [] = true
all_served s (r ∷ rs) = not (step_out s r).stops && all_served (step_out s r).next rs

-- "S (figures)"; document 02, ticket 1: "A transfer record with letter L carries n (2 bytes), q−1 (1) and b (2)"
abbrev pub carries_figures : List ℕ → Bool
carries_figures r = eqb (letter_of r) letter_s || eqb (letter_of r) letter_l

abbrev pub figures_carried : List ℕ → Figures
figures_carried r = cond (eqb (letter_of r) letter_s) (figures_in r) (long_figures_in r)

-- "an accepted S"; "an accepted L serves a W or R as an accepted S does"
abbrev pub is_accepted : List ℕ → Bool
is_accepted r = carries_figures r && eqb (figures_number (figures_under (coding_of (figures_carried r)))) served

-- the figures in force after records. "A refused S keeps the former figures."; "until the next accepted S or L"
unfoldable pub figures_after : Option Figures → List (List ℕ) → Option Figures
figures_after former [] = former
figures_after former (r ∷ rs) = figures_after (cond (is_accepted r) (some (figures_carried r)) former) rs

-- "O (open), C (cancel), F (finish) a job number (4)": all of them, whatever stands between
unfoldable pub calls_in : List (List ℕ) → List Call
calls_in [] = []
calls_in (r ∷ rs) = call_before (kind_of (letter_of r)) (job_number (drop record_head_len r)) (calls_in rs)

-- "It prints one line a record .. the letter, 0 or the refusal": the lines of the calls among records, and the lines that answers to them have
unfoldable pub call_lines : Session → List (List ℕ) → List (List ℕ)
call_lines s [] = []
call_lines s (r ∷ rs) = let lines = call_lines (step_out s r).next rs in cond (is_letter (letter_of r)) ((step_out s r).line ∷ lines) lines

unfoldable pub answer_lines : List (List ℕ) → List ℕ → List (List ℕ)
answer_lines [] answers = []
answer_lines (r ∷ rs) [] = []
answer_lines (r ∷ rs) (a ∷ answers) = cond (is_letter (letter_of r)) (refusal_line (letter_of r) a ∷ answer_lines rs answers) (answer_lines rs (a ∷ answers))

-- what is printed are the lines of answers and of a job reading that the claim is true of; the payload's buffer is the program's own and holds 0
pub record SessionClaim (before : List (List ℕ)) (f : Figures) (reading answers : List ℕ) (r : JobRead) : Type 0 where
  pub claim : Claim (coding_of f) [] (calls_in before) (drop record_head_len reading) (replicate (payload_len_of f) 0) answers r
  pub answered : call_lines at_start before ≡ answer_lines before answers
  pub printed : let s = session_after at_start before in step_out s reading ≡ read_step s r

-- "prints "stop 11" and ends"
abbrev pub StopsAfter : List (List ℕ) → List ℕ → Type 0
StopsAfter before reading = let s = session_after at_start before in step_out s reading ≡ stopped s

-- an R by the figures in force: "W or R before an accepted S" stops; "R (read) n bytes", and one of any other length stops: a "cut record", or too long
abbrev pub ReadAfter : List (List ℕ) → List ℕ → Option Figures → Type 0
ReadAfter before reading none = StopsAfter before reading
ReadAfter before reading (some f) =
    let len = record_head_len + (coding_of f).codec.word_len in
    (length reading ≡ len → (answers : List ℕ) × (r : JobRead) × SessionClaim before f reading answers r) × (length reading ≢ len → StopsAfter before reading)

-- every R that is not "any record after the 4294967295th": the records before it are any that the program serves
abbrev pub SessionClaimed : Type 0
SessionClaimed =
    (before : List (List ℕ)) (reading : List ℕ) → all_served at_start before ≡ true → length before < max_records
    → is_marked reading ≡ true → letter_of reading ≡ letter_r → ReadAfter before reading (figures_after none before)
