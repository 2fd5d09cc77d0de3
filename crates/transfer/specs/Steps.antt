-- What a step makes of the session and prints, record by record. Assumes nothing.
use Rattle.std.specs.Prelude.{Bool, true, false, cond, List, [], ◌∷◌, ℕ, ltb, eqb, take, drop, replicate}
use Rattle.std.proofs.Math.Option.{Option, none, some}
use Rattle.refusals.specs.Refusals.{must, served}
use Rattle.cells.specs.Outcomes.{Encoded, FiguresOut, figured, unserved, figures_under}
use Rattle.codes.specs.Bridge.{coding_of}
use Rattle.codes.specs.declared.Figures.{Figures}
use Rattle.jobs.specs.Letters.{kind_of, call_by, is_letter}
use Rattle.jobs.specs.Table.{TableOut}
use Rattle.payloads.specs.Payload.{job_number}
use Rattle.jobcodec.specs.JobWrite.{job_write_under}
use Rattle.jobcodec.specs.JobRead.{JobRead, job_read_under}
use Rattle.text.specs.Text.{decimal, hex}
use Rattle.records.specs.Session.{Session, max_records, next_session}
use Rattle.lines.specs.Lines.{refusal_line, served_line, stop_line, end_line, letter_s, letter_l, letter_w, letter_r}
use Rattle.records.specs.Records.{record_head_len, letter_of, is_empty, current, payload_len_of, readable, figures_in, long_figures_in, record_starts, payload_of}

-- ---- What a step gives: the session afterwards, the line, and whether the program ends

pub record Step : Type 0 where
  pub next : Session
  pub line : List ℕ
  pub stops : Bool

-- prints "stop 11" and ends
abbrev pub stopped : Session → Step
stopped s = record { next = s; line = stop_line; stops = true }

-- "end of input prints "end""
abbrev pub ended : Session → Step
ended s = record { next = s; line = end_line; stops = true }

abbrev pub goes_on : Session → List ℕ → Step
goes_on s l = record { next = s; line = l; stops = false }

-- "after S also T, r, k"; "A refused S keeps the former figures." The table "outlasts an S". Document 02, ticket 1: L "prints as S does"; "A refused L keeps
-- the former figures"
abbrev pub figures_step : Session → ℕ → Figures → FiguresOut → Step
figures_step s letter f (figured t r k) = goes_on (next_session s (some f) s.table) (served_line letter (decimal t ∷ decimal r ∷ decimal k ∷ []))
figures_step s letter f (unserved a) = goes_on (next_session s s.figures s.table) (refusal_line letter a)

-- "O (open), C (cancel), F (finish) a job number (4)": the table that the call hands back
abbrev pub call_step : Session → ℕ → TableOut → Step
call_step s letter out = goes_on (next_session s s.figures out.table) (refusal_line letter out.answer)

-- a record that changes nothing but the count; what comes behind the 0
abbrev pub job_step : Session → ℕ → ℕ → List (List ℕ) → Step
job_step s letter answer fields =
    goes_on (next_session s s.figures s.table) (must (eqb answer served) (refusal_line letter answer) (served_line letter fields))

-- "after W the word in hex"
abbrev pub write_step : Session → Encoded → Step
write_step s out = job_step s letter_w out.answer (hex out.word ∷ [])

-- "after R the number and text in hex"
abbrev pub read_step : Session → JobRead → Step
read_step s out = job_step s letter_r out.answer (hex (take 4 out.payload) ∷ hex (drop 4 out.payload) ∷ [])

-- the lent word holds 0 before it is written, and the lent payload before it is read: what a refused job leaves there is not printed
abbrev pub write_out : Session → List ℕ → Option Figures → Step
write_out s bytes none = stopped s
write_out s bytes (some f) = write_step s (job_write_under (coding_of f) s.table (record_starts f bytes) (payload_of f bytes)
    (replicate (coding_of f).codec.word_len 0))

abbrev pub read_out : Session → List ℕ → Option Figures → Step
read_out s bytes none = stopped s
read_out s bytes (some f) = read_step s (job_read_under (coding_of f) s.table (drop record_head_len bytes) (replicate (payload_len_of f) 0))

-- a record of its letter's length
unfoldable pub serve_out : Session → ℕ → List ℕ → Step
serve_out s letter bytes =
    cond (eqb letter letter_s) (figures_step s letter (figures_in bytes) (figures_under (coding_of (figures_in bytes))))
    (cond (eqb letter letter_l) (figures_step s letter (long_figures_in bytes) (figures_under (coding_of (long_figures_in bytes))))
    (cond (is_letter letter) (call_step s letter (call_by (kind_of letter) s.table (job_number (drop record_head_len bytes))))
    (cond (eqb letter letter_w) (write_out s bytes (current s.figures))
    (cond (eqb letter letter_r) (read_out s bytes (current s.figures))
    (stopped s)))))

-- one record; no bytes at all are the end of input
unfoldable pub step_out : Session → List ℕ → Step
step_out s bytes =
    cond (is_empty bytes) (ended s)
    (must (ltb s.count max_records) (stopped s)
    (must (readable s bytes) (stopped s)
    (serve_out s (letter_of bytes) bytes)))
