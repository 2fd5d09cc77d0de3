-- Demand 1, of the outcome of every entry point and for every input: the answer is 0 or a listed number, and where it is not 0 nothing has changed. That
-- each call ends and touches lent memory alone is what a proved function has; that its answer and lent memory are these outcomes is its contract. The
-- proof is `demand-one` of proofs/DemandOne.antt. Two readings one after the other (`decode_both`) are two times word read, and a move there and back is two
-- moves. Assumes nothing.
use Rattle.std.specs.Prelude.{◌≡◌, ◌≢◌, Bool, true, false, ◌&&◌, List, [], ◌∷◌, ℕ, eqb, ltb, Float}
use Rattle.std.proofs.Math.Option.{Option, none}
use Rattle.refusals.specs.Refusals.{served}
use Rattle.combinatorics.specs.Lists.{all, any}
use Rattle.cells.specs.Outcomes.{Held, held, figures_number, figures_under, encode_under, defect_at, cover_under, answer_number, decode_under}
use Rattle.cells.specs.Ranking.{CoversLeast}
use Rattle.codes.specs.declared.Figures.{Figures}
use Rattle.codes.specs.Bridge.{coding_of}
use Rattle.codes.specs.DemandTwo.{DemandTwo}
use Rattle.jobs.specs.declared.Entry.{Entry}
use Rattle.jobs.specs.Jobs.{Kind, opening, cancelling, finishing, reinstating, holding, releasing}
use Rattle.jobs.specs.Letters.{call_by}
use Rattle.ledger.specs.Replay.{replay_out}
use Rattle.ledger.specs.Simulation.{Simulation}
use Rattle.jobs.specs.Table.{open_out, cancel_out, finish_out, reinstate_out, hold_out, release_out, call_as}
use Rattle.decoder.specs.Exported.{exported_under}
use Rattle.jobcodec.specs.DemandThree.{is_refusal}
use Rattle.jobcodec.specs.JobWrite.{job_write_under}
use Rattle.jobcodec.specs.JobRead.{job_read_under}
use Rattle.jobcodec.specs.ListRead.{ListSaid, list_refused, job_answer, ListOut, list_out}
use Rattle.prescription.specs.declared.eyes.Eye.{Eye}
use Rattle.prescription.specs.declared.texts.Prescription.{Prescription}
use Rattle.prescription.specs.Outcomes.{transpose_out, equivalent_out, read_text_out, write_text_out}
use Rattle.prescriptioncodec.specs.PrescriptionWrite.{prescription_write_under}
use Rattle.prescriptioncodec.specs.PrescriptionRead.{prescription_read_under}
use Rattle.moving.specs.Move.{move_under}
use Rattle.lanes.specs.Outcomes.{interleave_under, deinterleave_under}
use Rattle.verifier.specs.Verify.{Verdict, agreeing, verdict_refusal, verify_under}
use Rattle.lent_jobs.specs.Calls.{call_bytes_out}
use Rattle.lent.specs.Check.{differs, verdict_number, verify_bytes_under}
use Rattle.lent.specs.Covering.{cover_bytes_under}
use Rattle.lent.specs.Figures.{figures_lent_under}
use Rattle.lent_jobs.specs.Jobs.{job_write_bytes_under, job_read_bytes_under}
use Rattle.lent.specs.Words.{encode_bytes_under}
use Rattle.lent_moving.specs.Moves.{move_bytes_under}
use Rattle.lent_prescriptions.specs.Eyes.{PowersLent, transpose_lent, equivalent_lent}
use Rattle.lent_prescriptions.specs.Prescriptions.{prescription_write_bytes_under, prescription_read_bytes_under}
use Rattle.records.specs.Session.{Session, max_records, next_session}
use Rattle.lines.specs.Lines.{refusal_line, served_line}
use Rattle.records.specs.Records.{letter_of, is_empty, readable}
use Rattle.transfer.specs.Steps.{Step, stopped, ended, goes_on, step_out}
use Rattle.demands.specs.Orders.{own_of, figures_alone, lent_figures, word_write, covering, word_read, rearrangement, job_write, job_read, moving}
use Rattle.demands.specs.Orders.{prescription_alone, prescription_write, prescription_read, prescription_lent, call, call_by_letter, call_on_bytes}
use Rattle.demands.specs.Orders.{list_of_calls}

-- A call whose order is given answers a; what was lent is then `left`.
pub record AnswersBy {A : Type 0} (order : List ℕ) (a : ℕ) (lent left : A) : Type 0 where
  -- the order has numbers of document 01's two lists, which document 02's join
  pub numbers : all is_refusal order ≡ true
  -- 0, or a number of the order
  pub answer : any (eqb a) (served ∷ order) ≡ true
  -- "Every refusal returns its number only; output buffers and book keep their contents."
  pub keeps : a ≢ served → left ≡ lent

-- The check of a word: what it refuses with is in the order of word write, and "no" is no refusal. As a number for other languages 0 is "yes" and nothing
-- else, and "no" is none of the listed numbers.
pub record ChecksBy (o : Verdict) : Type 0 where
  pub refusal : any (eqb (verdict_refusal o)) (served ∷ word_write) ≡ true
  pub number : any (eqb (verdict_number o)) (served ∷ differs ∷ word_write) ≡ true
  pub only_yes : verdict_number o ≡ served → o ≡ agreeing
  pub no-refusal : is_refusal differs ≡ false

-- Marks and powers are lent together.
abbrev pub AnswersLent : List ℕ → List ℕ → List Float → PowersLent → Type 0
AnswersLent order marks powers o = AnswersBy {A = List ℕ × List Float} order o.answer (marks, powers) (o.marks, o.powers)

-- A list of calls and the job reading after it, whose order is given: a list that is refused leaves both buffers; a reading that is refused leaves its own,
-- and the calls were made.
abbrev pub ListAnswers : List ℕ → ListSaid → List ℕ → List ℕ → ListOut → Type 0
ListAnswers order (list_refused a) answers out o = AnswersBy {A = List ℕ × List ℕ} list_of_calls a (answers, out) (o.answers, o.payload)
ListAnswers order (job_answer a) answers out o = AnswersBy order a out o.payload

-- neither "A wrong mark, unknown letter, cut record, W or R before an accepted S" nor "any record after the 4294967295th"
abbrev pub is_taken : Session → List ℕ → Bool
is_taken s bytes = ltb s.count max_records && readable s bytes

-- A step of the transfer program answers by its line: "the letter, 0 or the refusal". A refused record changes neither figures nor table; only the count
-- of records goes on.
pub data StepAnswers (s : Session) (bytes : List ℕ) : Step → Type 0 where
  -- "end of input prints "end""
  at-end : is_empty bytes ≡ true → StepAnswers s bytes (ended s)
  -- one that is not taken "prints "stop 11" and ends"
  stops : is_empty bytes ≡ false → is_taken s bytes ≡ false → StepAnswers s bytes (stopped s)
  -- "It prints one line a record": one that is taken is refused or served
  refuses : is_taken s bytes ≡ true → (a : ℕ) → is_refusal a ≡ true
      → StepAnswers s bytes (goes_on (next_session s s.figures s.table) (refusal_line (letter_of bytes) a))
  serves : is_taken s bytes ≡ true → (f : Option Figures) (es : List Entry) (fields : List (List ℕ))
      → StepAnswers s bytes (goes_on (next_session s f es) (served_line (letter_of bytes) fields))

pub record DemandOne : Type 0 where
  -- ---- Words, under the figures of each code. Nothing is lent to "figures alone"; a refused covering or reading has no start beside it.
  pub figures-alone : (f : Figures) → AnswersBy {A = Unit {0}} figures_alone (figures_number (figures_under (coding_of f))) tt tt
  pub word-write : (f : Figures) (at : Held) (ms out : List ℕ)
      → AnswersBy word_write (encode_under (coding_of f) at ms out).answer out (encode_under (coding_of f) at ms out).word
  pub cover : (f : Figures) (map : List ℕ)
      → AnswersBy covering (cover_under (coding_of f) map).answer (held []) (cover_under (coding_of f) map).placement
  pub word-read : (f : Figures) (w out : List ℕ)
      → AnswersBy {A = Held × List ℕ} (word_read (own_of f)) (answer_number (decode_under (coding_of f) w out).answer) (held [], out)
      ((decode_under (coding_of f) w out).placement, (decode_under (coding_of f) w out).message)
  -- words side by side; the functions for other languages have these outcomes too
  pub interleave : (f : Figures) (d : ℕ) (words out : List ℕ)
      → AnswersBy rearrangement (interleave_under (coding_of f) d words out).answer out (interleave_under (coding_of f) d words out).buffer
  pub deinterleave : (f : Figures) (d : ℕ) (strip out : List ℕ)
      → AnswersBy rearrangement (deinterleave_under (coding_of f) d strip out).answer out (deinterleave_under (coding_of f) d strip out).buffer
  -- ---- The check of a word; nothing that is lent to it is written
  pub verify : (f : Figures) (at : Held) (ms w : List ℕ) → ChecksBy (verify_under (coding_of f) at ms w)
  -- ---- The job table
  pub open-job : (es : List Entry) (n : ℕ) → AnswersBy (call opening) (open_out es n).answer es (open_out es n).table
  pub cancel-job : (es : List Entry) (n : ℕ) → AnswersBy (call cancelling) (cancel_out es n).answer es (cancel_out es n).table
  pub finish-job : (es : List Entry) (n : ℕ) → AnswersBy (call finishing) (finish_out es n).answer es (finish_out es n).table
  pub reinstate-job : (es : List Entry) (n : ℕ) → AnswersBy (call reinstating) (reinstate_out es n).answer es (reinstate_out es n).table
  pub hold-job : (es : List Entry) (n : ℕ) → AnswersBy (call holding) (hold_out es n).answer es (hold_out es n).table
  pub release-job : (es : List Entry) (n : ℕ) → AnswersBy (call releasing) (release_out es n).answer es (release_out es n).table
  pub call-by : (k : Option Kind) (es : List Entry) (n : ℕ) → AnswersBy (call_by_letter k) (call_by k es n).answer es (call_by k es n).table
  pub replay : (es : List Entry) (letters numbers answers : List ℕ)
      → AnswersBy {A = List Entry × List ℕ} list_of_calls (replay_out es letters numbers answers).answer (es, answers)
      ((replay_out es letters numbers answers).table, (replay_out es letters numbers answers).answers)
  -- ---- Jobs
  pub job-write : (f : Figures) (es : List Entry) (at : Held) (payload out : List ℕ)
      → AnswersBy job_write (job_write_under (coding_of f) es at payload out).answer out (job_write_under (coding_of f) es at payload out).word
  pub job-read : (f : Figures) (es : List Entry) (w out : List ℕ)
      → AnswersBy (job_read (own_of f)) (job_read_under (coding_of f) es w out).answer out (job_read_under (coding_of f) es w out).payload
  pub list-and-read : (f : Figures) (es : List Entry) (letters numbers answers w out : List ℕ)
      → ListAnswers (job_read (own_of f)) (list_out (coding_of f) es letters numbers answers w out).answer answers out (list_out (coding_of f) es letters numbers answers w out)
  -- ---- Moving a job from one code to another; "Only the output strip changes."
  pub move : (f g : Figures) (es : List Entry) (w out : List ℕ)
      → AnswersBy (moving (own_of f)) (move_under (coding_of f) (coding_of g) es w out).answer out (move_under (coding_of f) (coding_of g) es w out).word
  -- ---- Prescriptions. A refusal has no value beside it.
  pub transpose : (e : Eye) → AnswersBy prescription_alone (transpose_out e).number none (transpose_out e).value
  pub spherical-equivalent : (e : Eye) → AnswersBy prescription_alone (equivalent_out e).number none (equivalent_out e).value
  pub read-text : (text : List ℕ) → AnswersBy prescription_alone (read_text_out text).number none (read_text_out text).value
  pub write-text : (p : Prescription) (text : List ℕ) → AnswersBy prescription_alone (write_text_out p text).answer text (write_text_out p text).text
  pub prescription-write : (f : Figures) (es : List Entry) (at : Held) (n : ℕ) (p : Prescription) (out : List ℕ)
      → AnswersBy prescription_write (prescription_write_under (coding_of f) es at n p out).answer out (prescription_write_under (coding_of f) es at n p out).word
  pub prescription-read : (f : Figures) (es : List Entry) (w : List ℕ)
      → AnswersBy (prescription_read (own_of f)) (prescription_read_under (coding_of f) es w).number none (prescription_read_under (coding_of f) es w).value
  -- ---- For other languages
  pub figures-lent : (f : Figures) (out : List ℕ)
      → AnswersBy lent_figures (figures_lent_under (coding_of f) out).answer out (figures_lent_under (coding_of f) out).figures
  pub word-read-bytes : (f : Figures) (w out starts : List ℕ)
      → AnswersBy {A = List ℕ × List ℕ} (word_read (own_of f)) (exported_under (coding_of f) w out starts).answer (out, starts)
      ((exported_under (coding_of f) w out starts).message, (exported_under (coding_of f) w out starts).starts)
  pub word-write-bytes : (f : Figures) (starts ms out : List ℕ)
      → AnswersBy word_write (encode_bytes_under (coding_of f) starts ms out).answer out (encode_bytes_under (coding_of f) starts ms out).word
  pub verify-bytes : (f : Figures) (starts ms w : List ℕ) → ChecksBy (verify_bytes_under (coding_of f) starts ms w)
  pub cover-bytes : (f : Figures) (map starts : List ℕ)
      → AnswersBy covering (cover_bytes_under (coding_of f) map starts).answer starts (cover_bytes_under (coding_of f) map starts).starts
  -- the six calls: `call_as` of each kind is its outcome
  pub call-bytes : (k : Kind) (table : List ℕ) (number : ℕ)
      → AnswersBy (call_on_bytes k) (call_bytes_out (call_as k) table number).answer table (call_bytes_out (call_as k) table number).table
  pub job-write-bytes : (f : Figures) (table starts payload out : List ℕ)
      → AnswersBy job_write (job_write_bytes_under (coding_of f) table starts payload out).answer out
      (job_write_bytes_under (coding_of f) table starts payload out).word
  pub job-read-bytes : (f : Figures) (table w out : List ℕ)
      → AnswersBy (job_read (own_of f)) (job_read_bytes_under (coding_of f) table w out).answer out (job_read_bytes_under (coding_of f) table w out).payload
  pub move-bytes : (f g : Figures) (table w out : List ℕ)
      → AnswersBy (moving (own_of f)) (move_bytes_under (coding_of f) (coding_of g) table w out).answer out
      (move_bytes_under (coding_of f) (coding_of g) table w out).word
  pub transpose-lent : (e : Eye) (marks : List ℕ) (powers : List Float) → AnswersLent prescription_lent marks powers (transpose_lent e marks powers)
  pub equivalent-lent : (e : Eye) (power : List Float)
      → AnswersBy prescription_lent (equivalent_lent e power).answer power (equivalent_lent e power).power
  pub prescription-write-bytes : (f : Figures) (table starts : List ℕ) (n : ℕ) (p : Prescription) (out : List ℕ)
      → AnswersBy prescription_write (prescription_write_bytes_under (coding_of f) table starts n p out).answer out
      (prescription_write_bytes_under (coding_of f) table starts n p out).word
  pub prescription-read-bytes : (f : Figures) (table w marks : List ℕ) (powers : List Float)
      → AnswersLent (prescription_read (own_of f)) marks powers (prescription_read_bytes_under (coding_of f) table w marks powers)
  -- ---- The transfer program
  pub step : (s : Session) (bytes : List ℕ) → StepAnswers s bytes (step_out s bytes)
  -- ---- "Each number comes under its condition and under no other": those of the table as the ledger has them, 6 where no placement covers the map,
  -- and 7, 8, 9, 19 and 21 as the found word has them. The others' conditions are the tests in the outcomes themselves.
  pub table-conditions : Simulation
  pub cover-conditions : (f : Figures) → (coding_of f).in_range ≡ true → (coding_of f).fits ≡ true → (map : List ℕ) → CoversLeast (coding_of f) (defect_at map)
  pub read-conditions : DemandTwo
