-- Demand 1 of the transfer program, record by record. Assumes nothing.
use mathlib.Core.Path.{◌≡◌, refl, ap₂}
use mathlib.Core.Logic.{◌≢◌}
use mathlib.Core.Bool.{Bool, true, false, cond, ◌&&◌, false≢true}
use mathlib.Core.List.{List, [], ◌∷◌}
use mathlib.Core.Option.{Option, none, some}
use Prim.Native.Nat.{ℕ, ◌+◌}
use lib.Dec.{eqb, ltb}
use lib.ListN.{take, drop, replicate}
use Rattle.refusals.specs.Refusals.{must, served, invalid, unfit}
use Rattle.combinatorics.specs.Lists.{any}
use Rattle.combinatorics.proofs.Lists.{in_all, both}
use Rattle.combinatorics.proofs.Cases.{by-eq, eqb-true, eqb-other}
use Rattle.cells.specs.Outcomes.{FiguresOut, figures_under}
use Rattle.codes.specs.declared.Figures.{Figures}
use Rattle.codes.specs.Bridge.{coding_of}
use Rattle.jobs.specs.Jobs.{Kind}
use Rattle.jobs.specs.Letters.{kind_of, call_by, is_letter}
use Rattle.payloads.specs.Payload.{job_number}
use Rattle.jobcodec.specs.DemandThree.{is_refusal}
use Rattle.jobcodec.specs.JobWrite.{job_write_under}
use Rattle.jobcodec.specs.JobRead.{job_read_under}
use Rattle.text.specs.Text.{decimal, hex}
use Rattle.records.specs.Session.{Session, max_records, next_session}
use Rattle.lines.specs.Lines.{refusal_line, served_line, letter_s, letter_l, letter_w, letter_r}
use Rattle.records.specs.Records.{record_head_len, letter_of, is_empty, current, payload_len_of, figures_in, long_figures_in, record_starts, payload_of, readable}
use Rattle.records.specs.Records.{is_whole, write_len, read_len, record_len}
use Rattle.records.proofs.Readable.{readable-whole}
use Rattle.transfer.specs.Steps.{Step, stopped, ended, goes_on, figures_step, call_step, job_step, write_out, read_out, serve_out, step_out}
use Rattle.demands.specs.Orders.{own_of, job_write, job_read, call_by_letter}
use Rattle.demands.proofs.Answering.{tested, owns, orders}
use Rattle.demands.proofs.Jobs.{call-by, job-write, job-read}
use Rattle.demands.specs.DemandOne.{AnswersBy, is_taken, StepAnswers, at-end, stops, refuses, serves}

-- an answer other than 0 is in document 01's lists
listed : {A : Type 0} {lent left : A} (order : List ℕ) (a : ℕ) → AnswersBy order a lent left → a ≢ served → is_refusal a ≡ true
unfolding any
listed order a h d = in_all is_refusal order a h.numbers (rw (eqb-other a served d) at h.answer)

-- a record that is taken
module _ (s : Session) (bytes : List ℕ) (taken : is_taken s bytes ≡ true) where
  abbrev letter : ℕ
  letter = letter_of bytes

  abbrev Answers : Step → Type 0
  Answers = StepAnswers s bytes

  figures-step : (f : Figures) → Answers (figures_step s letter f (figures_under (coding_of f)))
  unfolding is_refusal any
  figures-step f =
      let P : FiguresOut → Type 0 = λ o. Answers (figures_step s letter f o) in
      let d = coding_of f in
      tested P d.in_range (refuses taken invalid refl)
      (tested P d.fits (refuses taken unfit refl)
      (serves taken (some f) s.table (decimal d.placement_count_of ∷ decimal d.index_tail_of ∷ decimal d.codec.message_len_of ∷ [])))

  call-step : (k : Option Kind) (n : ℕ) → Answers (call_step s letter (call_by k s.table n))
  call-step k n =
      let o = call_by k s.table n in
      let h = call-by s.table k n in
      by-eq o.answer served (λ _. Answers (call_step s letter o))
      (λ e. rw e (serves taken s.figures o.table []))
      (λ d. rw (h.keeps d) (refuses taken o.answer (listed (call_by_letter k) o.answer h d)))

  job-step : {A : Type 0} {lent left : A} (order : List ℕ) (a : ℕ) (fields : List (List ℕ)) → AnswersBy order a lent left → Answers (job_step s letter a fields)
  job-step order a fields h =
      by-eq a served (λ t. Answers (goes_on (next_session s s.figures s.table) (must t (refusal_line letter a) (served_line letter fields))))
      (λ _. serves taken s.figures s.table fields)
      (λ d. refuses taken a (listed order a h d))

  write-step : (f : Option Figures) → letter ≡ letter_w → is_whole bytes (write_len f) ≡ true → Answers (write_out s bytes f)
  write-step none e h = absurd (false≢true h)
  write-step (some f) e h =
      let d = coding_of f in
      let zeros : List ℕ = replicate d.codec.word_len 0 in
      let o = job_write_under d s.table (record_starts f bytes) (payload_of f bytes) zeros in
      rw (← e) (job-step job_write o.answer (hex o.word ∷ []) (job-write d s.table (record_starts f bytes) (payload_of f bytes) zeros))

  read_step : (f : Option Figures) → letter ≡ letter_r → is_whole bytes (read_len f) ≡ true → Answers (read_out s bytes f)
  read_step none e h = absurd (false≢true h)
  read_step (some f) e h =
      let d = coding_of f in
      let zeros : List ℕ = replicate (payload_len_of f) 0 in
      let o = job_read_under d s.table (drop record_head_len bytes) zeros in
      let own = own_of f in
      rw (← e) (job-step (job_read own) o.answer (hex (take 4 o.payload) ∷ hex (drop 4 o.payload) ∷ [])
      (job-read (job_read own) (orders f).job d (owns f (job_read own) (orders f).job-own) s.table (drop record_head_len bytes) zeros))

  served-step : Answers (serve_out s letter bytes)
  unfolding serve_out record_len
  served-step =
      go (eqb letter letter_s) (eqb letter letter_l) (is_letter letter) (eqb letter letter_w) (eqb letter letter_r)
      (eqb-true letter letter_w) (eqb-true letter letter_r)
      (readable-whole s bytes (both (ltb s.count max_records) (readable s bytes) taken).1)
    where
      go : (a l b c d : Bool) → (c ≡ true → letter ≡ letter_w) → (d ≡ true → letter ≡ letter_r)
          → is_whole bytes (cond a (some (record_head_len + 6)) (cond l (some (record_head_len + 5)) (cond b (some (record_head_len + 4))
          (cond c (write_len (current s.figures)) (cond d (read_len (current s.figures)) none))))) ≡ true
          → Answers (cond a (figures_step s letter (figures_in bytes) (figures_under (coding_of (figures_in bytes))))
          (cond l (figures_step s letter (long_figures_in bytes) (figures_under (coding_of (long_figures_in bytes))))
          (cond b (call_step s letter (call_by (kind_of letter) s.table (job_number (drop record_head_len bytes))))
          (cond c (write_out s bytes (current s.figures)) (cond d (read_out s bytes (current s.figures)) (stopped s))))))
      go true l b c d y z h = figures-step (figures_in bytes)
      go false true b c d y z h = figures-step (long_figures_in bytes)
      go false false true c d y z h = call-step (kind_of letter) (job_number (drop record_head_len bytes))
      go false false false true d y z h = write-step (current s.figures) (y refl) h
      go false false false false true y z h = read_step (current s.figures) (z refl) h
      go false false false false false y z h = absurd (false≢true h)

pub step : (s : Session) (bytes : List ℕ) → StepAnswers s bytes (step_out s bytes)
unfolding step_out
step s bytes = go (is_empty bytes) (ltb s.count max_records) (readable s bytes) refl refl refl
  where
    go : (a b c : Bool) → is_empty bytes ≡ a → ltb s.count max_records ≡ b → readable s bytes ≡ c
        → StepAnswers s bytes (cond a (ended s) (must b (stopped s) (must c (stopped s) (serve_out s (letter_of bytes) bytes))))
    go true b c x y z = at-end x
    go false false c x y z = stops x (ap₂ ◌&&◌ y z)
    go false true false x y z = stops x (ap₂ ◌&&◌ y z)
    go false true true x y z = served-step s bytes (ap₂ ◌&&◌ y z)
