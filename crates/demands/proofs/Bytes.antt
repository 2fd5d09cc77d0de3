-- Demand 1 of the calls for other languages, with starts and job tables as bytes. Assumes nothing.
use mathlib.Core.Path.{◌≡◌, refl, ap}
use mathlib.Core.Bool.{true}
use mathlib.Core.List.{List, [], ◌∷◌}
use Prim.Native.Nat.{ℕ, ◌*◌}
use lib.Dec.{eqb}
use lib.ListN.{length}
use Rattle.refusals.specs.Refusals.{served, invalid, wrong_length}
use Rattle.combinatorics.specs.Lists.{all, any}
use Rattle.cells.specs.Outcomes.{Coding, Held, held, unwritten, cover_under}
use Rattle.cells.specs.Outcomes.{WordAnswer, rank_is, refusal, answer_number, decode_under}
use Rattle.jobs.specs.Jobs.{Kind, opening, cancelling, finishing, reinstating, holding, releasing}
use Rattle.jobs.specs.Table.{TableOut, call_as}
use Rattle.decoder.specs.Exported.{Exported, exported_answer, exported_under}
use Rattle.jobcodec.specs.DemandThree.{is_refusal}
use Rattle.jobcodec.specs.JobRead.{withhold}
use Rattle.lent.specs.Covering.{CoverLent, cover_bytes_under}
use Rattle.lent_jobs.specs.Jobs.{job_write_bytes_under, job_read_bytes_under}
use Rattle.lent.specs.Words.{encode_bytes_under}
use Rattle.lent_jobs.specs.Table.{table_len, states_known, table_in}
use Rattle.lent.specs.Check.{verify_bytes_under}
use Rattle.lent_jobs.specs.Calls.{CallLent, called_as, call_bytes_out}
use Rattle.lent.specs.Figures.{FiguresLent, figures_lent_under}
use Rattle.demands.specs.Orders.{word_write, covering, job_write, call, call_on_bytes, lent_figures}
use Rattle.demands.proofs.Answering.{keep, done, tested, Owns, Begins, BeginsJob}
use Rattle.demands.proofs.Answering.{with-table, one_more, Writes}
use Rattle.demands.proofs.Words.{word-write, cover, ReadsBehind, word-read, turned-away, verify}
use Rattle.demands.proofs.Jobs.{call-as, job-write, ReadsJob, job-read}
use Rattle.demands.specs.DemandOne.{AnswersBy, ChecksBy}

pub word-write-bytes : (d : Coding) (starts ms out : List ℕ) → Writes word_write out (encode_bytes_under d starts ms out)
unfolding encode_bytes_under is_refusal all any
word-write-bytes d starts ms out =
    let P = Writes word_write out in
    tested P d.in_range (keep refl refl)
    (tested P d.fits (keep refl refl)
    (tested P (eqb (length starts) (2 * d.bursts)) (keep refl refl)
    (word-write d _ ms out)))

pub verify-bytes : (d : Coding) (starts ms w : List ℕ) → ChecksBy (verify_bytes_under d starts ms w)
unfolding verify_bytes_under any
verify-bytes d starts ms w =
    tested ChecksBy d.in_range (turned-away 0 refl refl)
    (tested ChecksBy d.fits (turned-away 1 refl refl)
    (tested ChecksBy (eqb (length starts) (2 * d.bursts)) (turned-away 2 refl refl)
    (verify d _ ms w)))

module _ (starts : List ℕ) where
  abbrev CoversIn : CoverLent → Type 0
  CoversIn o = AnswersBy covering o.answer starts o.starts

  pub cover-bytes : (d : Coding) (map : List ℕ) → CoversIn (cover_bytes_under d map starts)
  unfolding is_refusal all any
  cover-bytes d map =
      let h = cover d map in
      tested CoversIn d.in_range (keep refl refl)
      (tested CoversIn d.fits (keep refl refl)
      (tested CoversIn (eqb (length starts) (2 * d.bursts)) (keep refl refl)
      (tested CoversIn (eqb (cover_under d map).answer served) (keep h.numbers h.answer) (done h.numbers))))

module _ (out starts : List ℕ) where
  abbrev ReadsIn : List ℕ → Exported → Type 0
  ReadsIn order o = AnswersBy {A = List ℕ × List ℕ} order o.answer (out, starts) (o.message, o.starts)

  read-in : (order : List ℕ) (a : WordAnswer) (at : Held) (ms : List ℕ)
      → AnswersBy {A = Held × List ℕ} order (answer_number a) (held [], out) (at, ms) → ReadsIn order (exported_answer starts a at ms)
  read-in order (rank_is v) at ms h = done h.numbers
  read-in order (refusal a) at ms h =
      record { numbers = h.numbers; answer = h.answer; keeps = λ d. ap (λ (x : Held × List ℕ). (x.1, starts)) (h.keeps d) }

  pub word-read-bytes : (order : List ℕ) → Begins order → (d : Coding) → ReadsBehind order d → (w : List ℕ) → ReadsIn order (exported_under d w out starts)
  word-read-bytes order b d behind w =
      let P = ReadsIn order in
      let r = decode_under d w out in
      tested P d.in_range (keep b.numbers b.one)
      (tested P d.fits (keep b.numbers b.two)
      (tested P (eqb (length starts) (2 * d.bursts)) (keep b.numbers b.three)
      (read-in order r.answer r.placement r.message (word-read order b d behind w out))))

pub job-write-bytes : (d : Coding) (table starts payload out : List ℕ) → Writes job_write out (job_write_bytes_under d table starts payload out)
unfolding job_write_bytes_under is_refusal all any
job-write-bytes d table starts payload out =
    with-table (Writes job_write out) d table (eqb (length starts) (2 * d.bursts)) (unwritten out) (keep refl refl) (keep refl refl) (keep refl refl)
    (keep refl refl) (job-write d (table_in table) _ payload out)

pub job-read-bytes : (order : List ℕ) → BeginsJob order → (d : Coding) → Owns order d → (table w out : List ℕ)
    → ReadsJob order out (job_read_bytes_under d table w out)
unfolding job_read_bytes_under
job-read-bytes order b d own table w out =
    let n = b.begins.numbers in
    with-table (ReadsJob order out) d table true (withhold out) (keep n b.begins.one) (keep n b.begins.two) (keep n b.ten)
    (keep n b.begins.three) (job-read order b d own (table_in table) w out)

module _ (table : List ℕ) (k : Kind) where
  abbrev CallsIn : CallLent → Type 0
  CallsIn o = AnswersBy (call_on_bytes k) o.answer table o.table

  call-in : (out : TableOut) → AnswersBy (call k) out.answer (table_in table) out.table → CallsIn (called_as table out)
  unfolding is_refusal all any
  call-in out h =
      tested CallsIn (eqb out.answer served)
      (keep h.numbers (one_more (eqb out.answer served) (eqb out.answer wrong_length) (any (eqb out.answer) (call k)) h.answer))
      (done h.numbers)

  pub call-bytes : (number : ℕ) → CallsIn (call_bytes_out (call_as k) table number)
  unfolding call_bytes_out is_refusal all any
  call-bytes number =
      let h = call-as (table_in table) k number in
      tested CallsIn (eqb (length table) table_len) (keep h.numbers refl)
      (tested CallsIn (states_known table) (keep h.numbers (first k)) (call-in (call_as k (table_in table) number) h))
    where
      first : (k : Kind) → any (eqb invalid) (served ∷ call_on_bytes k) ≡ true
      first opening = refl
      first cancelling = refl
      first finishing = refl
      first reinstating = refl
      first holding = refl
      first releasing = refl

pub figures-lent : (d : Coding) (out : List ℕ) → AnswersBy lent_figures (figures_lent_under d out).answer out (figures_lent_under d out).figures
unfolding figures_lent_under is_refusal all any
figures-lent d out =
    let P : FiguresLent → Type 0 = λ o. AnswersBy lent_figures o.answer out o.figures in
    tested P d.in_range (keep refl refl)
    (tested P d.fits (keep refl refl)
    (tested P (eqb (length out) 4) (keep refl refl) (done refl)))
