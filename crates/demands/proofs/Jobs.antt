-- Demand 1 of the calls on the job table, and of writing and reading jobs. Assumes nothing.
use mathlib.Core.Path.{refl, ap}
use mathlib.Core.Bool.{not, ◌&&◌}
use mathlib.Core.List.{List}
use mathlib.Core.Option.{Option, none, some}
use Prim.Native.Nat.{ℕ}
use lib.Dec.{eqb}
use lib.ListN.{length}
use Rattle.refusals.specs.Refusals.{served}
use Rattle.combinatorics.specs.Lists.{all, any, all_below}
use Rattle.combinatorics.specs.Bursts.{apart}
use Rattle.cells.specs.Bytes.{payload_len}
use Rattle.cells.specs.Outcomes.{Coding, Held, in_use, unwritten}
use Rattle.jobs.specs.declared.Entry.{Entry}
use Rattle.jobs.specs.declared.Entry.TheVariants.{Free, Open, OnHold, Cancelled}
use Rattle.jobs.specs.Jobs.{Kind, opening, cancelling, finishing, reinstating, holding, releasing, is_job}
use Rattle.jobs.specs.Letters.{call_by, is_list_letter}
use Rattle.ledger.specs.Replay.{lengths_fit, ReplayOut, replay_out}
use Rattle.jobs.specs.Table.{is_free, lookup, TableOut, put, twice, decide, open_job, open_at, cancel_at, finish_at, reinstate_at, hold_at, release_at, open_out}
use Rattle.jobs.specs.Table.{cancel_out, finish_out, reinstate_out, hold_out, release_out, call_as}
use Rattle.payloads.specs.Payload.{payload_in, spells_payload, job_number}
use Rattle.jobcodec.specs.DemandThree.{is_refusal}
use Rattle.jobcodec.specs.JobWrite.{job_status, job_write_under}
use Rattle.jobcodec.specs.JobRead.{JobRead, withhold, job_in, job_reading, job_read_under}
use Rattle.jobcodec.specs.ListRead.{ListOut, list_out}
use Rattle.demands.specs.Orders.{job_write, call, call_by_letter}
use Rattle.demands.specs.Orders.{list_of_calls}
use Rattle.demands.proofs.Answering.{keep, done, tested, where-open, job-tests, Owns, by-own, BeginsJob}
use Rattle.demands.proofs.Answering.{Writes}
use Rattle.demands.specs.DemandOne.{AnswersBy, ListAnswers}

-- ---- The job table

module _ (es : List Entry) where
  abbrev Calls : List ℕ → TableOut → Type 0
  Calls order o = AnswersBy order o.answer es o.table

  open-entry : (e : Entry) (n : ℕ) → Calls (call opening) (open_job e n es)
  unfolding put is_refusal all any
  open-entry (Cancelled x was) n = keep refl refl
  open-entry (Open x) n = keep refl refl
  open-entry (OnHold x) n = keep refl refl
  open-entry Free n = tested (Calls (call opening)) (any is_free es) (keep refl refl) (done refl)

  open-at : (e : Entry) (n : ℕ) → Calls (call opening) (open_at e n es)
  unfolding is_refusal all any
  open-at e n = tested (Calls (call opening)) (is_job n) (keep refl refl) (open-entry e n)

  cancel-at : (e : Entry) (n : ℕ) → Calls (call cancelling) (cancel_at e n es)
  unfolding put is_refusal all any
  cancel-at (Cancelled x was) n = keep refl refl
  cancel-at (Open x) n = done refl
  cancel-at (OnHold x) n = done refl
  cancel-at Free n =
      tested (Calls (call cancelling)) (is_job n) (keep refl refl) (tested (Calls (call cancelling)) (any is_free es) (keep refl refl) (done refl))

  finish-at : (e : Entry) (n : ℕ) → Calls (call finishing) (finish_at e n es)
  unfolding is_refusal all any
  finish-at (Cancelled x was) n = keep refl refl
  finish-at (OnHold x) n = keep refl refl
  finish-at (Open x) n = done refl
  finish-at Free n = keep refl refl

  reinstate-at : (e : Entry) (n : ℕ) → Calls (call reinstating) (reinstate_at e n es)
  unfolding is_refusal all any
  reinstate-at (Cancelled x was) n = done refl
  reinstate-at (Open x) n = keep refl refl
  reinstate-at (OnHold x) n = keep refl refl
  reinstate-at Free n = keep refl refl

  hold-at : (e : Entry) (n : ℕ) → Calls (call holding) (hold_at e n es)
  unfolding is_refusal all any
  hold-at (Cancelled x was) n = keep refl refl
  hold-at (OnHold x) n = keep refl refl
  hold-at (Open x) n = done refl
  hold-at Free n = keep refl refl

  release-at : (e : Entry) (n : ℕ) → Calls (call releasing) (release_at e n es)
  unfolding is_refusal all any
  release-at (Cancelled x was) n = keep refl refl
  release-at (OnHold x) n = done refl
  release-at (Open x) n = keep refl refl
  release-at Free n = keep refl refl

  pub open-job : (n : ℕ) → Calls (call opening) (open_out es n)
  unfolding decide is_refusal all any
  open-job n = tested (Calls (call opening)) (not (twice es)) (keep refl refl) (open-at (lookup es n) n)

  pub cancel-job : (n : ℕ) → Calls (call cancelling) (cancel_out es n)
  unfolding decide is_refusal all any
  cancel-job n = tested (Calls (call cancelling)) (not (twice es)) (keep refl refl) (cancel-at (lookup es n) n)

  pub finish-job : (n : ℕ) → Calls (call finishing) (finish_out es n)
  unfolding decide is_refusal all any
  finish-job n = tested (Calls (call finishing)) (not (twice es)) (keep refl refl) (finish-at (lookup es n) n)

  pub reinstate-job : (n : ℕ) → Calls (call reinstating) (reinstate_out es n)
  unfolding decide is_refusal all any
  reinstate-job n = tested (Calls (call reinstating)) (not (twice es)) (keep refl refl) (reinstate-at (lookup es n) n)

  pub hold-job : (n : ℕ) → Calls (call holding) (hold_out es n)
  unfolding decide is_refusal all any
  hold-job n = tested (Calls (call holding)) (not (twice es)) (keep refl refl) (hold-at (lookup es n) n)

  pub release-job : (n : ℕ) → Calls (call releasing) (release_out es n)
  unfolding decide is_refusal all any
  release-job n = tested (Calls (call releasing)) (not (twice es)) (keep refl refl) (release-at (lookup es n) n)

  pub call-as : (k : Kind) (n : ℕ) → Calls (call k) (call_as k es n)
  call-as opening n = open-job n
  call-as cancelling n = cancel-job n
  call-as finishing n = finish-job n
  call-as reinstating n = reinstate-job n
  call-as holding n = hold-job n
  call-as releasing n = release-job n

  pub call-by : (k : Option Kind) (n : ℕ) → Calls (call_by_letter k) (call_by k es n)
  unfolding is_refusal all any
  call-by none n = keep refl refl
  call-by (some k) n = call-as k n

abbrev Replays : List Entry → List ℕ → ReplayOut → Type 0
Replays es answers o = AnswersBy {A = List Entry × List ℕ} list_of_calls o.answer (es, answers) (o.table, o.answers)

pub replay : (es : List Entry) (letters numbers answers : List ℕ) → Replays es answers (replay_out es letters numbers answers)
unfolding replay_out is_refusal all any
replay es letters numbers answers =
    let P = Replays es answers in
    tested P (lengths_fit letters numbers answers) (keep refl refl)
    (tested P (all is_list_letter letters) (keep refl refl)
    (done refl))

-- ---- Jobs

pub job-write : (d : Coding) (es : List Entry) (at : Held) (payload out : List ℕ) → Writes job_write out (job_write_under d es at payload out)
unfolding is_refusal all any
job-write d es at payload out =
    let P = Writes job_write out in
    let c = d.codec in
    let q = c.alphabet in
    let k = c.message_len_of in
    job-tests P d es (keep refl refl) (keep refl refl) (keep refl refl)
    (tested P (eqb at.count d.bursts && eqb (length payload) (payload_len q k) && eqb (length out) c.word_len) (keep refl refl)
    (tested P (apart d.burst_len c.word_len 0 (in_use at)) (keep refl refl)
    (tested P (is_job (job_number payload)) (keep refl refl)
    (where-open P (unwritten out) (job_status es payload) (keep refl refl) (keep refl refl) (keep refl refl) (done refl)))))

abbrev pub ReadsJob : List ℕ → List ℕ → JobRead → Type 0
ReadsJob order out o = AnswersBy order o.answer out o.payload

module _ (order : List ℕ) (b : BeginsJob order) (d : Coding) (own : Owns order d) where
  pub job-read : (es : List Entry) (w out : List ℕ) → ReadsJob order out (job_read_under d es w out)
  unfolding job_reading
  job-read es w out =
      let P = ReadsJob order out in
      let n = b.begins.numbers in
      let c = d.codec in
      let q = c.alphabet in
      let k = c.message_len_of in
      job-tests P d es (keep n b.begins.one) (keep n b.begins.two) (keep n b.ten)
      (tested P (eqb (length w) c.word_len && eqb (length out) (payload_len q k)) (keep n b.begins.three)
      (tested P (all_below c.found_bound w) (keep n b.begins.four)
      (by-own (λ r. P (job_in q k es out r)) (λ a h. keep n h)
      (λ ss ms. tested P (spells_payload q k ms) (keep n b.ten)
      (where-open P (withhold out) (job_status es (payload_in q k ms)) (keep n b.twelve) (keep n b.twenty-three) (keep n b.fourteen) (done n)))
      (c.decode w) (own w))))

  pub list-and-read : (es : List Entry) (letters numbers answers w out : List ℕ)
      → ListAnswers order (list_out d es letters numbers answers w out).answer answers out (list_out d es letters numbers answers w out)
  unfolding list_out
  list-and-read es letters numbers answers w out =
      let r = replay_out es letters numbers answers in
      let h = replay es letters numbers answers in
      tested (λ (o : ListOut). ListAnswers order o.answer answers out o) (eqb r.answer served)
      (record { numbers = h.numbers; answer = h.answer; keeps = λ d. ap (λ (x : List Entry × List ℕ). (x.1, out)) (h.keeps d) })
      (job-read r.table w out)
