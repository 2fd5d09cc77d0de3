-- Demand 1 holds of the outcomes of every prescription call. Assumes nothing.
use mathlib.Core.Path.{◌≡◌, refl}
use mathlib.Core.Bool.{true, not, ◌&&◌}
use mathlib.Core.List.{List, ◌∷◌}
use mathlib.Core.Option.{Option, none, some}
use Prim.Native.Nat.{ℕ, ◌*◌}
use native.Mathlib.Omega.{arith}
use lib.Dec.{eqb, leb}
use lib.Ieee.{Float}
use lib.ListN.{length, drop}
use Rattle.refusals.specs.Refusals.{served, wrong_length, bad_prescription}
use Rattle.combinatorics.specs.Bursts.{apart}
use Rattle.combinatorics.specs.Lists.{all, any, all_below}
use Rattle.cells.specs.Bytes.{payload_len}
use Rattle.cells.specs.Outcomes.{Coding, Held, in_use, unwritten}
use Rattle.jobs.specs.declared.Entry.{Entry}
use Rattle.jobs.specs.Jobs.{is_job}
use Rattle.jobs.specs.Table.{twice}
use Rattle.payloads.specs.Payload.{carries_job, job_number, payload_in, spells_payload}
use Rattle.jobcodec.specs.DemandThree.{is_refusal}
use Rattle.jobcodec.specs.JobWrite.{job_status}
use Rattle.prescription.specs.declared.eyes.Eye.{Eye}
use Rattle.prescription.specs.declared.texts.Prescription.{Prescription}
use Rattle.prescription.specs.Fractions.{fraction}
use Rattle.prescription.specs.Lens.{transposed, equivalent}
use Rattle.prescription.specs.Eyes.{lens_of, eye_of, Prescribed, prescribed_of, prescription_of}
use Rattle.prescription.specs.Stored.{stored_len, prescribed_in}
use Rattle.prescription.specs.Outcomes.{Answered, refused, or_refused, transpose_out, equivalent_out, read_text_out, Written, written_or, write_text_out}
use Rattle.prescriptioncodec.specs.PrescriptionWrite.{number_len, prescription_payload, min_prescription_len, write_prescribed, prescription_write_under}
use Rattle.prescriptioncodec.specs.PrescriptionRead.{HandedOut, hand_prescription, prescription_in, prescription_reading, prescription_read_under}
use Rattle.lent_prescriptions.specs.Eyes.{marks_of, powers_of, powers_lent, answer_lent, transpose_lent, PowerLent, equivalent_lent_as, equivalent_lent}
use Rattle.lent_prescriptions.specs.Prescriptions.{handed_marks, handed_powers, have_room, prescription_write_bytes_under, prescription_read_lent}
use Rattle.lent_prescriptions.specs.Prescriptions.{prescription_read_bytes_under}
use Rattle.lent_jobs.specs.Table.{table_in}
use Rattle.demands.specs.Orders.{prescription_alone, prescription_write, prescription_lent}
use Rattle.demands.specs.DemandOne.{AnswersBy, AnswersLent}
use Rattle.demands.proofs.Answering.{keep, done, tested, where-open, job-tests, Owns, by-own, BeginsJob, with-table, one_more, Writes}

-- ---- In memory and as a text: 16, or a value

abbrev Answers : {A : Type 0} → List ℕ → Answered A → Type 0
Answers order o = AnswersBy order o.number none o.value

or-refused : {A B : Type 0} (f : A → B) (o : Option A) → Answers prescription_alone (or_refused f o)
unfolding is_refusal all any
or-refused f none = keep refl refl
or-refused f (some x) = done refl

pub transpose : (e : Eye) → Answers prescription_alone (transpose_out e)
unfolding transpose_out
transpose e = or-refused (λ l. eye_of (transposed l)) (lens_of e)

pub spherical-equivalent : (e : Eye) → Answers prescription_alone (equivalent_out e)
unfolding equivalent_out
spherical-equivalent e = or-refused (λ l. fraction 16 (equivalent l)) (lens_of e)

pub read-text : (text : List ℕ) → Answers prescription_alone (read_text_out text)
unfolding read_text_out
read-text text = or-refused prescription_of (prescribed_in text)

module _ (text : List ℕ) where
  abbrev WritesText : Written → Type 0
  WritesText o = AnswersBy prescription_alone o.answer text o.text

  written-or : (o : Option Prescribed) → WritesText (written_or text o)
  unfolding is_refusal all any
  written-or none = keep refl refl
  written-or (some x) = done refl

  pub write-text : (p : Prescription) → WritesText (write_text_out p text)
  unfolding write_text_out is_refusal all any
  write-text p = tested WritesText (leb stored_len (length text)) (keep refl refl) (written-or (prescribed_of p))

-- ---- On a strip

module _ (d : Coding) (es : List Entry) (at : Held) (n : ℕ) (out : List ℕ) where
  write-prescribed : (o : Option Prescribed) → Writes prescription_write out (write_prescribed d es at n o out)
  unfolding is_refusal all any
  write-prescribed none = keep refl refl
  write-prescribed (some x) =
      let y = prescription_payload (payload_len d.codec.alphabet d.codec.message_len_of) n x in
      tested (Writes prescription_write out) (is_job (job_number y)) (keep refl refl)
      (where-open (Writes prescription_write out) (unwritten out) (job_status es y) (keep refl refl) (keep refl refl) (keep refl refl) (done refl))

  pub prescription-write : (p : Prescription) → Writes prescription_write out (prescription_write_under d es at n p out)
  unfolding is_refusal all any
  prescription-write p =
      let P = Writes prescription_write out in
      let c = d.codec in
      let q = c.alphabet in
      let k = c.message_len_of in
      job-tests P d es (keep refl refl) (keep refl refl) (keep refl refl)
      (tested P (eqb at.count d.bursts && eqb (length out) c.word_len) (keep refl refl)
      (tested P (apart d.burst_len c.word_len 0 (in_use at)) (keep refl refl)
      (tested P (leb min_prescription_len (payload_len q k)) (keep refl refl)
      (write-prescribed (prescribed_of p)))))

module _ (order : List ℕ) (b : BeginsJob order) (sixteen : any (eqb bad_prescription) (served ∷ order) ≡ true) where
  hand-prescription : (es : List Entry) (payload : List ℕ) (o : Option Prescribed) → Answers order (hand_prescription es payload o)
  hand-prescription es payload none = keep b.begins.numbers sixteen
  hand-prescription es payload (some x) =
      let n = b.begins.numbers in
      where-open (λ (o : Answered HandedOut). Answers order o) refused (job_status es payload) (keep n b.twelve) (keep n b.twenty-three)
      (keep n b.fourteen) (done n)

  pub prescription-read : (d : Coding) → Owns order d → (es : List Entry) (w : List ℕ) → Answers order (prescription_read_under d es w)
  unfolding prescription_reading
  prescription-read d own es w =
      let n = b.begins.numbers in
      let c = d.codec in
      let q = c.alphabet in
      let k = c.message_len_of in
      job-tests P d es (keep n b.begins.one) (keep n b.begins.two) (keep n b.ten)
      (tested P (eqb (length w) c.word_len) (keep n b.begins.three)
      (tested P (all_below c.found_bound w) (keep n b.begins.four)
      (by-own (λ r. P (prescription_in q k es r)) (λ a h. keep n h)
      (λ ss ms. tested P (spells_payload q k ms) (keep n b.ten)
      (hand-prescription es (payload_in q k ms) (prescribed_in (drop number_len (payload_in q k ms)))))
      (c.decode w) (own w))))
    where
      P : Answered HandedOut → Type 0
      P o = Answers order o

-- ---- For other languages

some-none : {A : Type 0} (x : A) → some x ≡ none → ⊥
some-none x e = let z : ◌≡◌ {A = ℕ} 0 1 = cc in omega arith

-- 3 in front
one-before : {A : Type 0} {a : ℕ} {lent left : A} → AnswersBy prescription_alone a lent left → AnswersBy prescription_lent a lent left
unfolding is_refusal all any
one-before {A} {a} h = record { numbers = refl; answer = one_more (eqb a served) (eqb a wrong_length) _ h.answer; keeps = h.keeps }

module _ (marks : List ℕ) (powers : List Float) where
  -- an answer that is lent as marks and powers
  as_lent : {A : Type 0} {order : List ℕ} (f : A → List ℕ) (g : A → List Float) (a : ℕ) (o : Option A) → AnswersBy order a none o
      → AnswersLent order marks powers (answer_lent f g marks powers (record { number = a; value = o }))
  as_lent f g a none h = keep h.numbers h.answer
  as_lent f g a (some x) h = record { numbers = h.numbers; answer = h.answer; keeps = λ d. absurd (some-none x (h.keeps d)) }

  pub transpose-lent : (e : Eye) → AnswersLent prescription_lent marks powers (transpose_lent e marks powers)
  unfolding transpose_lent is_refusal all any
  transpose-lent e =
      tested (AnswersLent prescription_lent marks powers) (eqb (length marks) 2 && eqb (length powers) 2) (keep refl refl)
      (as_lent marks_of powers_of (transpose_out e).number (transpose_out e).value (one-before (transpose e)))

  pub prescription-read-bytes : (order : List ℕ) → BeginsJob order → any (eqb bad_prescription) (served ∷ order) ≡ true → (d : Coding) → Owns order d
      → (table w : List ℕ) → AnswersLent order marks powers (prescription_read_bytes_under d table w marks powers)
  unfolding prescription_read_bytes_under prescription_read_lent
  prescription-read-bytes order b sixteen d own table w =
      let P = AnswersLent order marks powers in
      let n = b.begins.numbers in
      let o = prescription_read_under d (table_in table) w in
      with-table P d table true (powers_lent marks powers) (keep n b.begins.one) (keep n b.begins.two) (keep n b.ten) (keep n b.begins.three)
      (tested P (d.in_range && not (twice (table_in table))) (keep n b.begins.one)
      (tested P d.fits (keep n b.begins.two)
      (tested P (carries_job d.codec.alphabet d.codec.message_len_of) (keep n b.ten)
      (tested P (have_room marks powers) (keep n b.begins.three)
      (as_lent (λ (h : HandedOut). handed_marks h.number h.prescription) (λ (h : HandedOut). handed_powers h.prescription) o.number o.value
      (prescription-read order b sixteen d own (table_in table) w))))))

module _ (power : List Float) where
  abbrev LendsPower : PowerLent → Type 0
  LendsPower o = AnswersBy prescription_lent o.answer power o.power

  power-lent : (a : ℕ) (o : Option Float) → AnswersBy prescription_lent a none o → LendsPower (equivalent_lent_as power a o)
  power-lent a none h = keep h.numbers h.answer
  power-lent a (some x) h = record { numbers = h.numbers; answer = h.answer; keeps = λ d. absurd (some-none x (h.keeps d)) }

  pub equivalent-lent : (e : Eye) → LendsPower (equivalent_lent e power)
  unfolding equivalent_lent is_refusal all any
  equivalent-lent e =
      tested LendsPower (eqb (length power) 1) (keep refl refl)
      (power-lent (equivalent_out e).number (equivalent_out e).value (one-before (spherical-equivalent e)))

pub prescription-write-bytes : (d : Coding) (table starts : List ℕ) (n : ℕ) (p : Prescription) (out : List ℕ)
    → Writes prescription_write out (prescription_write_bytes_under d table starts n p out)
unfolding prescription_write_bytes_under is_refusal all any
prescription-write-bytes d table starts n p out =
    with-table (Writes prescription_write out) d table (eqb (length starts) (2 * d.bursts)) (unwritten out) (keep refl refl) (keep refl refl) (keep refl refl)
    (keep refl refl) (prescription-write d (table_in table) _ n out p)
