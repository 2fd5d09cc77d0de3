-- What is promised of prescription write and read together, and of each beside the plain job call. Assumes nothing.
use Rattle.std.specs.Prelude.{◌≡◌, ◌↔◌, ◌≢◌, true, false, List, ℕ, ◌^◌, ◌≤◌, ◌<◌, length, get_or, drop}
use Rattle.std.proofs.Math.Option.{some}
use Rattle.refusals.specs.Refusals.{served, job_cancelled, job_held, not_open, bad_prescription}
use Rattle.cells.specs.Bytes.{payload_len}
use Rattle.cells.specs.Codec.{Word}
use Rattle.cells.specs.Figures.{max_bursts}
use Rattle.cells.specs.Outcomes.{Coding, Held, in_use}
use Rattle.codes.specs.declared.Figures.{Figures}
use Rattle.codes.specs.Bridge.{coding_of}
use Rattle.jobs.specs.declared.Entry.{Entry}
use Rattle.jobs.specs.Table.{twice}
use Rattle.payloads.specs.Payload.{job_number}
use Rattle.jobcodec.specs.JobWrite.{job_write_under}
use Rattle.jobcodec.specs.JobRead.{hand_out, job_read_under}
use Rattle.prescription.specs.declared.texts.Prescription.{Prescription}
use Rattle.prescription.specs.Eyes.{Prescribed, prescribed_of, prescription_fits}
use Rattle.prescription.specs.Outcomes.{answered, refused, read_text_out}
use Rattle.prescriptioncodec.specs.PrescriptionWrite.{number_len, prescription_payload, min_prescription_len, prescription_write_under}
use Rattle.prescriptioncodec.specs.PrescriptionRead.{prescription_read_under}

-- a number of 32 bits and a prescription of 64-bit floats that were written are read back as they were, under the same table, from every found word that
-- differs from the written one only inside the placement's bursts: under any figures, and under those of each code
abbrev pub ReadBackUnder : Coding → Type 0
ReadBackUnder d =
    (es : List Entry) (at : Held) (n : ℕ) (p : Prescription) (out w : List ℕ)
    → length at.starts ≡ max_bursts → n < 2 ^ 32 → prescription_fits p ≡ true
    → (prescription_write_under d es at n p out).answer ≡ served → Word d.codec w
    → ((i : ℕ) → i < d.codec.word_len → d.codec.spoilt (in_use at) i ≡ false → get_or w i 0 ≡ get_or (prescription_write_under d es at n p out).word i 0)
    → prescription_read_under d es w ≡ answered (record { number = n; prescription = p })

abbrev pub PrescriptionsReadBack : Type 0
PrescriptionsReadBack = (f : Figures) → ReadBackUnder (coding_of f)

-- ---- "Opticians' orders should travel in the job text."

-- K
abbrev pub bytes_in : Coding → ℕ
bytes_in d = payload_len d.codec.alphabet d.codec.message_len_of

-- where 16 does not refuse, prescription write is job write of the number and the prescription's text, under any figures
abbrev pub WritesJob : Type 0
WritesJob =
    (d : Coding) (es : List Entry) (at : Held) (n : ℕ) (p : Prescription) (x : Prescribed) (out : List ℕ)
    → min_prescription_len ≤ bytes_in d → prescribed_of p ≡ some x
    → prescription_write_under d es at n p out ≡ job_write_under d es at (prescription_payload (bytes_in d) n x) out

-- a word carries the payload that job read hands out of it under some table, into a lent buffer
abbrev pub Carries : Coding → (w buffer payload : List ℕ) → Type 0
Carries d w buffer payload = (es : List Entry) × (job_read_under d es w buffer ≡ hand_out payload)

-- prescription read of a found word under a table, by job read of the same
pub record ReadAsJob (d : Coding) (es : List Entry) (w buffer : List ℕ) : Type 0 where
  -- a number and a prescription are handed out exactly where job read hands out a payload with this number, whose text is this prescription
  pub exactly : (n : ℕ) (p : Prescription) → (prescription_read_under d es w ≡ answered (record { number = n; prescription = p }))
      ↔ ((payload : List ℕ) × (job_read_under d es w buffer ≡ hand_out payload) × (job_number payload ≡ n) × (read_text_out (drop number_len payload) ≡ answered p))
  -- "16, after all other input refusals": what job read refuses with other numbers than 12, 23 and 14, and a word without a payload, are refused alike
  pub input-first :
      let a = (job_read_under d es w buffer).answer in
      a ≢ served → a ≢ job_cancelled → a ≢ job_held → a ≢ not_open → prescription_read_under d es w ≡ refused a
  pub no_payload : ((payload : List ℕ) → Carries d w buffer payload → ⊥) → prescription_read_under d es w ≡ refused (job_read_under d es w buffer).answer
  -- "any text .. outside these rules .. or a payload below 17 bytes" is 16, whatever the table has of its job
  pub bad-text : (payload : List ℕ) → twice es ≡ false → Carries d w buffer payload → read_text_out (drop number_len payload) ≡ refused bad_prescription
      → prescription_read_under d es w ≡ refused bad_prescription
  pub too_short : (payload : List ℕ) → twice es ≡ false → Carries d w buffer payload → bytes_in d < min_prescription_len
      → prescription_read_under d es w ≡ refused bad_prescription
  -- a prescription whose job is not open is refused as job read refuses it: 12 23 14
  pub not-open : (payload : List ℕ) (p : Prescription) → Carries d w buffer payload → read_text_out (drop number_len payload) ≡ answered p
      → (job_read_under d es w buffer).answer ≢ served → prescription_read_under d es w ≡ refused (job_read_under d es w buffer).answer

-- with K bytes lent to job read: under any figures, and under those of each code
abbrev pub ReadsJobUnder : Coding → Type 0
ReadsJobUnder d = (es : List Entry) (w buffer : List ℕ) → length buffer ≡ bytes_in d → ReadAsJob d es w buffer

abbrev pub ReadsJob : Type 0
ReadsJob = (f : Figures) → ReadsJobUnder (coding_of f)
