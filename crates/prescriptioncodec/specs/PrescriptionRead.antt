-- What prescription read answers, for every input. No payload is lent: number and prescription are answered by value. Assumes nothing.
use Rattle.std.specs.Prelude.{not, ◌&&◌, List, ℕ, eqb, length, drop, Result, Ok, Err}
use Rattle.std.proofs.Math.Option.{Option, none, some}
use Rattle.refusals.specs.declared.Refusal.{Refusal}
use Rattle.refusals.specs.Numbers.{number_of}
use Rattle.refusals.specs.Refusals.{must, invalid, unfit, wrong_length, bad_symbol, bad_payload, bad_prescription}
use Rattle.combinatorics.specs.Lists.{all_below}
use Rattle.cells.specs.Codec.{Codec, Reading, accepted}
use Rattle.cells.specs.Codec as codec
use Rattle.cells.specs.Outcomes.{Coding}
use Rattle.jobs.specs.declared.Entry.{Entry}
use Rattle.jobs.specs.Table.{twice}
use Rattle.payloads.specs.Payload.{carries_job, job_number, payload_in, spells_payload}
use Rattle.jobcodec.specs.JobWrite.{job_status, where_open}
use Rattle.prescription.specs.declared.texts.Prescription.{Prescription}
use Rattle.prescription.specs.Eyes.{Prescribed, prescription_of}
use Rattle.prescription.specs.Stored.{prescribed_in}
use Rattle.prescription.specs.Outcomes.{Answered, answered, refused}
use Rattle.prescriptioncodec.specs.PrescriptionWrite.{number_len}

-- the job's number and its prescription
pub record HandedOut : Type 0 where
  pub number : ℕ
  pub prescription : Prescription

-- ---- Under any codec with alphabet q and messages of k symbols

-- of a payload: "16, after all other input refusals, any text .. outside these rules .. or a payload below 17 bytes", whose text is below 13; then 12 23 14
abbrev pub hand_prescription : List Entry → List ℕ → Option Prescribed → Answered HandedOut
hand_prescription es payload none = refused bad_prescription
hand_prescription es payload (some x) =
    where_open (job_status es payload) refused (answered (record { number = job_number payload; prescription = prescription_of x }))

abbrev pub of_payload : List Entry → List ℕ → Answered HandedOut
of_payload es payload = hand_prescription es payload (prescribed_in (drop number_len payload))

-- of an accepted word's message, 10 and then those of its payload
abbrev pub prescription_in : ℕ → ℕ → List Entry → Reading → Answered HandedOut
prescription_in q k es (codec.refused a) = refused a
prescription_in q k es (accepted ss ms) = must (spells_payload q k ms) (refused bad_payload) (of_payload es (payload_in q k ms))

-- 10 for K, 3 4, the word's own refusals, 10, 16, 12 23 14
unfoldable pub prescription_reading : Codec → List Entry → List ℕ → Answered HandedOut
prescription_reading c es w =
    must (carries_job c.alphabet c.message_len_of) (refused bad_payload)
    (must (eqb (length w) c.word_len) (refused wrong_length)
    (must (all_below c.found_bound w) (refused bad_symbol)
    (prescription_in c.alphabet c.message_len_of es (c.decode w))))

-- ---- Under any figures: prescription read 1 2, 10 for K, 3 4 7 19 8 9 19, by the Larsson code 3 4 21 8 9 19, 10, 16, 12 23 14

abbrev pub prescription_read_under : Coding → List Entry → List ℕ → Answered HandedOut
prescription_read_under d es w =
    must (d.in_range && not (twice es)) (refused invalid)
    (must d.fits (refused unfit)
    (prescription_reading d.codec es w))

-- ---- What an answer says, case by case: 0, the number and the prescription, or the refusal

abbrev pub read_answered : Result (ℕ × Prescription) Refusal → Answered HandedOut
read_answered (Ok x) = answered (record { number = x.0; prescription = x.1 })
read_answered (Err r) = refused (number_of r)
