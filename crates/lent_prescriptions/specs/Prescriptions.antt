-- A prescription for a program in another language: its job number and both eyes as marks, its powers and the pupil distance as floats. What writing and
-- reading one answer, and what lent buffers hold afterwards, for every input. Assumes nothing.
use Rattle.std.specs.Prelude.{◌≡◌, Bool, true, false, not, cond, ◌&&◌, List, [], ◌∷◌, ◌++◌, ℕ, ◌*◌, ◌^◌, ◌<◌, eqb, length, get_or, Float}
use Rattle.refusals.specs.Refusals.{must, served, invalid, unfit, wrong_length, bad_payload}
use Rattle.cells.specs.Codec.{Word}
use Rattle.cells.specs.Outcomes.{Coding, held, Encoded, unwritten}
use Rattle.cells.specs.Figures.{Params}
use Rattle.construction_a.specs.Outcomes.{coding}
use Rattle.codes.specs.declared.Figures.{Figures}
use Rattle.codes.specs.Bridge.{coding_of}
use Rattle.jobs.specs.declared.Entry.{Entry}
use Rattle.jobs.specs.Table.{twice}
use Rattle.payloads.specs.Payload.{carries_job}
use Rattle.prescription.specs.declared.eyes.Eye.{Eye}
use Rattle.prescription.specs.declared.texts.Prescription.{Prescription}
use Rattle.prescription.specs.Eyes.{prescription_fits}
use Rattle.prescriptioncodec.specs.PrescriptionWrite.{number_bytes, prescription_write_under}
use Rattle.prescriptioncodec.specs.PrescriptionRead.{prescription_read_under}
use Rattle.lent_prescriptions.specs.Eyes.{marks_of, powers_of, PowersLent, powers_lent, answer_lent}
use Rattle.lent_jobs.specs.Jobs.{with_table, without_table}
use Rattle.lent.specs.Starts.{starts_from}
use Rattle.lent_jobs.specs.Table.{table_in}

-- "Both eyes and the pupil distance make one prescription"
abbrev pub prescription_from : Eye → Eye → Float → Prescription
prescription_from right left distance = record { right = right; left = left; pupil_distance = distance }

-- ---- Written

-- under any figures: prescription write 1 2 10 3 5 16 17 12 23 14, where 3 stands for the bytes of the table and of the starts too
unfoldable pub prescription_write_bytes_under : Coding → List ℕ → List ℕ → ℕ → Prescription → List ℕ → Encoded
prescription_write_bytes_under d table starts number p out =
    with_table d table (eqb (length starts) (2 * d.bursts)) (unwritten out)
    (prescription_write_under d (table_in table) (held (starts_from starts)) number p out)

-- under Construction A
unfoldable pub prescription_write_bytes_out : Params → List ℕ → List ℕ → ℕ → Prescription → List ℕ → Encoded
prescription_write_bytes_out f = prescription_write_bytes_under (coding f)

-- ---- Read

-- the job number, "high byte first", then the marks of the right eye and of the left: 8 bytes
abbrev pub handed_marks : ℕ → Prescription → List ℕ
handed_marks n p = number_bytes n ++ (marks_of p.right ++ marks_of p.left)

-- the powers of the right eye and of the left, then the pupil distance: 5 floats
abbrev pub handed_powers : Prescription → List Float
handed_powers p = powers_of p.right ++ (powers_of p.left ++ (p.pupil_distance ∷ []))

-- 3 otherwise
abbrev pub have_room : List ℕ → List Float → Bool
have_room marks powers = eqb (length marks) 8 && eqb (length powers) 5

-- under any figures: prescription read 1 2, 10 for K, 3 4 7 19 8 9 19, by the Larsson code 3 4 21 8 9 19, 10, 16, 12 23 14, where 3 stands for the marks
-- and the powers too
unfoldable pub prescription_read_lent : Coding → List Entry → List ℕ → List ℕ → List Float → PowersLent
prescription_read_lent d es w marks powers =
    must (d.in_range && not (twice es)) (powers_lent marks powers invalid)
    (must d.fits (powers_lent marks powers unfit)
    (must (carries_job d.codec.alphabet d.codec.message_len_of) (powers_lent marks powers bad_payload)
    (must (have_room marks powers) (powers_lent marks powers wrong_length)
    (answer_lent (λ h. handed_marks h.number h.prescription) (λ h. handed_powers h.prescription) marks powers (prescription_read_under d es w)))))

-- the same with the table's bytes, for which 3 stands too
unfoldable pub prescription_read_bytes_under : Coding → List ℕ → List ℕ → List ℕ → List Float → PowersLent
prescription_read_bytes_under d table w marks powers =
    with_table d table true (powers_lent marks powers)
    (prescription_read_lent d (table_in table) w marks powers)

-- under Construction A
unfoldable pub prescription_read_bytes_out : Params → List ℕ → List ℕ → List ℕ → List Float → PowersLent
prescription_read_bytes_out f = prescription_read_bytes_under (coding f)

-- what is refused where marks or powers have no room
unfoldable pub without_room : Coding → List Entry → ℕ
without_room d es = cond (twice es) invalid (without_table d)

-- ---- Together

-- under the figures of each code, what was written is read back under the same table, from every found word that differs from the written one
-- only inside the bursts: its job number, and the marks and powers of both eyes
abbrev pub LentReadsBack : Type 0
LentReadsBack =
    (f : Figures) (table starts : List ℕ) (n : ℕ) (p : Prescription) (out w marks : List ℕ) (powers : List Float)
    → n < 2 ^ 32 → prescription_fits p ≡ true → have_room marks powers ≡ true
    → let d = coding_of f in
    (prescription_write_bytes_under d table starts n p out).answer ≡ served → Word d.codec w
    → ((i : ℕ) → i < d.codec.word_len → d.codec.spoilt (starts_from starts) i ≡ false
    → get_or w i 0 ≡ get_or (prescription_write_bytes_under d table starts n p out).word i 0)
    → prescription_read_bytes_under d table w marks powers ≡ powers_lent (handed_marks n p) (handed_powers p) served
