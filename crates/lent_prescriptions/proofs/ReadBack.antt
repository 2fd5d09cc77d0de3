-- A prescription that was written for a program in another language reads back for it. Assumes nothing.
use mathlib.Core.Path.{◌≡◌, refl, sym, ap, subst, ◌∙◌}
use mathlib.Core.Bool.{Bool, true, false, not, ◌&&◌}
use mathlib.Core.List.{List}
use Prim.Native.Nat.{ℕ, ◌-◌, ◌*◌, ◌^◌, ◌≤◌, ◌<◌}
use native.Mathlib.Omega.{arith}
use lib.Dec.{eqb}
use lib.Ieee.{Float}
use lib.ListN.{length, get_or, replicate, length-append, length-replicate}
use lib.Seq.{take_at}
use Rattle.refusals.specs.Refusals.{must, served, invalid, unfit, wrong_length, bad_payload}
use Rattle.combinatorics.specs.Lists.{any}
use Rattle.combinatorics.proofs.Cases.{eqb-true}
use Rattle.combinatorics.proofs.Lists.{both}
use Rattle.cells.specs.Codec.{Word}
use Rattle.cells.specs.Outcomes.{Coding, Encoded, held, in_use, unwritten}
use Rattle.cells.specs.Figures.{max_bursts}
use Rattle.codes.specs.Bridge.{coding_of}
use Rattle.codes.proofs.Layouts.{small}
use Rattle.jobs.specs.Table.{twice}
use Rattle.payloads.specs.Payload.{carries_job}
use Rattle.jobcodec.specs.DemandThree.{is_refusal}
use Rattle.jobcodec.proofs.RoundTrip.{passed}
use Rattle.prescription.specs.declared.texts.Prescription.{Prescription}
use Rattle.prescription.specs.Eyes.{prescription_fits}
use Rattle.prescriptioncodec.specs.Laws.{ReadBackUnder}
use Rattle.prescriptioncodec.specs.PrescriptionWrite.{prescription_write_under}
use Rattle.prescriptioncodec.proofs.RoundTrip.{prescriptions-read-back}
use Rattle.lent_jobs.specs.Jobs.{has_table_len, slots_fit}
use Rattle.lent_prescriptions.specs.Eyes.{powers_lent}
use Rattle.lent_prescriptions.specs.Prescriptions.{prescription_write_bytes_under, handed_marks, handed_powers, have_room, prescription_read_bytes_under}
use Rattle.lent_prescriptions.specs.Prescriptions.{LentReadsBack}
use Rattle.lent.specs.Starts.{starts_from}
use Rattle.lent_jobs.specs.Table.{table_len, states_known, table_in}
use Rattle.lent_prescriptions.proofs.PrescriptionLaws.{read-with-room, read_whole}
use Rattle.lent.proofs.StartLaws.{length-starts}

-- ---- Starts that are in use

held-long : (ss : List ℕ) → length ss ≤ max_bursts → length (held ss).starts ≡ max_bursts
held-long ss h = length-append ss (replicate (max_bursts - length ss) 0) ∙ omega (arith, length-replicate {A = ℕ} (max_bursts - length ss) 0)

in-use : (ss : List ℕ) → in_use (held ss) ≡ ss
in-use ss = take_at ss (replicate (max_bursts - length ss) 0) (length ss) refl

-- no more bursts than a placement has room for
abbrev FewBursts : Coding → Type 0
FewBursts d = d.in_range ≡ true → d.bursts ≤ max_bursts

-- ---- What an accepted writing has passed

pub record WrittenBytes (d : Coding) (table starts : List ℕ) (n : ℕ) (p : Prescription) (out : List ℕ) : Type 0 where
  pub size : length table ≡ table_len
  pub known : states_known table ≡ true
  pub few : length (starts_from starts) ≤ max_bursts
  pub same : prescription_write_bytes_under d table starts n p out ≡ prescription_write_under d (table_in table) (held (starts_from starts)) n p out
  pub answer : (prescription_write_under d (table_in table) (held (starts_from starts)) n p out).answer ≡ served

passed-all : (d : Coding) → FewBursts d → (table starts : List ℕ) (n : ℕ) (p : Prescription) (out : List ℕ)
    → (prescription_write_bytes_under d table starts n p out).answer ≡ served → WrittenBytes d table starts n p out
unfolding prescription_write_bytes_under is_refusal any
passed-all d few-bursts table starts n p out e =
    let carries = carries_job d.codec.alphabet d.codec.message_len_of in
    let rest = prescription_write_under d (table_in table) (held (starts_from starts)) n p out in
    let three = must (has_table_len table && eqb (length starts) (2 * d.bursts)) (unwritten out wrong_length) rest in
    let ten = must carries (unwritten out bad_payload) three in
    let p₁ = passed (d.in_range && slots_fit table) out invalid (must d.fits (unwritten out unfit) ten) refl e in
    let p₂ = passed d.fits out unfit ten refl p₁.1 in
    let p₃ = passed carries out bad_payload three refl p₂.1 in
    let p₄ = passed (has_table_len table && eqb (length starts) (2 * d.bursts)) out wrong_length rest refl p₃.1 in
    let ranges = both d.in_range (slots_fit table) p₁.0 in
    let lengths = both (has_table_len table) (eqb (length starts) (2 * d.bursts)) p₄.0 in
    let slots : (states_known table && not (twice (table_in table))) ≡ true =
    subst (λ (b : Bool). must b true (states_known table && not (twice (table_in table))) ≡ true) lengths.0 ranges.1 in
    record {
      size = eqb-true (length table) table_len lengths.0;
      known = (both (states_known table) (not (twice (table_in table))) slots).0;
      few = omega (arith, length-starts starts d.bursts (eqb-true (length starts) (2 * d.bursts) lengths.1), few-bursts ranges.0);
      same = rw (p₁.0, p₂.0, p₃.0, p₄.0);
      answer = p₄.1;
    }

-- ---- Reading it back

back-under : (d : Coding) → FewBursts d → ReadBackUnder d → (table starts : List ℕ) (n : ℕ) (p : Prescription) (out w marks : List ℕ) (powers : List Float)
    → n < 2 ^ 32 → prescription_fits p ≡ true → have_room marks powers ≡ true
    → (prescription_write_bytes_under d table starts n p out).answer ≡ served → Word d.codec w
    → ((i : ℕ) → i < d.codec.word_len → d.codec.spoilt (starts_from starts) i ≡ false
    → get_or w i 0 ≡ get_or (prescription_write_bytes_under d table starts n p out).word i 0)
    → prescription_read_bytes_under d table w marks powers ≡ powers_lent (handed_marks n p) (handed_powers p) served
back-under d few-bursts back table starts n p out w marks powers number floats room e found outside =
    let ss = starts_from starts in
    let wr = passed-all d few-bursts table starts n p out e in
    let reads = back (table_in table) (held ss) n p out w (held-long ss wr.few) number floats wr.answer found
    (λ i l b. outside i l (ap (λ (xs : List ℕ). d.codec.spoilt xs i) (sym (in-use ss)) ∙ b) ∙ ap (λ (o : Encoded). get_or o.word i 0) wr.same) in
    sym (read_whole d table w marks powers wr.size wr.known) ∙ sym (read-with-room marks powers d (table_in table) w room (sym reads))

pub lent-reads-back : LentReadsBack
lent-reads-back f = back-under (coding_of f) (λ i. (small f i).bursts-most) (prescriptions-read-back f)
