-- Prescription read test by test, as the code makes them. Assumes nothing.
use mathlib.Core.Path.{◌≡◌, refl, sym, ap, ◌∙◌}
use mathlib.Core.Logic.{◌≢◌}
use mathlib.Core.Bool.{true, false}
use mathlib.Core.List.{List}
use mathlib.Core.Option.{Option, none, some, none-ne-some}
use Prim.Native.Nat.{ℕ, ◌<◌}
use lib.Dec.{eqb}
use lib.ListN.{length, drop}
use Rattle.refusals.specs.Refusals.{must, served, invalid, wrong_length, bad_symbol, bad_payload, bad_prescription}
use Rattle.combinatorics.specs.Lists.{all_below}
use Rattle.combinatorics.proofs.Cases.{eqb-other}
use Rattle.cells.specs.Bytes.{payload_len}
use Rattle.cells.specs.Outcomes.{Coding, unserved, figures_under, decode_under}
use Rattle.codes.specs.Given.{coding_in, Serves}
use Rattle.codes.proofs.Layouts.{in_order, numbers-in}
use Rattle.codes.specs.declared.WordLayout.{WordLayout}
use Rattle.std.specs.Prelude.{Result}
use Rattle.refusals.specs.declared.Refusal.{Refusal}
use Rattle.decoder.specs.Answer.{answer_as}
use Rattle.jobs.specs.declared.Entry.{Entry}
use Rattle.jobs.specs.Jobs.{needs_open}
use Rattle.jobs.specs.Table.{twice}
use Rattle.payloads.specs.Payload.{job_number, payload_in}
use Rattle.jobcodec.specs.Given.{ServesTable, ReadyUnder, spelled_answer}
use Rattle.jobcodec.specs.JobWrite.{job_status}
use Rattle.jobcodec.proofs.Calls.{carries-not}
use Rattle.jobcodec.proofs.Outcomes.{both_false, figures-refused, after_spelled, spelled-decodes}
use Rattle.prescription.specs.declared.texts.Prescription.{Prescription}
use Rattle.prescription.specs.Eyes.{Prescribed, prescription_of}
use Rattle.prescription.specs.Stored.{prescribed_in}
use Rattle.prescription.specs.Outcomes.{Answered, answered, refused, or_refused, read_text_out}
use Rattle.prescriptioncodec.specs.PrescriptionWrite.{number_len}
use Rattle.prescriptioncodec.specs.PrescriptionRead.{hand_prescription, prescription_in, of_payload, prescription_reading, prescription_read_under}

module _ (d : Coding) (es : List Entry) (w : List ℕ) where
  -- ---- "1 2", and 10 for K

  pub read_twice : twice es ≡ true → prescription_read_under d es w ≡ refused invalid
  read_twice e = rw (e, both_false d.in_range)

  pub read-unfit : (a : ℕ) → twice es ≡ false → figures_under d ≡ unserved a → prescription_read_under d es w ≡ refused a
  read-unfit a e r = figures-refused d es refused _ a e r

  -- ---- The word, and what its message spells

  pub word-first : ReadyUnder d es
      → prescription_read_under d es w
      ≡ must (eqb (length w) d.codec.word_len) (refused wrong_length)
      (must (all_below d.codec.found_bound w) (refused bad_symbol) (prescription_in d.codec.alphabet d.codec.message_len_of es (d.codec.decode w)))
  unfolding prescription_reading
  word-first r = rw (r.range, r.once, r.fit, r.carries)

  spelled-word : (ms ms' : List ℕ) → ReadyUnder d es → length ms ≡ d.codec.message_len_of
      → (r said : Result ℕ Refusal) → r ≡ said → answer_as r ≡ spelled_answer d.codec.alphabet (length ms) (decode_under d w ms) → ms' ≡ (decode_under d w ms).message
      → prescription_read_under d es w ≡ after_spelled refused (λ ds. of_payload es (payload_in d.codec.alphabet d.codec.message_len_of ds)) (answer_as said) ms'
  spelled-word ms ms' ready room r said is e lent =
      word-first ready
      ∙ spelled-decodes refused (λ ds. of_payload es (payload_in d.codec.alphabet d.codec.message_len_of ds)) d w
      (prescription_in d.codec.alphabet d.codec.message_len_of es) (λ a. refl) (λ ss ds. refl)
      ms ms' ready.range ready.fit room r said is e lent

-- the same by the layout's own q
pub read-spelled : (l : WordLayout) (g : Serves l) (es : List Entry) (w ms ms' : List ℕ) → ReadyUnder (coding_in l) es → length ms ≡ (coding_in l).codec.message_len_of
    → (r said : Result ℕ Refusal) → r ≡ said → answer_as r ≡ spelled_answer l.q (length ms) (decode_under (coding_in l) w ms)
    → ms' ≡ (decode_under (coding_in l) w ms).message
    → prescription_read_under (coding_in l) es w ≡ after_spelled refused (λ ds. of_payload es (payload_in l.q (coding_in l).codec.message_len_of ds))
    (answer_as said) ms'
read-spelled l g es w ms ms' ready room r said is e lent =
    let d = coding_in l in
    let q = (numbers-in l g).alphabet-is in
    spelled-word d es w ms ms' ready room r said is (e ∙ ap (λ (x : ℕ). spelled_answer x (length ms) (decode_under d w ms)) q) lent
    ∙ ap (λ (x : ℕ). after_spelled refused (λ ds. of_payload es (payload_in x d.codec.message_len_of ds)) (answer_as said) ms') (sym q)

-- 10 for K
pub read-few : (l : WordLayout) (es : List Entry) (w : List ℕ) → ServesTable l es → (count : ℕ) → count ≡ payload_len l.q l.message_len → count < 5
    → prescription_read_under (coding_in l) es w ≡ refused bad_payload
unfolding prescription_reading
read-few l es w h count e few = let order = in_order l h.serves in rw (order.0, h.once, order.1, carries-not l es h count e few)

-- ---- The prescription of a payload's text, and the table

module _ (es : List Entry) (payload : List ℕ) where
  -- 16, which is what the text is refused with
  pub no-prescription : (a : ℕ) → refused a ≡ read_text_out (drop number_len payload)
      → (refused bad_prescription ≡ of_payload es payload) × (refused a ≡ of_payload es payload)
  unfolding read_text_out
  no-prescription a e = go (prescribed_in (drop number_len payload)) e
    where
      go : (o : Option Prescribed) → refused a ≡ or_refused prescription_of o
          → (refused bad_prescription ≡ hand_prescription es payload o) × (refused a ≡ hand_prescription es payload o)
      go none e = (refl, ap (λ (r : Answered Prescription). refused r.number) e)
      go (some x) e = absurd (none-ne-some (prescription_of x) (ap (λ (r : Answered Prescription). r.value) e))

  module _ (p : Prescription) (found : answered p ≡ read_text_out (drop number_len payload)) where
    pub not-open : (a : ℕ) → a ≡ needs_open (job_status es payload) → a ≢ served → refused a ≡ of_payload es payload
    unfolding read_text_out
    not-open a n d = go (prescribed_in (drop number_len payload)) found
      where
        go : (o : Option Prescribed) → answered p ≡ or_refused prescription_of o → refused a ≡ hand_prescription es payload o
        go none e = absurd (none-ne-some p (sym (ap (λ (r : Answered Prescription). r.value) e)))
        go (some x) e = rw (← n, eqb-other a served d)

    pub handed : needs_open (job_status es payload) ≡ served → answered (record { number = job_number payload; prescription = p }) ≡ of_payload es payload
    unfolding read_text_out
    handed n = go (prescribed_in (drop number_len payload)) found
      where
        go : (o : Option Prescribed) → answered p ≡ or_refused prescription_of o
            → answered (record { number = job_number payload; prescription = p }) ≡ hand_prescription es payload o
        go none e = absurd (none-ne-some p (sym (ap (λ (r : Answered Prescription). r.value) e)))
        go (some x) e =
            let same : some p ≡ some (prescription_of x) = ap (λ (r : Answered Prescription). r.value) e in
            let is : p ≡ prescription_of x = cc in
            rw (n, is)
