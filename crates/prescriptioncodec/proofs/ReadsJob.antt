-- Prescription read by job read of the same word: both make of it one payload, or refuse it alike; then the text decides, and the table. Assumes nothing.
use mathlib.Core.Path.{◌≡◌, refl, sym, ap, ◌∙◌}
use mathlib.Core.Logic.{◌≢◌}
use mathlib.Core.Bool.{true, false, true≢false}
use mathlib.Core.List.{List, [], ◌∷◌}
use mathlib.Core.Option.{Option, none, some, none-ne-some, some-injective}
use Prim.Native.Nat.{ℕ, ◌<◌}
use native.Mathlib.Omega.{arith}
use lib.Dec.{eqb}
use lib.ListN.{length, drop, length-drop}
use Rattle.refusals.specs.Refusals.{served, invalid, unfit, wrong_length, bad_symbol, bad_payload, job_cancelled, not_open, bad_prescription, job_held}
use Rattle.combinatorics.specs.Lists.{any, all_below}
use Rattle.combinatorics.proofs.Cases.{by_bool, eqb_same, leb-fails}
use Rattle.combinatorics.proofs.Lists.{in_all}
use Rattle.cells.specs.Codec.{Reading, accepted}
use Rattle.cells.specs.Codec as codec
use Rattle.cells.specs.Outcomes.{Coding}
use Rattle.codes.specs.Bridge.{coding_of}
use Rattle.jobs.specs.declared.Entry.{Entry}
use Rattle.jobs.specs.declared.Entry.TheVariants.{Open}
use Rattle.jobs.specs.Jobs.{Status, unknown, opened, on_hold, cancelled}
use Rattle.jobs.specs.Table.{first_entry, twice}
use Rattle.payloads.specs.Payload.{carries_job, job_number, payload_in, spells_payload}
use Rattle.payloads.proofs.Payload.{payload-is}
use Rattle.jobcodec.specs.DemandThree.{is_refusal}
use Rattle.jobcodec.specs.JobRead.{JobRead, hand_out, withhold, job_of_payload, job_reading, job_read_under}
use Rattle.jobcodec.specs.JobWrite.{job_status, where_open}
use Rattle.jobcodec.proofs.Calls.{read_twice as job-twice}
use Rattle.jobcodec.proofs.DemandThree.{ReadsWhereFit, reads_in}
use Rattle.jobcodec.proofs.Pairs.{not-served}
use Rattle.prescription.specs.declared.texts.Prescription.{Prescription}
use Rattle.prescription.specs.Eyes.{Prescribed, prescription_of}
use Rattle.prescription.specs.Stored.{prescribed_in, stored_len}
use Rattle.prescription.specs.Outcomes.{Answered, answered, refused, or_refused, read_text_out}
use Rattle.prescriptioncodec.specs.PrescriptionWrite.{number_len, min_prescription_len}
use Rattle.prescriptioncodec.specs.PrescriptionRead.{HandedOut, hand_prescription, of_payload, prescription_reading, prescription_read_under}
use Rattle.prescriptioncodec.specs.Laws.{bytes_in, Carries, ReadAsJob, ReadsJobUnder, ReadsJob}
use Rattle.prescriptioncodec.proofs.Reading.{read_twice}

-- ---- What both make of a word before they ask the table

-- under every table that holds no number twice, and with K bytes lent
abbrev BothAre : Coding → List ℕ → (List Entry → List ℕ → JobRead) → (List Entry → Answered HandedOut) → Type 0
BothAre d w job prescription =
    (es : List Entry) (buffer : List ℕ) → twice es ≡ false → length buffer ≡ bytes_in d
    → (job_read_under d es w buffer ≡ job es buffer) × (prescription_read_under d es w ≡ prescription es)

data Said (d : Coding) (w : List ℕ) : Type 0 where
  stops : (a : ℕ) → is_refusal a ≡ true → BothAre d w (λ es buffer. withhold buffer a) (λ es. refused a) → Said d w
  spells : (y : List ℕ) → length y ≡ bytes_in d → BothAre d w (λ es buffer. job_of_payload es buffer y) (λ es. of_payload es y) → Said d w

said : (d : Coding) (w : List ℕ) → ReadsWhereFit d → Said d w
unfolding job_reading prescription_reading is_refusal any
said d w reads =
    let c = d.codec in
    let q = c.alphabet in
    let k = c.message_len_of in
    by_bool d.in_range
    (λ i. by_bool d.fits
    (λ g. by_bool (carries_job q k)
    (λ v. by_bool (eqb (length w) c.word_len)
    (λ n. by_bool (all_below c.found_bound w)
    (λ s. read i g v n s (c.decode w) refl)
    (λ s. stops bad_symbol refl
    (λ es buffer once lent.
    let l = eqb_same (length buffer) (bytes_in d) lent in
    (rw (i, once, g, v, n, l, s), rw (i, once, g, v, n, s)))))
    (λ n. stops wrong_length refl (λ es buffer once lent. (rw (i, once, g, v, n), rw (i, once, g, v, n)))))
    (λ v. stops bad_payload refl (λ es buffer once lent. (rw (i, once, g, v), rw (i, once, g, v)))))
    (λ g. stops unfit refl (λ es buffer once lent. (rw (i, once, g), rw (i, once, g)))))
    (λ i. stops invalid refl (λ es buffer once lent. (rw i, rw i)))
  where
    read : d.in_range ≡ true → d.fits ≡ true → carries_job d.codec.alphabet d.codec.message_len_of ≡ true → eqb (length w) d.codec.word_len ≡ true
        → all_below d.codec.found_bound w ≡ true → (x : Reading) → d.codec.decode w ≡ x → Said d w
    read i g v n s (codec.refused a) e =
        let r = reads i g in
        stops a (in_all is_refusal d.codec.word_refusals a r.numbers (r.own w a e))
        (λ es buffer once lent.
        let l = eqb_same (length buffer) (bytes_in d) lent in
        (rw (i, once, g, v, n, l, s, e), rw (i, once, g, v, n, s, e)))
    read i g v n s (accepted ss ms) e =
        let q = d.codec.alphabet in
        let k = d.codec.message_len_of in
        by_bool (spells_payload q k ms)
        (λ t. spells (payload_in q k ms) (payload-is q k ms t).count
        (λ es buffer once lent.
        let l = eqb_same (length buffer) (bytes_in d) lent in
        (rw (i, once, g, v, n, l, s, e, t), rw (i, once, g, v, n, s, e, t))))
        (λ t. stops bad_payload refl
        (λ es buffer once lent.
        let l = eqb_same (length buffer) (bytes_in d) lent in
        (rw (i, once, g, v, n, l, s, e, t), rw (i, once, g, v, n, s, e, t))))

-- ---- Texts

keeps-rules : (t : List ℕ) (p : Prescription) → read_text_out t ≡ answered p → (x : Prescribed) × (prescribed_in t ≡ some x) × (prescription_of x ≡ p)
unfolding read_text_out
keeps-rules t p e = go (prescribed_in t) refl e
  where
    go : (o : Option Prescribed) → prescribed_in t ≡ o → or_refused prescription_of o ≡ answered p
        → (x : Prescribed) × (prescribed_in t ≡ some x) × (prescription_of x ≡ p)
    go none is e = absurd (none-ne-some p (ap (λ (r : Answered Prescription). r.value) e))
    go (some x) is e = (x, is, some-injective (prescription_of x) p (ap (λ (r : Answered Prescription). r.value) e))

breaks-rules : (t : List ℕ) → read_text_out t ≡ refused bad_prescription → prescribed_in t ≡ none
unfolding read_text_out
breaks-rules t e = go (prescribed_in t) e
  where
    go : (o : Option Prescribed) → or_refused prescription_of o ≡ refused bad_prescription → o ≡ none
    go none e = refl
    go (some x) e = absurd (none-ne-some (prescription_of x) (sym (ap (λ (r : Answered Prescription). r.value) e)))

short-text : (y : List ℕ) → length y < min_prescription_len → prescribed_in (drop number_len y) ≡ none
unfolding prescribed_in
short-text y h = rw (leb-fails stored_len (length (drop number_len y)) (omega (arith, length-drop number_len y)))

-- ---- The table

prescription-handed : (s : Status) (h h' : HandedOut) → where_open s refused (answered h) ≡ answered h' → (s ≡ opened) × (h ≡ h')
prescription-handed opened h h' e = (refl, some-injective h h' (ap (λ (r : Answered HandedOut). r.value) e))
prescription-handed unknown h h' e = absurd (none-ne-some h' (ap (λ (r : Answered HandedOut). r.value) e))
prescription-handed on_hold h h' e = absurd (none-ne-some h' (ap (λ (r : Answered HandedOut). r.value) e))
prescription-handed (cancelled s) h h' e = absurd (none-ne-some h' (ap (λ (r : Answered HandedOut). r.value) e))

module _ (buffer y : List ℕ) where
  job-handed : (s : Status) (payload : List ℕ) → where_open s (withhold buffer) (hand_out y) ≡ hand_out payload → (s ≡ opened) × (y ≡ payload)
  unfolding is_refusal any
  job-handed opened payload e = (refl, ap (λ (r : JobRead). r.payload) e)
  job-handed unknown payload e = not-served 14 refl (ap (λ (r : JobRead). r.answer) e)
  job-handed on_hold payload e = not-served 23 refl (ap (λ (r : JobRead). r.answer) e)
  job-handed (cancelled s) payload e = not-served 12 refl (ap (λ (r : JobRead). r.answer) e)

  -- the table refuses with no other number
  status-refuses : (s : Status) →
      let a = (where_open s (withhold buffer) (hand_out y)).answer in
      a ≢ served → a ≢ job_cancelled → a ≢ job_held → a ≢ not_open → ⊥
  status-refuses opened a b c d = a refl
  status-refuses unknown a b c d = d refl
  status-refuses on_hold a b c d = c refl
  status-refuses (cancelled s) a b c d = b refl

  refused-alike : (s : Status) (h : HandedOut) → (where_open s (withhold buffer) (hand_out y)).answer ≢ served
      → where_open s refused (answered h) ≡ refused (where_open s (withhold buffer) (hand_out y)).answer
  refused-alike opened h other = absurd (other refl)
  refused-alike unknown h other = refl
  refused-alike on_hold h other = refl
  refused-alike (cancelled s) h other = refl

-- a table that has this job open, and no other
abbrev alone : List ℕ → List Entry
alone y = Open (job_number y) ∷ []

open-alone : (buffer y : List ℕ) → (twice (alone y) ≡ false) × (job_of_payload (alone y) buffer y ≡ hand_out y)
unfolding twice first_entry any
open-alone buffer y = (refl, rw (eqb_same (job_number y) (job_number y) refl))

-- ---- By what both make of the word

module _ (d : Coding) (es : List Entry) (w buffer : List ℕ) where
  -- both refuse with the same number, and no text of the word is to be judged
  alike : (a : ℕ) → is_refusal a ≡ true → job_read_under d es w buffer ≡ withhold buffer a → prescription_read_under d es w ≡ refused a
      → ((payload : List ℕ) → twice es ≡ false → Carries d w buffer payload → ⊥) → ReadAsJob d es w buffer
  alike a r job is none-carried =
      let same : prescription_read_under d es w ≡ refused (job_read_under d es w buffer).answer = rw job is in
      record {
        exactly = λ n p. (
          λ e. absurd (none-ne-some _ (ap (λ (r : Answered HandedOut). r.value) (sym is ∙ e))),
          λ u. not-served a r (ap (λ (r : JobRead). r.answer) (sym job ∙ u.1)),
        );
        input-first = λ _ _ _ _. same;
        no_payload = λ _. same;
        bad-text = λ payload once carried _. absurd (none-carried payload once carried);
        too_short = λ payload once carried _. absurd (none-carried payload once carried);
        not-open = λ payload p _ _ _. same;
      }

  module _ (lent : length buffer ≡ bytes_in d) (once : twice es ≡ false) (y : List ℕ) (sized : length y ≡ bytes_in d)
      (both : BothAre d w (λ es buffer. job_of_payload es buffer y) (λ es. of_payload es y)) where
    job : job_read_under d es w buffer ≡ job_of_payload es buffer y
    job = (both es buffer once lent).0

    is : prescription_read_under d es w ≡ of_payload es y
    is = (both es buffer once lent).1

    -- y is what the word carries
    carries : Carries d w buffer y
    carries = let t = open-alone buffer y in (alone y, (both (alone y) buffer t.0 lent).0 ∙ t.1)

    -- and nothing else
    carried-is : (payload : List ℕ) → Carries d w buffer payload → y ≡ payload
    unfolding is_refusal any
    carried-is payload u =
        by_bool (twice u.0)
        (λ t. not-served invalid refl (ap (λ (r : JobRead). r.answer) (sym (job-twice d u.0 w buffer t) ∙ u.1)))
        (λ t. (job-handed buffer y (job_status u.0 y) payload (sym (both u.0 buffer t lent).0 ∙ u.1)).1)

    same_text : (payload : List ℕ) → Carries d w buffer payload → read_text_out (drop number_len y) ≡ read_text_out (drop number_len payload)
    same_text payload u = ap (λ (z : List ℕ). read_text_out (drop number_len z)) (carried-is payload u)

    by-text : (o : Option Prescribed) → prescribed_in (drop number_len y) ≡ o → prescription_read_under d es w ≡ hand_prescription es y o
    by-text o e = is ∙ ap (hand_prescription es y) e

    abbrev HandsPrescription : ℕ → Prescription → Type 0
    HandsPrescription n p =
        (payload : List ℕ) × (job_read_under d es w buffer ≡ hand_out payload) × (job_number payload ≡ n) × (read_text_out (drop number_len payload) ≡ answered p)

    there : (n : ℕ) (p : Prescription) (o : Option Prescribed) → prescribed_in (drop number_len y) ≡ o
        → prescription_read_under d es w ≡ answered (record { number = n; prescription = p }) → HandsPrescription n p
    unfolding read_text_out
    there n p none e h = absurd (none-ne-some _ (ap (λ (r : Answered HandedOut). r.value) (sym (by-text none e) ∙ h)))
    there n p (some x) e h =
        let t = prescription-handed (job_status es y) (record { number = job_number y; prescription = prescription_of x })
        (record { number = n; prescription = p }) (sym (by-text (some x) e) ∙ h) in (
          y,
          job ∙ ap (λ (s : Status). where_open s (withhold buffer) (hand_out y)) t.0,
          ap (λ (h : HandedOut). h.number) t.1,
          ap (or_refused prescription_of) e ∙ ap (λ (h : HandedOut). answered h.prescription) t.1,
        )

    back : (n : ℕ) (p : Prescription) → HandsPrescription n p → prescription_read_under d es w ≡ answered (record { number = n; prescription = p })
    back n p u =
        let t = job-handed buffer y (job_status es y) u.0 (sym job ∙ u.1) in
        let x = keeps-rules (drop number_len y) p (ap (λ (z : List ℕ). read_text_out (drop number_len z)) t.1 ∙ u.3) in
        by-text (some x.0) x.1
        ∙ ap (λ (s : Status). where_open s refused (answered (record { number = job_number y; prescription = prescription_of x.0 }))) t.0
        ∙ ap (λ (p : Prescription). answered (record { number = job_number y; prescription = p })) x.2
        ∙ ap (λ (n : ℕ). answered (record { number = n; prescription = p })) (ap job_number t.1 ∙ u.2)

    elsewhere : (a : ℕ) → (job_read_under d es w buffer).answer ≢ a → (job_of_payload es buffer y).answer ≢ a
    elsewhere a other z = other (ap (λ (r : JobRead). r.answer) job ∙ z)

    one-carried : ReadAsJob d es w buffer
    one-carried =
        record {
          exactly = λ n p. (there n p (prescribed_in (drop number_len y)) refl, back n p);
          input-first = λ a b c d. absurd (status-refuses buffer y (job_status es y) (elsewhere served a) (elsewhere job_cancelled b) (elsewhere job_held c)
              (elsewhere not_open d));
          no_payload = λ none-carried. absurd (none-carried y carries);
          bad-text = λ payload _ u e. by-text none (breaks-rules (drop number_len y) (same_text payload u ∙ e));
          too_short = λ payload _ u h. by-text none (short-text y (rw sized h));
          not-open = λ payload p u e other.
              let x = keeps-rules (drop number_len y) p (same_text payload u ∙ e) in
              by-text (some x.0) x.1
              ∙ refused-alike buffer y (job_status es y) (record { number = job_number y; prescription = prescription_of x.0 })
              (elsewhere served other)
              ∙ ap (λ (r : JobRead). refused r.answer) (sym job);
        }

-- ---- Under any figures that give an exact codec, and under those of each code

pub reads-job-under : (d : Coding) → ReadsWhereFit d → ReadsJobUnder d
unfolding is_refusal any
reads-job-under d reads es w buffer lent =
    by_bool (twice es)
    (λ t. alike d es w buffer invalid refl (job-twice d es w buffer t) (read_twice d es w t) (λ payload once _. true≢false (sym t ∙ once)))
    (λ once. by_said once (said d w reads))
  where
    by_said : twice es ≡ false → Said d w → ReadAsJob d es w buffer
    by_said once (stops a r both) =
        let here = both es buffer once lent in
        alike d es w buffer a r here.0 here.1
        (λ payload _ u. by_bool (twice u.0)
        (λ t. not-served invalid refl (ap (λ (r : JobRead). r.answer) (sym (job-twice d u.0 w buffer t) ∙ u.1)))
        (λ t. not-served a r (ap (λ (r : JobRead). r.answer) (sym (both u.0 buffer t lent).0 ∙ u.1))))
    by_said once (spells y sized both) = one-carried d es w buffer lent once y sized both

pub reads-job : ReadsJob
reads-job f = reads-job-under (coding_of f) (reads_in f)
