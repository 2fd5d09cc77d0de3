-- Laws of a prescription that is read as marks and powers: what is put, and the refusals in their order. Assumes nothing.
use mathlib.Core.Path.{◌≡◌, refl, sym, ap, ◌∙◌}
use mathlib.Core.Logic.{◌≢◌}
use mathlib.Core.Bool.{true, false}
use mathlib.Core.List.{List, [], ◌∷◌, ◌++◌}
use Prim.Native.Nat.{ℕ, ◌<◌}
use native.Mathlib.Omega.{arith}
use lib.Dec.{eqb}
use lib.Ieee.{Float}
use lib.ListN.{length, take, drop, set, replicate, length-append, length-drop}
use lib.Seq.{take_at, length-take-le}
use Rattle.std.specs.Prelude.{Err}
use Rattle.refusals.specs.Refusals.{invalid}
use Rattle.refusals.specs.Numbers.{number_of}
use Rattle.refusals.specs.declared.Refusal.{Refusal}
use Rattle.combinatorics.proofs.Cases.{by_bool, eqb_same, eqb-other}
use Rattle.cells.specs.Bytes.{byte_values}
use Rattle.cells.specs.Digits.{plain, spell}
use Rattle.cells.proofs.Digits.{length-spell}
use Rattle.cells.specs.Outcomes.{Coding, Held, unwritten}
use Rattle.codes.specs.Bridge.{coding_of}
use Rattle.codes.specs.declared.Figures.{Figures}
use Rattle.jobs.specs.declared.Entry.{Entry}
use Rattle.jobs.specs.Table.{twice}
use Rattle.payloads.specs.Payload.{carries_job}
use Rattle.payloads.specs.Given.{Spellable}
use Rattle.jobcodec.proofs.Outcomes.{both_false}
use Rattle.prescription.specs.declared.texts.Prescription.{Prescription}
use Rattle.prescription.specs.Outcomes.{Answered}
use Rattle.prescriptioncodec.specs.PrescriptionWrite.{number_len, number_bytes, prescription_write_under}
use Rattle.prescriptioncodec.specs.PrescriptionRead.{HandedOut, prescription_reading, prescription_read_under}
use Rattle.lent_prescriptions.specs.Eyes.{eye_kind, eye_axis, eye_sphere, eye_cylinder, powers_lent, answer_lent}
use Rattle.lent_jobs.specs.Jobs.{without_table, LentAs}
use Rattle.lent_prescriptions.specs.Prescriptions.{prescription_write_bytes_under, handed_marks, handed_powers, have_room, prescription_read_lent}
use Rattle.lent_prescriptions.specs.Prescriptions.{prescription_read_bytes_under, without_room}
use Rattle.lent.specs.Starts.{placement_from}
use Rattle.lent_jobs.specs.Table.{table_len, states_known, table_in}
use Rattle.lent_prescriptions.proofs.Filling.{stored-all}
use Rattle.lent_jobs.proofs.WithTable.{refused-table, whole-table, whole-write}

-- ---- Marks

module _ (marks : List ℕ) (size : length marks ≡ 8) where
  pub number-room : number_len ≡ length (take number_len marks)
  number-room = sym (length-take-le number_len marks (omega arith))

  pub number-spellable : (n : ℕ) → n < 4294967296 → Spellable byte_values n (length (take number_len marks))
  number-spellable n h = record { alphabet = omega arith; bytes = omega arith; below = rw (← number-room) h }

  module _ (n : ℕ) (front : List ℕ) (spelt : front ≡ spell byte_values (replicate (length (take number_len marks)) plain) n) where
    number_is : front ≡ number_bytes n
    unfolding number_bytes
    number_is = spelt ∙ ap (λ (k : ℕ). spell byte_values (replicate k plain) n) (sym number-room)

    number-long : length front ≡ number_len
    unfolding number_bytes
    number-long = ap length number_is ∙ length-spell byte_values (replicate number_len plain) n

    pub all-long : length (front ++ drop number_len marks) ≡ 8
    all-long = length-append front (drop number_len marks) ∙ omega (arith, number-long, length-drop number_len marks)

    pub marks-put : {k a j b : ℕ} (p : Prescription) → k ≡ eye_kind p.right → a ≡ eye_axis p.right → j ≡ eye_kind p.left → b ≡ eye_axis p.left
        → set (set (set (set (front ++ drop number_len marks) 4 k) 5 a) 6 j) 7 b ≡ handed_marks n p
    marks-put {k} {a} {j} {b} p hk ha hj hb =
        stored-all (k ∷ a ∷ j ∷ b ∷ []) (front ++ drop number_len marks) 4 all-long
        ∙ rw (take_at front (drop number_len marks) 4 number-long, number_is, hk, ha, hj, hb)

-- ---- Powers

pub powers-put : (powers : List Float) → length powers ≡ 5 → {s c t d : Float} (p : Prescription) → s ≡ eye_sphere p.right → c ≡ eye_cylinder p.right
    → t ≡ eye_sphere p.left → d ≡ eye_cylinder p.left
    → set (set (set (set (set powers 0 s) 1 c) 2 t) 3 d) 4 p.pupil_distance ≡ handed_powers p
powers-put powers size {s} {c} {t} {d} p hs hc ht hd =
    stored-all (s ∷ c ∷ t ∷ d ∷ p.pupil_distance ∷ []) powers 0 size ∙ rw (hs, hc, ht, hd)

-- ---- "1 2 10 3" for the lengths, and what prescription read answers

module _ (d : Coding) (es : List Entry) where
  pub room_twice : twice es ≡ true → invalid ≡ without_room d es
  unfolding without_room
  room_twice t = rw t

  pub room-once : twice es ≡ false → without_table d ≡ without_room d es
  unfolding without_room
  room-once t = rw t

module _ (marks : List ℕ) (powers : List Float) where
  pub no-marks : length marks ≢ 8 → have_room marks powers ≡ false
  no-marks m = rw (eqb-other (length marks) 8 m)

  pub no-powers : length powers ≢ 5 → have_room marks powers ≡ false
  no-powers p = rw (eqb-other (length powers) 5 p, both_false (eqb (length marks) 8))

  pub have-room : length marks ≡ 8 → length powers ≡ 5 → have_room marks powers ≡ true
  have-room m p = rw (eqb_same (length marks) 8 m, eqb_same (length powers) 5 p)

  module _ (d : Coding) (es : List Entry) (w : List ℕ) where
    pub read-without-room : have_room marks powers ≡ false → powers_lent marks powers (without_room d es) ≡ prescription_read_lent d es w marks powers
    unfolding without_room without_table prescription_read_lent
    read-without-room h =
        by_bool (twice es) (λ t. rw (t, both_false d.in_range))
        (λ t. by_bool d.in_range
        (λ i. by_bool d.fits (λ n. by_bool (carries_job d.codec.alphabet d.codec.message_len_of) (λ k. rw (t, i, n, k, h)) (λ k. rw (t, i, n, k)))
        (λ n. rw (t, i, n)))
        (λ i. rw (t, i)))

    pub read-with-room : have_room marks powers ≡ true → {o : Answered HandedOut} → o ≡ prescription_read_under d es w
        → answer_lent (λ h. handed_marks h.number h.prescription) (λ h. handed_powers h.prescription) marks powers o ≡ prescription_read_lent d es w
        marks powers
    unfolding prescription_reading prescription_read_lent
    read-with-room h {o} e =
        rw e
        (by_bool (twice es) (λ t. rw (t, both_false d.in_range))
        (λ t. by_bool d.in_range
        (λ i. by_bool d.fits (λ n. by_bool (carries_job d.codec.alphabet d.codec.message_len_of) (λ k. rw (t, i, n, k, h)) (λ k. rw (t, i, n, k)))
        (λ n. rw (t, i, n)))
        (λ i. rw (t, i))))

-- ---- With a table in bytes

module _ (f : Figures) (table starts : List ℕ) (n : ℕ) (p : Prescription) (out : List ℕ) where
  pub write-refused : (r : Refusal) → LentAs (coding_of f) table (Err r)
      → unwritten out (number_of r) ≡ prescription_write_bytes_under (coding_of f) table starts n p out
  unfolding prescription_write_bytes_under
  write-refused = refused-table (coding_of f) table (unwritten out) _ _

  module _ (size : length table ≡ table_len) where
    pub write-whole : states_known table ≡ true
        → prescription_write_under (coding_of f) (table_in table) (placement_from (coding_of f).bursts starts) n p out ≡ prescription_write_bytes_under
        (coding_of f) table starts n p out
    unfolding prescription_write_bytes_under
    write-whole s =
        whole-write f table starts (unwritten out) size s (λ (at : Held). prescription_write_under (coding_of f) (table_in table) at n p out) _ (λ at. refl)
        (λ at h. rw (eqb-other at.count (coding_of f).bursts h))

module _ (d : Coding) (table w marks : List ℕ) (powers : List Float) where
  pub read-refused : (r : Refusal) → LentAs d table (Err r)
      → powers_lent marks powers (number_of r) ≡ prescription_read_bytes_under d table w marks powers
  unfolding prescription_read_bytes_under
  read-refused = refused-table d table (powers_lent marks powers) _ _

  module _ (size : length table ≡ table_len) where
    pub read_whole : states_known table ≡ true → prescription_read_lent d (table_in table) w marks powers ≡ prescription_read_bytes_under d table w marks powers
    unfolding prescription_read_lent prescription_read_bytes_under
    read_whole s = whole-table d table (powers_lent marks powers) true size s _ _ (λ _. refl)
