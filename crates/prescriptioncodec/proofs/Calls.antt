-- Prescription write test by test, as the code makes them; where 16 does not refuse it is job write of the prescription's payload. Assumes nothing.
use mathlib.Core.Path.{◌≡◌, refl, sym, ap, ◌∙◌}
use mathlib.Core.Logic.{◌≢◌}
use mathlib.Core.Bool.{Bool, true, false, not, ◌&&◌}
use mathlib.Core.List.{List}
use mathlib.Core.Option.{Option, none, some}
use Prim.Native.Nat.{ℕ, suc, ◌+◌, ◌-◌, ◌≤◌, ◌<◌}
use native.Mathlib.Omega.{arith}
use lib.Dec.{eqb, leb}
use lib.ListN.{length, replicate, length-append, length-replicate}
use borrow.Author.Tests.{le-leb}
use Rattle.refusals.specs.Refusals.{must, invalid, unfit, wrong_length, bad_starts, bad_payload, bad_prescription}
use Rattle.combinatorics.specs.Bursts.{apart}
use Rattle.combinatorics.proofs.Cases.{eqb_same, eqb-other, leb-fails}
use Rattle.cells.specs.Bytes.{byte_values, payload_len}
use Rattle.cells.specs.Digits.{plain, spell}
use Rattle.cells.proofs.Digits.{length-spell}
use Rattle.cells.specs.Outcomes.{Coding, Held, in_use, Encoded, unwritten, unserved, figures_under}
use Rattle.codes.specs.Given.{coding_in}
use Rattle.codes.proofs.Layouts.{in_order}
use Rattle.codes.specs.declared.WordLayout.{WordLayout}
use Rattle.jobs.specs.declared.Entry.{Entry}
use Rattle.jobs.specs.Table.{twice}
use Rattle.payloads.specs.Payload.{carries_job}
use Rattle.jobcodec.specs.Given.{ServesTable, ReadyUnder}
use Rattle.jobcodec.proofs.Calls.{carries-not}
use Rattle.jobcodec.proofs.Outcomes.{both_false, figures-refused}
use Rattle.prescription.specs.declared.texts.Prescription.{Prescription}
use Rattle.prescription.specs.Eyes.{Prescribed, prescribed_of}
use Rattle.prescription.specs.Stored.{text_of, stored_len}
use Rattle.prescriptioncodec.specs.PrescriptionWrite.{number_len, number_bytes, prescription_payload, min_prescription_len, write_open, write_prescribed, as_job}
use Rattle.prescriptioncodec.specs.PrescriptionWrite.{prescription_write_under}
use Rattle.prescriptioncodec.specs.Laws.{WritesJob}

-- the text of t bytes has t
pub text-length : (t : ℕ) (x : Prescribed) → stored_len ≤ t → length (text_of t x) ≡ t
unfolding text_of
text-length t x h =
    ap (λ (z : ℕ). suc (suc (suc (suc (suc (suc (suc (suc (suc (suc (suc (suc (suc z))))))))))))) (length-replicate {A = ℕ} (t - stored_len) 0) ∙ back t h
  where
    back : (t : ℕ) → 13 ≤ t → suc (suc (suc (suc (suc (suc (suc (suc (suc (suc (suc (suc (suc (t - 13))))))))))))) ≡ t
    back t h = omega arith

-- the payload has K bytes
pub payload-length : (K n : ℕ) (x : Prescribed) → min_prescription_len ≤ K → length (prescription_payload K n x) ≡ K
unfolding prescription_payload number_bytes
payload-length K n x h =
    length-append (spell byte_values (replicate number_len plain) n) (text_of (K - number_len) x)
    ∙ ap (λ (z : ℕ). z + length (text_of (K - number_len) x)) (length-spell byte_values (replicate number_len plain) n ∙ length-replicate number_len plain)
    ∙ ap (λ (z : ℕ). 4 + z) (text-length (K - number_len) x (room K h)) ∙ total K h
  where
    room : (K : ℕ) → 17 ≤ K → 13 ≤ K - 4
    room K h = omega arith

    total : (K : ℕ) → 17 ≤ K → 4 + (K - 4) ≡ K
    total K h = omega arith

pub writes-job : WritesJob
writes-job d es at n p x out h e =
    let c = d.codec in
    let k = c.message_len_of in
    let K = payload_len c.alphabet k in
    let y = prescription_payload K n x in
    let count = eqb at.count d.bursts in
    let room = eqb (length out) c.word_len in
    let front : (lengths : Bool) (rest : Encoded) → Encoded = λ lengths rest.
    must (d.in_range && not (twice es)) (unwritten out invalid)
    (must d.fits (unwritten out unfit) (must (carries_job c.alphabet k) (unwritten out bad_payload)
    (must lengths (unwritten out wrong_length) (must (apart d.burst_len c.word_len 0 (in_use at)) (unwritten out bad_starts) rest)))) in
    ap (λ (b : Bool). front (count && room) (must b (unwritten out bad_prescription) (write_prescribed d es at n (prescribed_of p) out)))
    (le-leb min_prescription_len K h)
    ∙ ap (λ (o : Option Prescribed). front (count && room) (write_prescribed d es at n o out)) e
    ∙ ap (λ (b : Bool). front (b && room) (write_open d es at y out)) (lengths count (eqb (length y) K) (eqb_same (length y) K (payload-length K n x h)))
  where
    lengths : (a b : Bool) → b ≡ true → a ≡ (a && b)
    lengths true b e = sym e
    lengths false b e = refl

-- ---- "1 2"

module _ (d : Coding) (es : List Entry) (at : Held) (n : ℕ) (p : Prescription) (out : List ℕ) where
  pub write-twice : twice es ≡ true → prescription_write_under d es at n p out ≡ unwritten out invalid
  write-twice e = rw (e, both_false d.in_range)

  pub write-unfit : (a : ℕ) → twice es ≡ false → figures_under d ≡ unserved a → prescription_write_under d es at n p out ≡ unwritten out a
  write-unfit a e r = figures-refused d es (unwritten out) _ a e r

  -- ---- "10 3 5", then 16

  module _ (r : ReadyUnder d es) where
    pub write-count : at.count ≢ d.bursts → prescription_write_under d es at n p out ≡ unwritten out wrong_length
    write-count other = rw (r.range, r.once, r.fit, r.carries, eqb-other at.count d.bursts other)

    module _ (counted : at.count ≡ d.bursts) where
      pub write-length : length out ≢ d.codec.word_len → prescription_write_under d es at n p out ≡ unwritten out wrong_length
      write-length other =
          rw (r.range, r.once, r.fit, r.carries, eqb_same at.count d.bursts counted, eqb-other (length out) d.codec.word_len other)

      module _ (lent : length out ≡ d.codec.word_len) where
        past-lengths : prescription_write_under d es at n p out
            ≡ must (apart d.burst_len d.codec.word_len 0 (in_use at)) (unwritten out bad_starts)
            (must (leb min_prescription_len (payload_len d.codec.alphabet d.codec.message_len_of)) (unwritten out bad_prescription)
            (write_prescribed d es at n (prescribed_of p) out))
        past-lengths = rw (r.range, r.once, r.fit, r.carries, eqb_same at.count d.bursts counted, eqb_same (length out) d.codec.word_len lent)

        pub write-starts : apart d.burst_len d.codec.word_len 0 (in_use at) ≡ false → prescription_write_under d es at n p out ≡ unwritten out bad_starts
        write-starts e = past-lengths ∙ rw e

        module _ (placed : apart d.burst_len d.codec.word_len 0 (in_use at) ≡ true) where
          pub write-short : payload_len d.codec.alphabet d.codec.message_len_of < min_prescription_len
              → prescription_write_under d es at n p out ≡ unwritten out bad_prescription
          write-short h = past-lengths ∙ rw (placed, leb-fails min_prescription_len (payload_len d.codec.alphabet d.codec.message_len_of) h)

          -- every test is passed but the prescription's own
          pub write-as-job : min_prescription_len ≤ payload_len d.codec.alphabet d.codec.message_len_of
              → prescription_write_under d es at n p out ≡ as_job d es at n (payload_len d.codec.alphabet d.codec.message_len_of) out (prescribed_of p)
          write-as-job h = go (prescribed_of p) refl
            where
              go : (o : Option Prescribed) → prescribed_of p ≡ o
                  → prescription_write_under d es at n p out ≡ as_job d es at n (payload_len d.codec.alphabet d.codec.message_len_of) out o
              go none e = past-lengths ∙ rw (placed, le-leb min_prescription_len (payload_len d.codec.alphabet d.codec.message_len_of) h, e)
              go (some x) e = writes-job d es at n p x out h e

-- "10: K below 5"
pub write-few : (l : WordLayout) (es : List Entry) (at : Held) (n : ℕ) (p : Prescription) (out : List ℕ) → ServesTable l es
    → (count : ℕ) → count ≡ payload_len l.q l.message_len → count < 5 → prescription_write_under (coding_in l) es at n p out ≡ unwritten out bad_payload
write-few l es at n p out h count e few =
    let order = in_order l h.serves in
    rw (order.0, h.once, order.1, carries-not l es h count e few)
