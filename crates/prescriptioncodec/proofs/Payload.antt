-- The local payload: its lengths, and that it holds the number and the prescription's text. Assumes nothing.
use mathlib.Core.Path.{◌≡◌, sym, ap, ◌∙◌}
use mathlib.Core.Logic.{◌≢◌}
use mathlib.Core.List.{List, ◌++◌, append-nil}
use mathlib.Core.Option.{Option, none, some}
use Prim.Native.Nat.{ℕ, ◌-◌, ◌≤◌, ◌<◌}
use native.Mathlib.Omega.{arith}
use native.Mathlib.Nat.{div-le_self}
use lib.ListN.{length, take, drop, replicate, length-drop, length-replicate, drop_of_length-le}
use lib.Seq.{length-take-le, drop_at}
use borrow.Author.Tests.{le-leb}
use borrow.Rule.Slice.PartMut.{put_mid, take_put}
use Rattle.refusals.specs.Refusals.{must, served, bad_prescription}
use Rattle.cells.specs.Bytes.{byte_values, byte_width, payload_len}
use Rattle.cells.specs.Digits.{plain, spell}
use Rattle.cells.proofs.Walk.{rest-is}
use Rattle.cells.specs.Outcomes.{Coding, Held, unwritten}
use Rattle.codes.specs.declared.WordLayout.{WordLayout}
use Rattle.jobs.specs.declared.Entry.{Entry}
use Rattle.payloads.specs.Given.{Spellable}
use Rattle.jobcodec.specs.JobWrite.{job_write_under}
use Rattle.prescription.specs.declared.texts.Prescription.{Prescription}
use Rattle.prescription.specs.Eyes.{Prescribed, prescribed_of}
use Rattle.prescription.specs.Stored.{stored_len, text_of}
use Rattle.prescription.specs.Outcomes.{Written, written_text, written_or, write_text_out}
use Rattle.prescriptioncodec.specs.PrescriptionWrite.{number_len, number_bytes, prescription_payload, min_prescription_len, as_job}

-- ---- Lengths

-- a payload has no more bytes than the message has symbols
pub payload-within : (l : WordLayout) (count : ℕ) → count ≡ payload_len l.q l.message_len → count ≤ l.message_len
unfolding payload_len
payload-within l count e = omega (arith, e, div-le_self l.message_len (byte_width l.q))

-- what is lent of an array that has room for it
pub lent_is : (count room : ℕ) → count ≤ room → length {A = ℕ} (take count (replicate room 0)) ≡ count
lent_is count room le = length-take-le {A = ℕ} count (replicate room 0) (omega (arith, length-replicate {A = ℕ} room 0))

-- ---- The text behind the number

module _ (p : Prescription) (y text : List ℕ) (r : ℕ) (long : min_prescription_len ≤ length y)
    (told : written_text r text ≡ write_text_out p (take (length y - number_len) (drop number_len y))) where
  text-told : written_text r text ≡ written_or (drop number_len y) (prescribed_of p)
  unfolding write_text_out
  text-told =
      let enough : stored_len ≤ length (drop number_len y) = omega (arith, length-drop number_len y) in
      told ∙ ap (write_text_out p) (rest-is number_len y)
      ∙ ap (λ b. must b (written_text bad_prescription (drop number_len y)) (written_or (drop number_len y) (prescribed_of p)))
      (le-leb stored_len (length (drop number_len y)) enough)

  module _ (d : Coding) (es : List Entry) (at : Held) (n K : ℕ) (out : List ℕ) where
    pub text-refused : r ≢ served → unwritten out r ≡ as_job d es at n K out (prescribed_of p)
    text-refused other = go (prescribed_of p) text-told
      where
        go : (o : Option Prescribed) → written_text r text ≡ written_or (drop number_len y) o → unwritten out r ≡ as_job d es at n K out o
        go none e = ap (λ (x : Written). unwritten out x.answer) e
        go (some x) e = absurd (other (ap (λ (x : Written). x.answer) e))

    -- the number's bytes before it
    pub text-goes-on : r ≡ served → (front : List ℕ) → front ≡ number_bytes n → K ≡ length y
        → job_write_under d es at (front ++ drop number_len (put_mid number_len (length y - number_len) y text)) out ≡ as_job d es at n K out (prescribed_of p)
    unfolding prescription_payload
    text-goes-on z front spelt many = go (prescribed_of p) text-told
      where
        behind : drop number_len (put_mid number_len (length y - number_len) y text) ≡ text
        behind =
            drop_at (take number_len y) (text ++ drop (length y - number_len) (drop number_len y)) number_len (length-take-le number_len y (omega arith))
            ∙ ap (λ (z : List ℕ). text ++ z) (drop_of_length-le (drop number_len y) {i = length y - number_len} (omega (arith, length-drop number_len y)))
            ∙ append-nil text

        go : (o : Option Prescribed) → written_text r text ≡ written_or (drop number_len y) o
            → job_write_under d es at (front ++ drop number_len (put_mid number_len (length y - number_len) y text)) out ≡ as_job d es at n K out o
        go none e = absurd (sixteen (sym (ap (λ (x : Written). x.answer) e) ∙ z))
          where
            sixteen : bad_prescription ≡ served → ⊥
            sixteen h = omega (arith, h)
        go (some x) e =
            ap (λ (z : List ℕ). job_write_under d es at (front ++ z) out)
            (behind ∙ ap (λ (x : Written). x.text) e ∙ ap (λ (t : ℕ). text_of t x) (length-drop number_len y ∙ ap (λ (k : ℕ). k - number_len) (sym many)))
            ∙ ap (λ (z : List ℕ). job_write_under d es at (z ++ text_of (K - number_len) x) out) spelt

-- ---- The number

module _ (y text : List ℕ) (n : ℕ) (long : min_prescription_len ≤ length y) where
  pub number-room : length (take number_len (put_mid number_len (length y - number_len) y text)) ≡ number_len
  number-room = ap length (take_put number_len (length y - number_len) y text (omega arith)) ∙ length-take-le number_len y (omega arith)

  pub number-spellable : n < 4294967296 → Spellable byte_values n (length (take number_len (put_mid number_len (length y - number_len) y text)))
  number-spellable h = record { alphabet = omega arith; bytes = omega arith; below = rw number-room h }

  pub number-spelt : (front : List ℕ) → front ≡ spell byte_values (replicate (length (take number_len (put_mid number_len (length y - number_len) y text))) plain) n
      → front ≡ number_bytes n
  unfolding number_bytes
  number-spelt front e = e ∙ ap (λ (k : ℕ). spell byte_values (replicate k plain) n) number-room
