-- Laws of job write and job read: what they refuse as "figures alone" does, and how they go on with the word's encoder and decoder. Assumes nothing.
use mathlib.Core.Path.{◌≡◌, refl, sym, ap, ap₂, ◌∙◌}
use mathlib.Core.Bool.{Bool, true, false, not, ◌&&◌, true≢false}
use mathlib.Core.List.{List}
use Prim.Native.Nat.{ℕ}
use native.Mathlib.Omega.{arith}
use lib.Dec.{eqb}
use lib.ListN.{length}
use Rattle.refusals.specs.Refusals.{must, invalid, unfit, wrong_length, bad_symbol, bad_payload}
use Rattle.combinatorics.specs.Lists.{all_below}
use Rattle.combinatorics.specs.Bursts.{apart, rank_of}
use Rattle.combinatorics.proofs.Cases.{eqb_same}
use Rattle.cells.specs.Bytes.{payload_len}
use Rattle.cells.specs.Codec.{Reading, accepted, refused}
use Rattle.cells.specs.Outcomes.{Coding, Held, in_use, unserved, figures_under, encode_under, WordAnswer, rank_is, refusal, unread, decoded_from, decode_under}
use Rattle.cells.proofs.Outcomes.{refused-alike}
use Rattle.params.specs.Answer.{Small}
use Rattle.codes.specs.Given.{coding_in}
use Rattle.codes.specs.declared.WordLayout.{WordLayout}
use Rattle.codes.proofs.Layouts.{numbers-in, small-in}
use Rattle.jobs.specs.declared.Entry.{Entry}
use Rattle.jobs.specs.Jobs.{is_job, opened}
use Rattle.jobs.specs.Table.{twice}
use Rattle.payloads.specs.Payload.{IsPayload, job_number, message_of, spells_payload}
use Rattle.jobcodec.specs.JobWrite.{job_status, job_write_under}
use Rattle.jobcodec.specs.JobRead.{withhold, job_in, job_reading, job_read_under}
use Rattle.jobcodec.specs.Given.{ReadyUnder, ReadableJob, SpellsJob, spelled_as, spelled_answer}
use Rattle.std.specs.Prelude.{Result}
use Rattle.refusals.specs.declared.Refusal.{Refusal}
use Rattle.decoder.specs.Answer.{answer_as}
use Rattle.payloads.proofs.Payload.{carries-five, length-message, message-symbols}

-- ---- "1 2", as both orders begin

pub both_false : (a : Bool) → (a && false) ≡ false
both_false true = refl
both_false false = refl

pub both_true : (a : Bool) → (a && true) ≡ a
both_true true = refl
both_true false = refl

module _ {A : Type 0} (d : Coding) (es : List Entry) (refuse : ℕ → A) (rest : A) where
  -- what figures alone are refused with
  pub figures-refused : (a : ℕ) → twice es ≡ false → figures_under d ≡ unserved a
      → must (d.in_range && not (twice es)) (refuse invalid) (must d.fits (refuse unfit) rest) ≡ refuse a
  figures-refused a e r = rw (e, both_true d.in_range) (refused-alike d a refuse rest r)

-- ---- On with the encoder and the decoder

-- where nothing is refused, a job is written as the encoder writes its message
pub write-encodes : (d : Coding) (es : List Entry) (at : Held) (payload out : List ℕ) → ReadyUnder d es → Small d
    → at.count ≡ d.bursts → IsPayload d.codec.alphabet d.codec.message_len_of payload → length out ≡ d.codec.word_len
    → apart d.burst_len d.codec.word_len 0 (in_use at) ≡ true
    → is_job (job_number payload) ≡ true → job_status es payload ≡ opened
    → job_write_under d es at payload out ≡ encode_under d at (message_of d.codec.alphabet d.codec.message_len_of payload) out
write-encodes d es at payload out r small count p lent placed job is_open =
    rw (
      r.range,
      r.once,
      r.fit,
      r.carries,
      eqb_same at.count d.bursts count,
      eqb_same (length payload) (payload_len d.codec.alphabet d.codec.message_len_of) p.count,
      eqb_same (length out) d.codec.word_len lent,
      placed,
      job,
      is_open,
      eqb_same (length (message_of d.codec.alphabet d.codec.message_len_of payload)) d.codec.message_len_of
          (length-message d.codec.alphabet d.codec.message_len_of payload p.count),
      message-symbols d.codec.alphabet d.codec.message_len_of small.alphabet-least payload p.bytes,
    )

-- ---- Reading a word whose message is to spell a payload

-- what a reader makes of a word's answer and message, where it refuses by `refuse` and goes on by `go`
module _ {A : Type 0} (refuse : ℕ → A) (go : List ℕ → A) where
  abbrev pub after_spelled : WordAnswer → List ℕ → A
  after_spelled (rank_is v) ms = go ms
  after_spelled (refusal a) ms = refuse a

  module _ (d : Coding) (w : List ℕ) (made : Reading → A) (no : (a : ℕ) → made (refused a) ≡ refuse a)
      (yes : (ss ds : List ℕ) → made (accepted ss ds) ≡ must (spells_payload d.codec.alphabet d.codec.message_len_of ds) (refuse bad_payload) (go ds)) where
    -- "3 4", the word's own refusals, 10, and on
    abbrev pub word_first : A
    word_first = must (eqb (length w) d.codec.word_len) (refuse wrong_length)
        (must (all_below d.codec.found_bound w) (refuse bad_symbol) (made (d.codec.decode w)))

    spelled-alike : (v : ℕ) (ds : List ℕ) (b : Bool) → must b (refuse bad_payload) (go ds) ≡ after_spelled (must b (refusal bad_payload) (rank_is v)) ds
    spelled-alike v ds true = refl
    spelled-alike v ds false = refl

    alike : (ms : List ℕ) (long symbols : Bool) (x : Reading)
        → let decoded = must (long && true) (unread ms wrong_length) (must symbols (unread ms bad_symbol) (decoded_from d.burst_len ms x)) in
        must long (refuse wrong_length) (must symbols (refuse bad_symbol) (made x)) ≡ after_spelled
        (spelled_answer d.codec.alphabet d.codec.message_len_of decoded) decoded.message
    alike ms false b x = refl
    alike ms true false x = refl
    alike ms true true (accepted ss ds) = yes ss ds ∙ spelled-alike (rank_of d.burst_len ss) ds (spells_payload d.codec.alphabet d.codec.message_len_of ds)
    alike ms true true (refused a) = no a

    decodes : (ms : List ℕ) → d.in_range ≡ true → d.fits ≡ true → length ms ≡ d.codec.message_len_of
        → word_first ≡ after_spelled (spelled_answer d.codec.alphabet d.codec.message_len_of (decode_under d w ms)) (decode_under d w ms).message
    decodes ms range fit room =
        rw (range, fit, eqb_same (length ms) d.codec.message_len_of room)
        (alike ms (eqb (length w) d.codec.word_len) (all_below d.codec.found_bound w) (d.codec.decode w))

    -- with room for the message, from what was said of it
    pub spelled-decodes : (ms ms' : List ℕ) → d.in_range ≡ true → d.fits ≡ true → length ms ≡ d.codec.message_len_of
        → (r said : Result ℕ Refusal) → r ≡ said → answer_as r ≡ spelled_answer d.codec.alphabet (length ms) (decode_under d w ms) → ms' ≡ (decode_under d w ms).message
        → word_first ≡ after_spelled (answer_as said) ms'
    spelled-decodes ms ms' range fit room r said is e lent =
        let o = decode_under d w ms in
        decodes ms range fit room
        ∙ ap (λ (k : ℕ). after_spelled (spelled_answer d.codec.alphabet k o) o.message) (sym room)
        ∙ ap (λ (a : WordAnswer). after_spelled a o.message) (sym e ∙ ap answer_as is)
        ∙ ap (after_spelled (answer_as said)) (sym lent)

-- a job is read so
pub read-decodes : (d : Coding) (es : List Entry) (w out : List ℕ) → ReadyUnder d es → length out ≡ payload_len d.codec.alphabet d.codec.message_len_of
    → job_read_under d es w out
    ≡ must (eqb (length w) d.codec.word_len) (withhold out wrong_length)
    (must (all_below d.codec.found_bound w) (withhold out bad_symbol) (job_in d.codec.alphabet d.codec.message_len_of es out (d.codec.decode w)))
unfolding job_reading
read-decodes d es w out r lent =
    rw (
      r.range,
      r.once,
      r.fit,
      r.carries,
      eqb_same (length out) (payload_len d.codec.alphabet d.codec.message_len_of) lent,
      both_true (eqb (length w) d.codec.word_len),
    )

-- ---- An accepted word's message spells a payload

abbrev accepts : WordAnswer → Bool
accepts (rank_is v) = true
accepts (refusal a) = false

spelled-accepted : (q k : ℕ) (ms : List ℕ) (v : ℕ) (a : WordAnswer) → rank_is v ≡ spelled_as q k ms a → spells_payload q k ms ≡ true
spelled-accepted q k ms v (refusal a) e = absurd (true≢false (ap accepts e))
spelled-accepted q k ms v (rank_is u) e = go (spells_payload q k ms) (ap accepts e)
  where
    go : (b : Bool) → true ≡ accepts (must b (refusal bad_payload) (rank_is u)) → b ≡ true
    go true e = refl
    go false e = sym e

-- so it can be handed out into the lent payload
pub holding : {l : WordLayout} {es : List Entry} {ms out : List ℕ} → ReadableJob l es ms out → (w ms' : List ℕ) → length ms' ≡ length ms
    → ms' ≡ (decode_under (coding_in l) w ms).message
    → (v : ℕ) → rank_is v ≡ spelled_answer l.q (length ms) (decode_under (coding_in l) w ms) → SpellsJob l.q ms' out
holding {l} {es} {ms} {out} h w ms' same lent v e =
    let d = coding_in l in
    let is = numbers-in l h.serves in
    let small = small-in l h.serves in
    let o = decode_under d w ms in
    record {
      alphabet = omega (arith, is.alphabet-is, small.alphabet-least);
      bytes = omega (arith, is.alphabet-is, small.alphabet-most);
      count = h.lent ∙ ap₂ payload_len (sym is.alphabet-is) (sym (same ∙ h.room));
      number = omega (arith, h.lent, carries-five d.codec.alphabet d.codec.message_len_of h.ready.carries);
      spelled = rw (same, lent) (spelled-accepted l.q (length ms) o.message v o.answer e);
    }
