-- A job that was written reads back under the same table, however its word is spoilt inside the placement's bursts, under any figures that give an exact
-- codec; and so under those of each code. Assumes nothing.
use mathlib.Core.Path.{◌≡◌, refl, ap, ◌∙◌}
use mathlib.Core.Bool.{Bool, true, false, not, ◌&&◌}
use mathlib.Core.List.{List}
use Prim.Native.Nat.{ℕ, ◌<◌}
use native.Mathlib.Omega.{arith}
use lib.Dec.{eqb}
use lib.ListN.{length, get_or}
use lib.Seq.{length-take-le}
use Rattle.refusals.specs.Refusals.{must, served, invalid, unfit, wrong_length, bad_starts, bad_payload, number_zero}
use Rattle.combinatorics.specs.Lists.{any, all_below}
use Rattle.combinatorics.specs.Bursts.{apart}
use Rattle.combinatorics.proofs.Cases.{eqb_same, eqb-true}
use Rattle.combinatorics.proofs.Lists.{both}
use Rattle.cells.specs.Bytes.{byte_values, payload_len}
use Rattle.cells.specs.Figures.{max_bursts, Params}
use Rattle.cells.specs.Outcomes.{Coding, Held, in_use, Encoded, unwritten}
use Rattle.construction_a.specs.Outcomes.{coding}
use Rattle.codes.specs.Bridge.{coding_of}
use Rattle.jobs.specs.declared.Entry.{Entry}
use Rattle.jobs.specs.Jobs.{is_job, Status, unknown, opened, on_hold, cancelled}
use Rattle.jobs.specs.Table.{twice}
use Rattle.payloads.specs.Payload.{carries_job, job_number, message_of}
use Rattle.jobcodec.specs.JobWrite.{job_status, where_open, job_write_under, job_write_out}
use Rattle.jobcodec.specs.DemandThree.{is_refusal, Gives}
use Rattle.jobcodec.specs.Given.{ReadyUnder}
use Rattle.jobcodec.specs.ReadBack.{JobsReadBackUnder, JobsReadBack}
use Rattle.jobcodec.proofs.Outcomes.{read-decodes}
use Rattle.jobcodec.proofs.Pairs.{not-served, read-pair}
use Rattle.jobcodec.proofs.DemandThree.{ReadsWhereFit, reads_in}
use Rattle.payloads.proofs.Payload.{length-message, message-symbols, payload-back, payload-passes}

-- ---- What an accepted writing says of its input

pub record WrittenUnder (d : Coding) (es : List Entry) (at : Held) (payload out : List ℕ) : Type 0 where
  pub ready : ReadyUnder d es
  pub count : at.count ≡ d.bursts
  pub long : length payload ≡ payload_len d.codec.alphabet d.codec.message_len_of
  pub lent : length out ≡ d.codec.word_len
  pub placed : apart d.burst_len d.codec.word_len 0 (in_use at) ≡ true
  pub job : is_job (job_number payload) ≡ true
  pub is_open : job_status es payload ≡ opened

-- a test of an order that ends in acceptance was passed
pub passed : (t : Bool) (out : List ℕ) (a : ℕ) (rest : Encoded) → is_refusal a ≡ true → (must t (unwritten out a) rest).answer ≡ served
    → (t ≡ true) × (rest.answer ≡ served)
passed true out a rest r e = (refl, e)
passed false out a rest r e = not-served a r e

found-open : (s : Status) (out : List ℕ) (rest : Encoded) → (where_open s (unwritten out) rest).answer ≡ served → s ≡ opened
unfolding is_refusal any
found-open unknown out rest e = not-served 14 refl e
found-open opened out rest e = refl
found-open on_hold out rest e = not-served 23 refl e
found-open (cancelled s) out rest e = not-served 12 refl e

not-true : (b : Bool) → not b ≡ true → b ≡ false
not-true true e = ap not e
not-true false e = refl

module _ (d : Coding) (es : List Entry) (at : Held) (payload out : List ℕ) where
  pub written-under : (job_write_under d es at payload out).answer ≡ served → WrittenUnder d es at payload out
  unfolding is_refusal any
  written-under e =
      let c = d.codec in
      let q = c.alphabet in
      let k = c.message_len_of in
      let answered : Encoded = record { answer = served; word = c.encode (in_use at) (message_of q k payload) } in
      let last = where_open (job_status es payload) (unwritten out) answered in
      let job = must (is_job (job_number payload)) (unwritten out number_zero) last in
      let starts = must (apart d.burst_len c.word_len 0 (in_use at)) (unwritten out bad_starts) job in
      let lengths = must (eqb at.count d.bursts && eqb (length payload) (payload_len q k) && eqb (length out) c.word_len)
      (unwritten out wrong_length) starts in
      let five = must (carries_job q k) (unwritten out bad_payload) lengths in
      let p₁ = passed (d.in_range && not (twice es)) out invalid (must d.fits (unwritten out unfit) five) refl e in
      let p₂ = passed d.fits out unfit five refl p₁.1 in
      let p₃ = passed (carries_job q k) out bad_payload lengths refl p₂.1 in
      let p₄ = passed (eqb at.count d.bursts && eqb (length payload) (payload_len q k) && eqb (length out) c.word_len) out wrong_length starts refl
      p₃.1 in
      let p₅ = passed (apart d.burst_len c.word_len 0 (in_use at)) out bad_starts job refl p₄.1 in
      let p₆ = passed (is_job (job_number payload)) out number_zero last refl p₅.1 in
      let valid = both d.in_range (not (twice es)) p₁.0 in
      let fit₁ = both (eqb at.count d.bursts && eqb (length payload) (payload_len q k)) (eqb (length out) c.word_len) p₄.0 in
      let fit₂ = both (eqb at.count d.bursts) (eqb (length payload) (payload_len q k)) fit₁.0 in
      record {
        ready = record { range = valid.0; once = not-true (twice es) valid.1; fit = p₂.0; carries = p₃.0 };
        count = eqb-true at.count d.bursts fit₂.0;
        long = eqb-true (length payload) (payload_len q k) fit₂.1;
        lent = eqb-true (length out) c.word_len fit₁.1;
        placed = p₅.0;
        job = p₆.0;
        is_open = found-open (job_status es payload) out answered p₆.1;
      }

  -- and of the word
  pub written-word : WrittenUnder d es at payload out
      → (job_write_under d es at payload out).word ≡ d.codec.encode (in_use at) (message_of d.codec.alphabet d.codec.message_len_of payload)
  written-word wr =
      let K = payload_len d.codec.alphabet d.codec.message_len_of in
      rw (
        wr.ready.range,
        wr.ready.once,
        wr.ready.fit,
        wr.ready.carries,
        eqb_same at.count d.bursts wr.count,
        eqb_same (length payload) K wr.long,
        eqb_same (length out) d.codec.word_len wr.lent,
        wr.placed,
        wr.job,
        wr.is_open,
      )

  -- ---- Reading it back, from a placement and K bytes

  module _ (reads : ReadsWhereFit d) (sized : length at.starts ≡ max_bursts) (bytes : all_below byte_values payload ≡ true) where
    -- placement and payload are a pair that gives every word that agrees with the written one outside the bursts
    pub written-gives : (w : List ℕ) → WrittenUnder d es at payload out
        → ((x : ℕ) → x < d.codec.word_len → d.codec.spoilt (in_use at) x ≡ false → get_or w x 0 ≡ get_or (job_write_under d es at payload out).word x 0)
        → Gives d.codec w (in_use at) payload
    written-gives w wr outside =
        let q = d.codec.alphabet in
        let k = d.codec.message_len_of in
        let r = reads wr.ready.range wr.ready.fit in
        let used : length (in_use at) ≡ d.bursts = length-take-le at.count at.starts (omega (arith, wr.count, r.few)) ∙ wr.count in
        record {
          whole = record { count = wr.long; bytes = bytes };
          leads = record {
            placement = r.placed (in_use at) used wr.placed;
            count = length-message q k payload wr.long;
            symbols = message-symbols q k r.two payload bytes;
            outside = λ x l b. outside x l b ∙ ap (λ (z : List ℕ). get_or z x 0) (written-word wr);
          };
        }

pub jobs-read-back : (d : Coding) → ReadsWhereFit d → JobsReadBackUnder d
jobs-read-back d reads es at payload out w buffer sized bytes e found outside lent =
    let q = d.codec.alphabet in
    let k = d.codec.message_len_of in
    let wr = written-under d es at payload out e in
    let g = written-gives d es at payload out reads sized bytes w wr outside in
    let r = reads wr.ready.range wr.ready.fit in
    read-decodes d es w buffer wr.ready lent
    ∙ rw (
      eqb_same (length w) d.codec.word_len found.complete,
      found.symbols,
      read-pair d.codec r.exactly r.two w found (in_use at) payload g,
      payload-passes q k r.two payload g.whole,
      payload-back q k r.two payload g.whole,
      wr.is_open,
    )

-- ---- Construction A

abbrev pub Written : Params → List Entry → Held → List ℕ → List ℕ → Type 0
Written f = WrittenUnder (coding f)

pub written : (f : Params) (es : List Entry) (at : Held) (payload out : List ℕ) → (job_write_out f es at payload out).answer ≡ served → Written f es at payload out
unfolding job_write_out
written f = written-under (coding f)

-- ---- Each code

pub reads-back : JobsReadBack
reads-back f = jobs-read-back (coding_of f) (reads_in f)
