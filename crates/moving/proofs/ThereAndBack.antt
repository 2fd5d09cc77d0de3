-- Moving there and back with damage in between: what is refused keeps the lent strip, and what was moved comes back. Assumes nothing.
use mathlib.Core.Path.{◌≡◌, refl, sym, ap, ap₂, subst, ◌∙◌}
use mathlib.Core.Logic.{◌≢◌}
use mathlib.Core.Bool.{Bool, true, false, not, ◌&&◌, true≢false}
use mathlib.Core.List.{List, []}
use Prim.Native.Nat.{ℕ}
use native.Mathlib.Omega.{arith}
use lib.Dec.{eqb}
use lib.ListN.{length}
use Rattle.refusals.specs.Refusals.{must, served, invalid, unfit, wrong_length, bad_symbol, bad_payload, surplus_bytes, number_zero}
use Rattle.combinatorics.specs.Bursts.{in_burst}
use Rattle.combinatorics.specs.Lists.{all_below}
use Rattle.combinatorics.proofs.Cases.{by_bool, eqb-other}
use Rattle.cells.specs.Codec.{Codec, Reading, accepted, refused, Word}
use Rattle.cells.specs.Outcomes.{Coding, Encoded, unwritten}
use Rattle.codes.specs.Bridge.{coding_of}
use Rattle.codes.specs.declared.Figures.{Figures}
use Rattle.codes.proofs.Exact.{more-found, spoilt-is}
use Rattle.codes.proofs.Layouts.{small}
use Rattle.jobs.specs.declared.Entry.{Entry}
use Rattle.jobs.specs.Jobs.{is_job, needs_open}
use Rattle.jobs.specs.Table.{twice}
use Rattle.payloads.specs.Payload.{carries_job, job_number, payload_in, spells_payload}
use Rattle.jobcodec.specs.JobWrite.{job_status, where_open}
use Rattle.roundtrip.specs.Damage.{damaged}
use Rattle.roundtrip.proofs.ReadBack.{damaged-length, sound, damaged-below}
use Rattle.moving.specs.Resize.{resized, has_room}
use Rattle.moving.specs.Move.{payload_bytes, served_word, job_word, move_job, move_message, move_read, move, same_figures, move_under}
use Rattle.moving.specs.ThereAndBack.{SpoiltFrom, MovedBack, there_and_back_as, there_and_back_out, CameBack}
use Rattle.moving.proofs.Figures.{fitting, there_and_back}

-- ---- "Only the output strip changes", and it where nothing is refused

abbrev Kept : List ℕ → Encoded → Type 0
Kept out e = e.answer ≢ served → e.word ≡ out

test-keeps : (b : Bool) (out : List ℕ) (a : ℕ) (rest : Encoded) → Kept out rest → Kept out (must b (unwritten out a) rest)
test-keeps true out a rest k = k
test-keeps false out a rest k = λ _. refl

module _ (from to : Codec) (es : List Entry) (out : List ℕ) where
  read_keeps : (x : Reading) → Kept out (move_read from to es out x)
  unfolding move_message move_job
  read_keeps (refused a) = λ _. refl
  read_keeps (accepted starts ms) =
      let y = payload_in from.alphabet from.message_len_of ms in
      let last = served_word (job_word to starts (resized (payload_bytes to) y)) in
      let zero = must (is_job (job_number y)) (unwritten out number_zero) last in
      let surplus = must (has_room (payload_bytes to) y) (unwritten out surplus_bytes) zero in
      test-keeps (spells_payload from.alphabet from.message_len_of ms) out bad_payload (where_open (job_status es y) (unwritten out) surplus)
      (test-keeps (eqb (needs_open (job_status es y)) served) out (needs_open (job_status es y)) surplus
      (test-keeps (has_room (payload_bytes to) y) out surplus_bytes zero
      (test-keeps (is_job (job_number y)) out number_zero last (λ n. absurd (n refl)))))

  move-keeps : (w : List ℕ) → Kept out (move from to es w out)
  unfolding move
  move-keeps w =
      let reads = move_read from to es out (from.decode w) in
      let symbols = must (all_below from.found_bound w) (unwritten out bad_symbol) reads in
      let long = eqb (length w) from.word_len && eqb (length out) to.word_len in
      let carry = carries_job from.alphabet from.message_len_of && carries_job to.alphabet to.message_len_of in
      test-keeps carry out bad_payload (must long (unwritten out wrong_length) symbols)
      (test-keeps long out wrong_length symbols
      (test-keeps (all_below from.found_bound w) out bad_symbol reads (read_keeps (from.decode w))))

under-keeps : (d e : Coding) (es : List Entry) (w out : List ℕ) → Kept out (move_under d e es w out)
unfolding move_under
under-keeps d e es w out =
    let rest = move d.codec e.codec es w out in
    let fit = same_figures d e && d.fits && e.fits in
    test-keeps (d.in_range && e.in_range && not (twice es)) out invalid (must fit (unwritten out unfit) rest)
    (test-keeps fit out unfit rest (move-keeps d.codec e.codec es out w))

-- ---- What comes back

abbrev starts_read : Reading → List ℕ
starts_read (accepted starts ms) = starts
starts_read (refused a) = []

abbrev message_read : Reading → List ℕ
message_read (accepted starts ms) = ms
message_read (refused a) = []

module _ (from to : Figures) (es : List Entry) (starts w ds between lent : List ℕ) where
  abbrev d : Coding
  d = coding_of from

  abbrev e : Coding
  e = coding_of to

  abbrev moved : List ℕ
  moved = (move_under d e es w between).word

  abbrev found : List ℕ
  found = damaged (in_burst e.burst_len starts) ds moved

  module _ (a : (move_under d e es w between).answer ≡ served) where
    found_word : all_below e.codec.found_bound ds ≡ true → Word e.codec found
    found_word h =
        let own = (there_and_back from to es w between a).unspoilt in
        let q-least = (small to (fitting d e es w between a).0.range-to).alphabet-least in
        let bound = e.codec.found_bound in
        record {
          complete = damaged-length (in_burst e.burst_len starts) ds moved ∙ own.complete;
          symbols = damaged-below (in_burst e.burst_len starts) ds moved bound bound (omega (arith, more-found to, q-least)) (omega arith) h own.symbols;
        }

    found-spoilt : (placement : List ℕ) → ((x : ℕ) → in_burst e.burst_len starts x ≡ true → in_burst e.burst_len placement x ≡ true)
        → SpoiltFrom e.codec placement moved found
    found-spoilt placement inside x l clean =
        let own = (there_and_back from to es w between a).unspoilt in
        let outside = sym (spoilt-is to placement x) ∙ clean in
        sound (in_burst e.burst_len starts) ds moved x (omega (arith, own.complete))
        (by_bool (in_burst e.burst_len starts x) (λ h. absurd (true≢false (sym (inside x h) ∙ outside))) (λ h. h))

    moved_out : there_and_back_out d e es starts w ds between lent
        ≡ there_and_back_as (move_under e d es found lent).answer found (move_under e d es found lent).word
    unfolding there_and_back_out
    moved_out = rw a

  pub came-back : CameBack d e es starts w ds between lent (there_and_back_out d e es starts w ds between lent).answer
      (there_and_back_out d e es starts w ds between lent).back
  came-back placement message a reads h inside long =
      let own = there_and_back from to es w between a in
      let at : own.starts ≡ placement = ap starts_read (sym own.read ∙ reads) in
      let ms : own.message ≡ message = ap message_read (sym own.read ∙ reads) in
      let whole : move_under e d es found lent ≡ served_word (d.codec.encode own.starts own.message) =
      own.returns found lent (found_word a h) (rw at (found-spoilt a placement inside)) long in
      rw (moved_out a, whole, ← at, ← ms) (record { accepts = refl; strip = refl; reads = own.again })

  -- ---- As the code goes about it

  -- the outcome, and with it what came back
  pub with-strip : (r : ℕ) (x back : List ℕ) → there_and_back_as r x back ≡ there_and_back_out d e es starts w ds between lent
      → (there_and_back_as r x back ≡ there_and_back_out d e es starts w ds between lent) × CameBack d e es starts w ds between lent r back
  with-strip r x back is = (is, subst (λ (o : MovedBack). CameBack d e es starts w ds between lent o.answer o.back) (sym is) came-back)

  module _ (r : ℕ) (x : List ℕ) (is : unwritten x r ≡ move_under d e es w between) where
    answer-is : r ≡ (move_under d e es w between).answer
    answer-is = ap (λ (o : Encoded). o.answer) is

    word-is : x ≡ moved
    word-is = ap (λ (o : Encoded). o.word) is

    pub refused-there : r ≢ served → there_and_back_as r x lent ≡ there_and_back_out d e es starts w ds between lent
    unfolding there_and_back_out
    refused-there n =
        let other : (move_under d e es w between).answer ≢ served = λ z. n (answer-is ∙ z) in
        rw (eqb-other (move_under d e es w between).answer served other)
        (ap₂ (λ (a : ℕ) (y : List ℕ). there_and_back_as a y lent) answer-is (word-is ∙ under-keeps d e es w between other))

    pub moved_back : r ≡ served → (y : List ℕ) → y ≡ damaged (in_burst e.burst_len starts) ds x → (r' : ℕ) (back : List ℕ)
        → unwritten back r' ≡ move_under e d es y lent → there_and_back_as r' y back ≡ there_and_back_out d e es starts w ds between lent
    moved_back z y y-is r' back is' =
        let spoilt : y ≡ found = y-is ∙ ap (damaged (in_burst e.burst_len starts) ds) word-is in
        let last : unwritten back r' ≡ move_under e d es found lent = is' ∙ ap (λ (v : List ℕ). move_under e d es v lent) spoilt in
        ap₂ (λ (v : List ℕ) (o : Encoded). there_and_back_as o.answer v o.word) spoilt last ∙ sym (moved_out (sym answer-is ∙ z))
