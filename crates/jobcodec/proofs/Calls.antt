-- Job write and job read test by test, as the code makes them. Assumes nothing.
use mathlib.Core.Path.{◌≡◌, refl, ap, ap₂, ◌∙◌}
use mathlib.Core.Logic.{◌≢◌}
use mathlib.Core.Bool.{Bool, true, false, not, ◌&&◌}
use mathlib.Core.List.{List}
use Prim.Native.Nat.{ℕ, ◌≤◌, ◌<◌}
use native.Mathlib.Omega.{arith}
use lib.Dec.{eqb}
use lib.ListN.{length, take, replicate, length-replicate}
use lib.Seq.{length-take-le}
use Rattle.refusals.specs.Numbers.{number_of}
use Rattle.refusals.proofs.Numbers.{never-served}
use Rattle.refusals.specs.Refusals.{must, served, invalid, unfit, wrong_length, bad_starts, bad_payload, number_zero}
use Rattle.combinatorics.specs.Bursts.{apart}
use Rattle.combinatorics.proofs.Cases.{eqb_same, eqb-other, leb-holds, leb-fails}
use Rattle.cells.specs.Bytes.{payload_len}
use Rattle.cells.specs.Outcomes.{Coding, Held, in_use, Encoded, unwritten, unserved, figures_under}
use Rattle.cells.specs.Figures.{max_word, max_alphabet}
use Rattle.codes.specs.Answer.{figured_as, LaidAs}
use Rattle.codes.specs.Given.{HasNumbers, coding_in}
use Rattle.codes.specs.Bridge.{coding_of}
use Rattle.codes.specs.declared.Figures.{Figures}
use Rattle.std.specs.Prelude.{Result, Ok}
use Rattle.refusals.specs.declared.Refusal.{Refusal}
use Rattle.codes.specs.declared.WordLayout.{WordLayout}
use Rattle.codes.proofs.Answered.{serves}
use Rattle.codes.proofs.Layouts.{in_order, numbers-in, small-in}
use Rattle.jobs.specs.declared.Entry.{Entry}
use Rattle.jobs.specs.Jobs.{is_job, Status, unknown, opened, on_hold, cancelled, needs_open}
use Rattle.ledger.specs.Replay.{ReplayOut, replay_out}
use Rattle.jobs.specs.Table.{twice}
use Rattle.payloads.specs.Payload.{carries_job, job_number, message_of}
use Rattle.jobcodec.specs.JobWrite.{job_status, where_open, job_write_under}
use Rattle.jobcodec.specs.JobRead.{JobRead, hand_out, withhold, job_of_payload, job_reading, job_read_under}
use Rattle.jobcodec.specs.Given.{ServesTable, ReadyUnder}
use Rattle.jobcodec.specs.ListRead.{list_unread, list_read, list_out}
use Rattle.jobcodec.proofs.Outcomes.{both_false, figures-refused}

-- ---- "1 2"

module _ (d : Coding) (es : List Entry) where
  pub write-twice : (at : Held) (payload out : List ℕ) → twice es ≡ true → job_write_under d es at payload out ≡ unwritten out invalid
  write-twice at payload out e = rw (e, both_false d.in_range)

  pub read_twice : (w out : List ℕ) → twice es ≡ true → job_read_under d es w out ≡ withhold out invalid
  read_twice w out e = rw (e, both_false d.in_range)

  pub write-unfit : (at : Held) (payload out : List ℕ) (a : ℕ) → twice es ≡ false → figures_under d ≡ unserved a
      → job_write_under d es at payload out ≡ unwritten out a
  write-unfit at payload out a e r = figures-refused d es (unwritten out) _ a e r

  pub read-unfit : (w out : List ℕ) (a : ℕ) → twice es ≡ false → figures_under d ≡ unserved a → job_read_under d es w out ≡ withhold out a
  read-unfit w out a e r = figures-refused d es (withhold out) _ a e r

-- ---- Figures that fit, laid out

-- the layout gives what the figures give, and serves with the table
pub record LaidFor (f : Figures) (es : List Entry) (l : WordLayout) : Type 0 where
  pub same : coding_in l ≡ coding_of f
  pub fitting : ServesTable l es

-- what a caller learns of an answer that is a layout
pub laid : (f : Figures) (es : List Entry) (answer : Result WordLayout Refusal) (l : WordLayout) → answer ≡ Ok l
    → (figured_as answer ≡ figures_under (coding_of f)) × LaidAs f answer → twice es ≡ false → LaidFor f es l
laid f es answer l e told once =
    let own = serves f answer l e told.0 told.1 in
    record { same = own.0; fitting = record { serves = own.1; once = once } }

module _ (l : WordLayout) (es : List Entry) (h : ServesTable l es) where
  abbrev d : Coding
  d = coding_in l

  is : HasNumbers d l
  is = numbers-in l h.serves

  order : (d.in_range ≡ true) × (d.fits ≡ true)
  order = in_order l h.serves

  pub alphabet-few : l.q ≤ max_alphabet
  alphabet-few = omega (arith, is.alphabet-is, (small-in l h.serves).alphabet-most)

  pub bytes-are : (count : ℕ) → count ≡ payload_len l.q l.message_len → count ≡ payload_len d.codec.alphabet d.codec.message_len_of
  bytes-are count e = e ∙ ap₂ payload_len is.alphabet-is is.len_is

  -- no message is longer than the longest word
  pub message-short : l.message_len ≤ max_word
  message-short = let few = small-in l h.serves in omega (arith, is.len_is, few.message-most, few.word-most)

  -- what is lent of an array that has room for the message
  pub room-is : (room : ℕ) → l.message_len ≤ room → length {A = ℕ} (take l.message_len (replicate room 0)) ≡ d.codec.message_len_of
  room-is room le = length-take-le {A = ℕ} l.message_len (replicate room 0) (omega (arith, length-replicate {A = ℕ} room 0)) ∙ is.len_is

  -- five bytes or more
  pub ready : (count : ℕ) → count ≡ payload_len l.q l.message_len → 5 ≤ count → ReadyUnder d es
  unfolding carries_job
  ready count e five =
      record {
        range = order.0;
        once = h.once;
        fit = order.1;
        carries = leb-holds 5 (payload_len d.codec.alphabet d.codec.message_len_of) (omega (arith, bytes-are count e));
      }

  pub carries-not : (count : ℕ) → count ≡ payload_len l.q l.message_len → count < 5 → carries_job d.codec.alphabet d.codec.message_len_of ≡ false
  unfolding carries_job
  carries-not count e few = leb-fails 5 (payload_len d.codec.alphabet d.codec.message_len_of) (omega (arith, bytes-are count e))

  -- "10: K below 5"
  pub write-few : (at : Held) (payload out : List ℕ) (count : ℕ) → count ≡ payload_len l.q l.message_len → count < 5
      → job_write_under d es at payload out ≡ unwritten out bad_payload
  write-few at payload out count e few = rw (order.0, h.once, order.1, carries-not count e few)

  pub read-few : (w out : List ℕ) (count : ℕ) → count ≡ payload_len l.q l.message_len → count < 5 → job_read_under d es w out ≡ withhold out bad_payload
  unfolding job_reading
  read-few w out count e few = rw (order.0, h.once, order.1, carries-not count e few)

-- ---- Writing

module _ (d : Coding) (es : List Entry) (at : Held) (payload out : List ℕ) (r : ReadyUnder d es) where
  abbrev pub done : Encoded
  done = record { answer = served; word = d.codec.encode (in_use at) (message_of d.codec.alphabet d.codec.message_len_of payload) }

  -- "17 12 23 14"
  abbrev pub from-number : Encoded
  from-number = must (is_job (job_number payload)) (unwritten out number_zero) (where_open (job_status es payload) (unwritten out) done)

  -- "5 17 12 23 14"
  abbrev pub from-starts : Encoded
  from-starts = must (apart d.burst_len d.codec.word_len 0 (in_use at)) (unwritten out bad_starts) from-number

  from-lengths : job_write_under d es at payload out
      ≡ must (eqb at.count d.bursts && eqb (length payload) (payload_len d.codec.alphabet d.codec.message_len_of) && eqb (length out)
      d.codec.word_len) (unwritten out wrong_length) from-starts
  from-lengths = rw (r.range, r.once, r.fit, r.carries)

  pub write-count : at.count ≢ d.bursts → job_write_under d es at payload out ≡ unwritten out wrong_length
  write-count n = from-lengths ∙ rw (eqb-other at.count d.bursts n)

  module _ (c : at.count ≡ d.bursts) where
    pub write_bytes : length payload ≢ payload_len d.codec.alphabet d.codec.message_len_of → job_write_under d es at payload out ≡ unwritten out wrong_length
    write_bytes n =
        from-lengths ∙ rw (eqb_same at.count d.bursts c, eqb-other (length payload) (payload_len d.codec.alphabet d.codec.message_len_of) n)

    module _ (y : length payload ≡ payload_len d.codec.alphabet d.codec.message_len_of) where
      pub write-length : length out ≢ d.codec.word_len → job_write_under d es at payload out ≡ unwritten out wrong_length
      write-length n =
          from-lengths
          ∙ rw (
            eqb_same at.count d.bursts c,
            eqb_same (length payload) (payload_len d.codec.alphabet d.codec.message_len_of) y,
            eqb-other
                (length out) d.codec.word_len n,
          )

      module _ (o : length out ≡ d.codec.word_len) where
        pub past-lengths : job_write_under d es at payload out ≡ from-starts
        past-lengths =
            from-lengths
            ∙ rw (
              eqb_same at.count d.bursts c,
              eqb_same (length payload) (payload_len d.codec.alphabet d.codec.message_len_of) y,
              eqb_same
                  (length out) d.codec.word_len o,
            )

        pub write-starts : apart d.burst_len d.codec.word_len 0 (in_use at) ≡ false → job_write_under d es at payload out ≡ unwritten out bad_starts
        write-starts n = past-lengths ∙ rw n

        by-status : (s : Status) → (where_open s (unwritten out) done).answer ≡ needs_open s
        by-status unknown = refl
        by-status opened = refl
        by-status on_hold = refl
        by-status (cancelled s) = refl

        module _ (p : apart d.burst_len d.codec.word_len 0 (in_use at) ≡ true) where
          pub write-zero : is_job (job_number payload) ≡ false → job_write_under d es at payload out ≡ unwritten out number_zero
          write-zero z = past-lengths ∙ rw (p, z)

          -- "12 23 14"
          pub write-status : is_job (job_number payload) ≡ true → (job_write_under d es at payload out).answer ≡ needs_open (job_status es payload)
          write-status j = rw (past-lengths, p, j) (by-status (job_status es payload))

-- a refused writing keeps the word
module _ (out : List ℕ) where
  abbrev pub Keeps : Encoded → Type 0
  Keeps r = r.answer ≢ served → unwritten out r.answer ≡ r

  keeps : (t : Bool) (a : ℕ) (rest : Encoded) → Keeps rest → Keeps (must t (unwritten out a) rest)
  keeps true a rest h = h
  keeps false a rest h = λ _. refl

  pub refused-keeps : (d : Coding) (es : List Entry) (at : Held) (payload : List ℕ) → Keeps (job_write_under d es at payload out)
  refused-keeps d es at payload =
      let k = d.codec.message_len_of in
      let done : Encoded = record { answer = served; word = d.codec.encode (in_use at) (message_of d.codec.alphabet k payload) } in
      let last = where_open (job_status es payload) (unwritten out) done in
      let job = must (is_job (job_number payload)) (unwritten out number_zero) last in
      let starts = must (apart d.burst_len d.codec.word_len 0 (in_use at)) (unwritten out bad_starts) job in
      let lengths = must (eqb at.count d.bursts && eqb (length payload) (payload_len d.codec.alphabet k) && eqb (length out) d.codec.word_len)
      (unwritten out wrong_length) starts in
      let five = must (carries_job d.codec.alphabet k) (unwritten out bad_payload) lengths in
      keeps (d.in_range && not (twice es)) invalid (must d.fits (unwritten out unfit) five)
      (keeps d.fits unfit five
      (keeps (carries_job d.codec.alphabet k) bad_payload lengths
      (keeps (eqb at.count d.bursts && eqb (length payload) (payload_len d.codec.alphabet k) && eqb (length out) d.codec.word_len) wrong_length
      starts
      (keeps (apart d.burst_len d.codec.word_len 0 (in_use at)) bad_starts job
      (keeps (is_job (job_number payload)) number_zero last
      (keeps (eqb (needs_open (job_status es payload)) served) (needs_open (job_status es payload)) done (λ d. absurd (d refl))))))))

  pub kept : (d : Coding) (es : List Entry) (at : Held) (payload : List ℕ) (r : Refusal) → number_of r ≡ (job_write_under d es at payload out).answer
      → unwritten out (number_of r) ≡ job_write_under d es at payload out
  kept d es at payload r e = ap (unwritten out) e ∙ refused-keeps d es at payload (λ z. never-served r (e ∙ z))

-- ---- Reading

pub read_length : (d : Coding) (es : List Entry) (w out : List ℕ) → ReadyUnder d es → length out ≢ payload_len d.codec.alphabet d.codec.message_len_of
    → job_read_under d es w out ≡ withhold out wrong_length
unfolding job_reading
read_length d es w out r n =
    rw (
      r.range,
      r.once,
      r.fit,
      r.carries,
      eqb-other (length out) (payload_len d.codec.alphabet d.codec.message_len_of) n,
      both_false
          (eqb (length w) d.codec.word_len),
    )

pub not-open : (es : List Entry) (out payload : List ℕ) (a : ℕ) → a ≡ needs_open (job_status es payload) → a ≢ served
    → job_of_payload es out payload ≡ withhold out a
not-open es out payload a n d = rw (← n, eqb-other a served d)

pub handed : (es : List Entry) (out payload : List ℕ) → needs_open (job_status es payload) ≡ served → job_of_payload es out payload ≡ hand_out payload
handed es out payload n = rw n

-- ---- A list of calls, and the job reading after it

module _ (d : Coding) (es : List Entry) (letters numbers answers w out : List ℕ) (r : ReplayOut) (e : r ≡ replay_out es letters numbers answers) where
  pub list-refused : r.answer ≢ served → list_unread r out ≡ list_out d es letters numbers answers w out
  unfolding list_out
  list-refused d = rw (← e, eqb-other r.answer served d)

  pub list-goes-on : (j : JobRead) → r.answer ≡ served → j ≡ job_read_under d r.table w out → list_read r j ≡ list_out d es letters numbers answers w out
  unfolding list_out
  list-goes-on j d h = rw (← e, eqb_same r.answer served d, h)
