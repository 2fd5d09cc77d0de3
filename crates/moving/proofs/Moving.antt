-- Moving between any two exact codecs, where the placements of one are placements of the other: there and back returns the message. Assumes nothing.
use mathlib.Core.Path.{◌≡◌, refl, sym, ap, ◌∙◌}
use mathlib.Core.Logic.{◌≢◌}
use mathlib.Core.Bool.{Bool, true, false, ◌&&◌}
use mathlib.Core.List.{List}
use Prim.Native.Nat.{ℕ, ◌≤◌, ◌<◌}
use native.Mathlib.Omega.{arith}
use lib.Dec.{eqb}
use lib.ListN.{length, get_or}
use Rattle.refusals.specs.Refusals.{must, served, wrong_length, bad_symbol, bad_payload, surplus_bytes, number_zero}
use Rattle.combinatorics.specs.Lists.{all_below}
use Rattle.combinatorics.proofs.Cases.{eqb_same, eqb-true}
use Rattle.combinatorics.proofs.Lists.{both, below_at, at-below}
use Rattle.cells.specs.Codec.{Codec, Reading, accepted, refused, Word, LeadsTo, WritesWords, Exact}
use Rattle.cells.specs.Outcomes.{Held, held, Encoded, unwritten}
use Rattle.jobs.specs.declared.Entry.{Entry}
use Rattle.jobs.specs.Jobs.{is_job, Status, unknown, opened, on_hold, cancelled}
use Rattle.jobs.specs.Table.{standing, lookup}
use Rattle.payloads.specs.Payload.{IsPayload, carries_job, job_number, message_of, payload_in, spells_payload}
use Rattle.payloads.proofs.Payload.{length-message, message-symbols, payload-back, payload-passes, payload-is, message-is, carries-five}
use Rattle.jobcodec.specs.JobWrite.{job_status, where_open}
use Rattle.jobcodec.specs.JobRead.{job_reading}
use Rattle.moving.specs.Resize.{resized, has_room}
use Rattle.moving.specs.Move.{payload_bytes, served_word, job_word, move_job, move_message, move_read, move}
use Rattle.moving.specs.ThereAndBack.{SpoiltFrom, Returned, SameJob}
use Rattle.moving.proofs.Resize.{length-resized, resized-bytes, room_back, resized-back, number-resized}

-- what is asked of each codec: exact, writing words of an alphabet that can be found, and refusing with no 0
pub record Movable (c : Codec) : Type 0 where
  pub exact : Exact c
  pub writes : WritesWords c
  pub two : 2 ≤ c.alphabet
  pub finds : c.alphabet ≤ c.found_bound
  pub numbered : (w : List ℕ) (a : ℕ) → c.decode w ≡ refused a → a ≢ served

-- and of job writing under one: a job that passes its tests is written
abbrev pub WritesJobs : Codec → List Entry → (Held → List ℕ → List ℕ → Encoded) → Type 0
WritesJobs c es write = (starts payload out : List ℕ) → c.placed starts ≡ true → carries_job c.alphabet c.message_len_of ≡ true
    → IsPayload c.alphabet c.message_len_of payload → is_job (job_number payload) ≡ true → job_status es payload ≡ opened → length out ≡ c.word_len
    → write (held starts) payload out ≡ served_word (job_word c starts payload)

-- ---- An accepted move, test by test

pub record Passed (from to : Codec) (es : List Entry) (w out starts message : List ℕ) : Type 0 where
  pub carries-from : carries_job from.alphabet from.message_len_of ≡ true
  pub carries-to : carries_job to.alphabet to.message_len_of ≡ true
  pub complete : length w ≡ from.word_len
  pub lent : length out ≡ to.word_len
  pub symbols : all_below from.found_bound w ≡ true
  pub read : from.decode w ≡ accepted starts message
  pub spells : spells_payload from.alphabet from.message_len_of message ≡ true
  pub is_open : job_status es (payload_in from.alphabet from.message_len_of message) ≡ opened
  pub room : has_room (payload_bytes to) (payload_in from.alphabet from.message_len_of message) ≡ true
  pub number : is_job (job_number (payload_in from.alphabet from.message_len_of message)) ≡ true

-- a test of an order that ends in acceptance was passed
pub passed : (t : Bool) (out : List ℕ) (a : ℕ) (rest : Encoded) → a ≢ served → (must t (unwritten out a) rest).answer ≡ served
    → (t ≡ true) × (rest.answer ≡ served)
passed true out a rest n e = (refl, e)
passed false out a rest n e = absurd (n e)

found-open : (s : Status) (out : List ℕ) (rest : Encoded) → (where_open s (unwritten out) rest).answer ≡ served → (s ≡ opened) × (rest.answer ≡ served)
found-open unknown out rest e = absurd (omega arith)
found-open opened out rest e = (refl, e)
found-open on_hold out rest e = absurd (omega arith)
found-open (cancelled s) out rest e = absurd (omega arith)

module _ (from to : Codec) (es : List Entry) (w out : List ℕ) where
  -- what an accepted move says of its input
  pub accepted-move : ((a : ℕ) → from.decode w ≡ refused a → a ≢ served) → (move from to es w out).answer ≡ served
      → (starts : List ℕ) × (message : List ℕ) × Passed from to es w out starts message
  unfolding move move_message move_job
  accepted-move numbered e =
      let reads = move_read from to es out (from.decode w) in
      let symbols = must (all_below from.found_bound w) (unwritten out bad_symbol) reads in
      let lengths = must (eqb (length w) from.word_len && eqb (length out) to.word_len) (unwritten out wrong_length) symbols in
      let carries = carries_job from.alphabet from.message_len_of && carries_job to.alphabet to.message_len_of in
      let p₁ = passed carries out bad_payload lengths (λ z. omega arith) e in
      let p₂ = passed (eqb (length w) from.word_len && eqb (length out) to.word_len) out wrong_length symbols (λ z. omega arith) p₁.1 in
      let p₃ = passed (all_below from.found_bound w) out bad_symbol reads (λ z. omega arith) p₂.1 in
      let carry = both (carries_job from.alphabet from.message_len_of) (carries_job to.alphabet to.message_len_of) p₁.0 in
      let long = both (eqb (length w) from.word_len) (eqb (length out) to.word_len) p₂.0 in
      go (from.decode w) refl p₃.1 carry.0 carry.1 (eqb-true (length w) from.word_len long.0)
      (eqb-true (length out) to.word_len long.1) p₃.0
    where
      go : (r : Reading) → from.decode w ≡ r → (move_read from to es out r).answer ≡ served
          → carries_job from.alphabet from.message_len_of ≡ true → carries_job to.alphabet to.message_len_of ≡ true
          → length w ≡ from.word_len → length out ≡ to.word_len → all_below from.found_bound w ≡ true
          → (starts : List ℕ) × (message : List ℕ) × Passed from to es w out starts message
      go (refused a) d e c₁ c₂ l₁ l₂ s = absurd (numbered a d e)
      go (accepted starts ms) d e c₁ c₂ l₁ l₂ s =
          let y = payload_in from.alphabet from.message_len_of ms in
          let last = served_word (job_word to starts (resized (payload_bytes to) y)) in
          let zero = must (is_job (job_number y)) (unwritten out number_zero) last in
          let surplus = must (has_room (payload_bytes to) y) (unwritten out surplus_bytes) zero in
          let status = where_open (job_status es y) (unwritten out) surplus in
          let p₄ = passed (spells_payload from.alphabet from.message_len_of ms) out bad_payload status (λ z. omega arith) e in
          let p₅ = found-open (job_status es y) out surplus p₄.1 in
          let p₆ = passed (has_room (payload_bytes to) y) out surplus_bytes zero (λ z. omega arith) p₅.1 in
          let p₇ = passed (is_job (job_number y)) out number_zero last (λ z. omega arith) p₆.1 in (
            starts,
            ms,
            record {
              carries-from = c₁;
              carries-to = c₂;
              complete = l₁;
              lent = l₂;
              symbols = s;
              read = d;
              spells = p₄.0;
              is_open = p₅.0;
              room = p₆.0;
              number = p₇.0;
            },
          )

  -- and what it then gives
  pub passed-move : (starts ms : List ℕ) → Passed from to es w out starts ms
      → move from to es w out ≡ served_word (job_word to starts (resized (payload_bytes to) (payload_in from.alphabet from.message_len_of ms)))
  unfolding move move_message move_job
  passed-move starts ms p =
      rw (
        p.carries-from,
        p.carries-to,
        eqb_same (length w) from.word_len p.complete,
        eqb_same (length out) to.word_len p.lent,
        p.symbols,
        p.read,
        p.spells,
        p.is_open,
        p.room,
        p.number,
      )

-- ---- There and back

below_more : (a b : ℕ) (xs : List ℕ) → 0 < a → a ≤ b → all_below a xs ≡ true → all_below b xs ≡ true
below_more a b xs z l h = at-below b xs (λ x _. omega (arith, below_at a xs z h x))

-- a word that is written is one that can be found, and reads back, spoilt inside its bursts or not
module _ (c : Codec) (ok : Movable c) (starts ms : List ℕ) (placed : c.placed starts ≡ true) (count : length ms ≡ c.message_len_of)
    (symbols : all_below c.alphabet ms ≡ true) where
  pub written-word : Word c (c.encode starts ms)
  written-word =
      let v = ok.writes starts ms placed count symbols in
      record { complete = v.0; symbols = below_more c.alphabet c.found_bound (c.encode starts ms) (omega (arith, ok.two)) ok.finds v.1 }

  pub reads-back : (w : List ℕ) → Word c w → SpoiltFrom c starts (c.encode starts ms) w → c.decode w ≡ accepted starts ms
  reads-back w found outside = (ok.exact w starts ms found).1 (record { placement = placed; count = count; symbols = symbols; outside = outside })

module _ (from to : Codec) (ok_from : Movable from) (ok-to : Movable to) (alike : (starts : List ℕ) → from.placed starts ≡ true → to.placed starts ≡ true)
    (es : List Entry) (w out starts ms : List ℕ) (p : Passed from to es w out starts ms) where
  -- the payload that was read, at its length and at the other
  y : List ℕ
  y = payload_in from.alphabet from.message_len_of ms

  z : List ℕ
  z = resized (payload_bytes to) y

  found : Word from w
  found = record { complete = p.complete; symbols = p.symbols }

  leads : LeadsTo from w starts ms
  leads = (ok_from.exact w starts ms found).0 p.read

  y-is : IsPayload from.alphabet from.message_len_of y
  unfolding y
  y-is = payload-is from.alphabet from.message_len_of ms p.spells

  z-is : IsPayload to.alphabet to.message_len_of z
  unfolding z
  z-is = record { count = length-resized (payload_bytes to) y; bytes = resized-bytes (payload_bytes to) y y-is.bytes }

  -- its message is the one that was read
  spelled : message_of from.alphabet from.message_len_of y ≡ ms
  unfolding y
  spelled = message-is from.alphabet from.message_len_of ok_from.two ms leads.count leads.symbols p.spells

  moved : List ℕ
  moved = message_of to.alphabet to.message_len_of z

  moved_word : (move from to es w out).word ≡ to.encode starts moved
  unfolding moved z y job_word
  moved_word = ap (λ (r : Encoded). r.word) (passed-move from to es w out starts ms p)

  placed : to.placed starts ≡ true
  placed = alike starts leads.placement

  moved-count : length moved ≡ to.message_len_of
  unfolding moved
  moved-count = length-message to.alphabet to.message_len_of z z-is.count

  moved-symbols : all_below to.alphabet moved ≡ true
  unfolding moved
  moved-symbols = message-symbols to.alphabet to.message_len_of ok-to.two z z-is.bytes

  same_number : job_number z ≡ job_number y
  unfolding z
  same_number =
      number-resized (payload_bytes to) y (omega (arith, y-is.count, carries-five from.alphabet from.message_len_of p.carries-from))
      (omega (arith, carries-five to.alphabet to.message_len_of p.carries-to))

  -- the moved strip can be found, and it reads as the moved payload
  moved-found : Word to (move from to es w out).word
  moved-found = rw moved_word (written-word to ok-to starts moved placed moved-count moved-symbols)

  moved-reads : (w' : List ℕ) → Word to w' → SpoiltFrom to starts (move from to es w out).word w' → to.decode w' ≡ accepted starts moved
  moved-reads w' found' outside =
      reads-back to ok-to starts moved placed moved-count moved-symbols w' found' (λ x l s. outside x l s ∙ ap (λ (r : List ℕ). get_or r x 0) moved_word)

  -- the way back passes every test
  passed-back : (w' out' : List ℕ) → Word to w' → SpoiltFrom to starts (move from to es w out).word w' → length out' ≡ from.word_len
      → Passed to from es w' out' starts moved
  unfolding moved z y
  passed-back w' out' found' outside lent =
      let back : payload_in to.alphabet to.message_len_of moved ≡ z = payload-back to.alphabet to.message_len_of ok-to.two z z-is in
      record {
        carries-from = p.carries-to;
        carries-to = p.carries-from;
        complete = found'.complete;
        lent = lent;
        symbols = found'.symbols;
        read = moved-reads w' found' outside;
        spells = payload-passes to.alphabet to.message_len_of ok-to.two z z-is;
        is_open = ap (job_status es) back ∙ ap (λ (n : ℕ). standing (lookup es n)) same_number ∙ p.is_open;
        room = ap (has_room (payload_bytes from)) back ∙ room_back (payload_bytes from) (payload_bytes to) y y-is.count;
        number = ap (λ (a : List ℕ). is_job (job_number a)) back ∙ ap (λ (n : ℕ). is_job n) same_number ∙ p.number;
      }

  pub goes_back : (w' out' : List ℕ) → Word to w' → SpoiltFrom to starts (move from to es w out).word w' → length out' ≡ from.word_len
      → move to from es w' out' ≡ served_word (from.encode starts ms)
  unfolding job_word moved z y
  goes_back w' out' found' outside lent =
      passed-move to from es w' out' starts moved (passed-back w' out' found' outside lent)
      ∙ ap (λ (a : List ℕ). served_word (from.encode starts (message_of from.alphabet from.message_len_of a)))
      (ap (resized (payload_bytes from)) (payload-back to.alphabet to.message_len_of ok-to.two z z-is)
      ∙ resized-back (payload_bytes from) (payload_bytes to) y y-is.count p.room)
      ∙ ap (λ (a : List ℕ). served_word (from.encode starts a)) spelled

  pub returned : (back : List ℕ → List ℕ → Encoded) → ((w' out' : List ℕ) → back w' out' ≡ move to from es w' out')
      → Returned from to w (move from to es w out).word back
  returned back is =
      record {
        starts = starts;
        message = ms;
        read = p.read;
        returns = λ w' out' found' outside lent. is w' out' ∙ goes_back w' out' found' outside lent;
        unspoilt = moved-found;
        again = reads-back from ok_from starts ms leads.placement leads.count leads.symbols (from.encode starts ms)
            (written-word from ok_from starts ms leads.placement leads.count leads.symbols) (λ _ _ _. refl);
      }

  still_open : job_status es z ≡ opened
  unfolding y
  still_open = ap (λ (n : ℕ). standing (lookup es n)) same_number ∙ p.is_open

  -- what job reading hands out before and after, and what job writing leaves
  pub same-job : (write : Held → List ℕ → List ℕ → Encoded) → WritesJobs to es write → SameJob from to write es w (move from to es w out).word
  unfolding job_reading z y moved
  same-job write writes =
      record {
        starts = starts;
        message = ms;
        payload = y;
        read = p.read;
        before = λ buffer lent.
            rw (
              p.carries-from,
              eqb_same (length w) from.word_len p.complete,
              eqb_same (length buffer) (payload_bytes from) lent,
              p.symbols,
              p.read,
              p.spells,
              p.is_open,
            );
        after = λ buffer lent.
            let m = (move from to es w out).word in
            rw (
              p.carries-to,
              eqb_same (length m) to.word_len moved-found.complete,
              eqb_same (length buffer) (payload_bytes to) lent,
              moved-found.symbols,
              moved-reads m moved-found (λ _ _ _. refl),
              payload-passes to.alphabet to.message_len_of ok-to.two z z-is,
              payload-back to.alphabet to.message_len_of ok-to.two z z-is,
              still_open,
            );
        whole = p.room;
        number = same_number;
        as_written = λ out' lent.
            writes starts z out' placed p.carries-to z-is (ap (λ (n : ℕ). is_job n) same_number ∙ p.number) still_open lent
            ∙ sym (ap (λ (r : Encoded). served_word r.word) (passed-move from to es w out starts ms p));
      }
