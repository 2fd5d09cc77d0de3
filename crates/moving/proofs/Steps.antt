-- Moving step by step, as the code goes about it: the strip is read, its message made the other code's, and the other strip written. Assumes nothing.
use mathlib.Core.Path.{◌≡◌, refl, sym, ap, ap₂, ◌∙◌}
use mathlib.Core.Logic.{◌≢◌}
use mathlib.Core.Bool.{Bool, true, false, true≢false}
use mathlib.Core.List.{List, ◌++◌}
use Prim.Native.Nat.{ℕ, zero, suc, ◌-◌, ◌≤◌}
use native.Mathlib.Nat.{div-le_self}
use native.Mathlib.Omega.{arith}
use lib.ListN.{length, take, drop, replicate, length-append, length-drop, length-replicate}
use lib.Seq.{take-append_seam, length-take-le}
use Rattle.refusals.specs.Refusals.{must, served, bad_symbol, bad_payload, surplus_bytes, number_zero}
use Rattle.combinatorics.specs.Lists.{all_below}
use Rattle.combinatorics.specs.Bursts.{apart}
use Rattle.combinatorics.proofs.Cases.{eqb_same, eqb-other}
use Rattle.cells.specs.Bytes.{byte_width, payload_len}
use Rattle.cells.specs.Codec.{Codec, Reading, accepted, refused, LeadsTo}
use Rattle.cells.specs.Figures.{max_bursts, max_word}
use Rattle.cells.specs.Outcomes.{Coding, Held, in_use, held, unwritten, WordAnswer, rank_is, refusal, answer_number}
use Rattle.cells.specs.Outcomes.{Decoded, unread, decoded_from, encode_under, decode_under}
use Rattle.placements.specs.declared.Placement.{Placement}
use Rattle.placements.specs.Bridge.{held_as, starts_in}
use Rattle.jobs.specs.declared.Entry.{Entry}
use Rattle.jobs.specs.Jobs.{is_job, Status, unknown, opened, on_hold, cancelled}
use Rattle.payloads.specs.Payload.{carries_job, job_number, message_of, payload_in, spells_payload}
use Rattle.payloads.proofs.Payload.{length-message, message-symbols, payload-is, carries-five}
use Rattle.jobcodec.specs.JobWrite.{job_status, where_open, unless}
use Rattle.moving.specs.Resize.{resized, has_room}
use Rattle.moving.specs.Move.{payload_bytes, served_word, job_word, move_job, move_message, move_read, move}
use Rattle.moving.specs.Given.{Alike, moving_number, message_number, message_moved, word_moved, OtherMessage, MovedWritable}
use Rattle.moving.proofs.Resize.{length-resized, resized-bytes, resized-prefix}
use Rattle.moving.proofs.Moving.{Movable}

-- a payload has no more bytes than its message has symbols
pub payload-within : (q k : ℕ) → payload_len q k ≤ k
unfolding payload_len
payload-within q k = div-le_self k (byte_width q)

-- ---- What is lent of an array

pub lent_is : (k room : ℕ) → k ≤ room → length {A = ℕ} (take k (replicate room 0)) ≡ k
lent_is k room l = length-take-le {A = ℕ} k (replicate room 0) (omega (arith, length-replicate {A = ℕ} room 0))

pub lent-short : (k room : ℕ) → k ≤ room → length {A = ℕ} (take k (replicate room 0)) ≤ room
lent-short k room l = omega (arith, lent_is k room l)

-- the front of an array, after it was lent
module _ (k : ℕ) (front rest : List ℕ) (e : length front ≡ k) where
  pub front-room : k ≤ length (front ++ rest)
  front-room = omega (arith, e, length-append front rest)

  pub front-is : take k (front ++ rest) ≡ front
  front-is = ap (λ (n : ℕ). take n (front ++ rest)) (sym e) ∙ take-append_seam front rest

  pub front-len : k ≡ length (take k (front ++ rest))
  front-len = sym (ap length front-is ∙ e)

drop-zeros : (c n : ℕ) → drop {A = ℕ} c (replicate n 0) ≡ replicate (n - c) 0
drop-zeros zero n = let e : n ≡ n - 0 = omega arith in ap (λ (k : ℕ). replicate k 0) e
drop-zeros (suc c) zero = let e : 0 ≡ 0 - suc c = omega arith in ap (λ (k : ℕ). replicate {A = ℕ} k 0) e
drop-zeros (suc c) (suc n) = let e : n - c ≡ suc n - suc c = omega arith in drop-zeros c n ∙ ap (λ (k : ℕ). replicate k 0) e

-- and so much of it as the other payload has, where zeros are behind
module _ (k room total : ℕ) (front : List ℕ) (e : length front ≡ k) (short : k ≤ total) (room-short : room ≤ total) where
  pub whole_room : room ≤ length (front ++ drop k (replicate total 0))
  whole_room =
      omega (arith, e, length-append front (drop k (replicate total 0)), length-drop {A = ℕ} k (replicate total 0), length-replicate {A = ℕ} total 0)

  pub whole-len : room ≡ length (take room (front ++ drop k (replicate total 0)))
  whole-len = sym (length-take-le room (front ++ drop k (replicate total 0)) whole_room)

  pub resized-front : take room (front ++ drop k (replicate total 0)) ≡ resized room front
  resized-front = ap (λ (zs : List ℕ). take room (front ++ zs)) (drop-zeros k total) ∙ resized-prefix room (total - k) front (omega (arith, e))

-- ---- The message

-- the tests of a message in their order, and their number alone
in_order : (out last : List ℕ) (spells : Bool) (s : Status) (room job : Bool)
    → must spells (unwritten out bad_payload)
    (where_open s (unwritten out) (must room (unwritten out surplus_bytes) (must job (unwritten out number_zero) (served_word last))))
    ≡ unless (must spells bad_payload (where_open s (λ a. a) (must room surplus_bytes (must job number_zero served)))) (unwritten out) (served_word last)
in_order out last false s room job = refl
in_order out last true unknown room job = refl
in_order out last true on_hold room job = refl
in_order out last true (cancelled s) room job = refl
in_order out last true opened false job = refl
in_order out last true opened true false = refl
in_order out last true opened true true = refl

pub message-moves : (from to : Codec) (es : List Entry) (out starts ms : List ℕ) → from.alphabet ≡ to.alphabet → length ms ≡ from.message_len_of
    → move_message from to es out starts ms ≡ word_moved to es out starts ms
unfolding move_message move_job moving_number message_number job_word
message-moves from to es out starts ms same count =
    let y = payload_in to.alphabet (length ms) ms in
    rw (same, ← count)
    (in_order out (to.encode starts (message_moved to.alphabet to.message_len_of ms)) (spells_payload to.alphabet (length ms) ms) (job_status es y)
    (has_room (payload_bytes to) y) (is_job (job_number y)))

-- a refused message, and one that is not
module _ (to : Codec) (es : List Entry) (out starts ms : List ℕ) where
  pub message-refused : (a : ℕ) → a ≡ message_number to.alphabet es to.message_len_of ms → a ≢ served → unwritten out a ≡ word_moved to es out starts ms
  message-refused a e n = rw (← e, eqb-other a served n)

-- it spells a payload
pub spells-passed : (q : ℕ) (es : List Entry) (k : ℕ) (ms : List ℕ) → message_number q es k ms ≡ served → spells_payload q (length ms) ms ≡ true
unfolding message_number
spells-passed q es k ms e = go (spells_payload q (length ms) ms) e
  where
    go : (b : Bool) → must b bad_payload (moving_number es (payload_len q k) (payload_in q (length ms) ms)) ≡ served → b ≡ true
    go true e = refl
    go false e = absurd (omega (arith, e))

-- ---- A payload

module _ (q : ℕ) (es : List Entry) (k : ℕ) (ms : List ℕ) where
  pub no_payload : spells_payload q (length ms) ms ≡ false → bad_payload ≡ message_number q es k ms
  unfolding message_number
  no_payload e = rw e

  -- from the front of an array
  pub payload-number : spells_payload q (length ms) ms ≡ true → (count room r : ℕ) (front rest : List ℕ) → length front ≡ count → room ≡ payload_len q k
      → front ≡ payload_in q (length ms) ms → r ≡ moving_number es room (take count (front ++ rest)) → r ≡ message_number q es k ms
  unfolding message_number
  payload-number spells count room r front rest same room-is is e =
      let last : moving_number es (payload_len q k) (payload_in q (length ms) ms) ≡ message_number q es k ms = rw spells in
      e ∙ ap₂ (λ (n : ℕ) (y : List ℕ). moving_number es n y) room-is (front-is count front rest same ∙ is) ∙ last

-- ---- Writing

-- what was read can be written as it stands
pub moved-encodes : (d : Coding) (es : List Entry) (at : Placement) (ms out : List ℕ) → d.in_range ≡ true → d.fits ≡ true → 2 ≤ d.codec.alphabet
    → MovedWritable d at ms out → message_number d.codec.alphabet es d.codec.message_len_of ms ≡ served
    → encode_under d (held_as at) (message_moved d.codec.alphabet d.codec.message_len_of ms) out ≡ word_moved d.codec es out (starts_in at) ms
moved-encodes d es at ms out range fit two w e =
    let q = d.codec.alphabet in
    let k = d.codec.message_len_of in
    let y = payload_in q (length ms) ms in
    let z = resized (payload_len q k) y in
    let bytes = resized-bytes (payload_len q k) y (payload-is q (length ms) ms (spells-passed q es k ms e)).bytes in
    rw (
      e,
      range,
      fit,
      eqb_same at.count d.bursts w.count,
      eqb_same (length (message_of q k z)) k (length-message q k z (length-resized (payload_len q k) y)),
      eqb_same (length out) d.codec.word_len w.lent,
      w.placed,
      message-symbols q k two z bytes,
    )

-- the other message is lent, and stands in the front of an array
module _ (d : Coding) (es : List Entry) (at : Placement) (ms out lent : List ℕ) (q k : ℕ) (q-is : q ≡ d.codec.alphabet) (k-is : k ≡ d.codec.message_len_of)
    (l : length lent ≡ k) (w : MovedWritable d at ms out) (r : ℕ) (e : r ≡ message_number q es (length lent) ms) where
  number_is : r ≡ message_number d.codec.alphabet es d.codec.message_len_of ms
  number_is = e ∙ ap₂ (λ (x y : ℕ). message_number x es y ms) q-is (l ∙ k-is)

  pub write-refused : r ≢ served → unwritten out r ≡ word_moved d.codec es out (starts_in at) ms
  write-refused n = message-refused d.codec es out (starts_in at) ms r number_is n

  pub write-encodes : d.in_range ≡ true → d.fits ≡ true → 2 ≤ d.codec.alphabet → r ≡ served → (front rest : List ℕ) → length front ≡ k
      → OtherMessage q r ms lent front → encode_under d (held_as at) (take k (front ++ rest)) out ≡ word_moved d.codec es out (starts_in at) ms
  write-encodes range fit two z front rest same other =
      ap (λ (ds : List ℕ). encode_under d (held_as at) ds out)
      (front-is k front rest same ∙ other z ∙ ap₂ (λ (x y : ℕ). message_moved x y ms) q-is (l ∙ k-is))
      ∙ moved-encodes d es at ms out range fit two w (sym number_is ∙ z)

-- ---- Reading

abbrev accepts : WordAnswer → Bool
accepts (rank_is v) = true
accepts (refusal a) = false

-- tables, lengths and both payloads are in order
pub record Begun (d : Coding) (to : Codec) (w out ms : List ℕ) : Type 0 where
  pub range : d.in_range ≡ true
  pub fit : d.fits ≡ true
  pub carries-from : carries_job d.codec.alphabet d.codec.message_len_of ≡ true
  pub carries-to : carries_job to.alphabet to.message_len_of ≡ true
  pub complete : length w ≡ d.codec.word_len
  pub lent : length out ≡ to.word_len
  pub room : length ms ≡ d.codec.message_len_of

-- a word that was accepted, and what the reader answered of it
pub record Read (d : Coding) (to : Codec) (es : List Entry) (w out ms : List ℕ) : Type 0 where
  pub starts : List ℕ
  pub message : List ℕ
  pub symbols : all_below d.codec.found_bound w ≡ true
  pub read : d.codec.decode w ≡ accepted starts message
  pub placement : (decode_under d w ms).placement ≡ held starts
  pub message-is : (decode_under d w ms).message ≡ message
  pub moves : move d.codec to es w out ≡ move_message d.codec to es out starts message

module _ (d : Coding) (to : Codec) (es : List Entry) (w out ms : List ℕ) (g : Begun d to w out ms) where
  begun : move d.codec to es w out ≡ must (all_below d.codec.found_bound w) (unwritten out bad_symbol) (move_read d.codec to es out (d.codec.decode w))
  unfolding move
  begun = rw (g.carries-from, g.carries-to, eqb_same (length w) d.codec.word_len g.complete, eqb_same (length out) to.word_len g.lent)

  decoded : decode_under d w ms ≡ must (all_below d.codec.found_bound w) (unread ms bad_symbol) (decoded_from d.burst_len ms (d.codec.decode w))
  decoded = rw (g.range, g.fit, eqb_same (length w) d.codec.word_len g.complete, eqb_same (length ms) d.codec.message_len_of g.room)

  pub refused-read : (a : ℕ) → (decode_under d w ms).answer ≡ refusal a → move d.codec to es w out ≡ unwritten out a
  refused-read a e = rw begun (go (all_below d.codec.found_bound w) (d.codec.decode w) (rw (← decoded) e))
    where
      go : (b : Bool) (x : Reading) → (must b (unread ms bad_symbol) (decoded_from d.burst_len ms x)).answer ≡ refusal a
          → must b (unwritten out bad_symbol) (move_read d.codec to es out x) ≡ unwritten out a
      go false x e = ap (unwritten out) (ap answer_number e)
      go true (refused b) e = ap (unwritten out) (ap answer_number e)
      go true (accepted ss ds) e = absurd (true≢false (ap accepts e))

  pub accepted-read : (v : ℕ) → (decode_under d w ms).answer ≡ rank_is v → Read d to es w out ms
  accepted-read v e = go (all_below d.codec.found_bound w) (d.codec.decode w) refl refl (rw (← decoded) e)
    where
      go : (b : Bool) (x : Reading) → all_below d.codec.found_bound w ≡ b → d.codec.decode w ≡ x
          → (must b (unread ms bad_symbol) (decoded_from d.burst_len ms x)).answer ≡ rank_is v → Read d to es w out ms
      go false x s r e = absurd (true≢false (sym (ap accepts e)))
      go true (refused b) s r e = absurd (true≢false (sym (ap accepts e)))
      go true (accepted ss ds) s r e =
          record { starts = ss; message = ds; symbols = s; read = r; placement = rw (decoded, s, r); message-is = rw (decoded, s, r); moves = rw (begun, s, r) }

-- ---- The placement

-- which starts a code takes for a placement
abbrev pub PlacedIn : Coding → Type 0
PlacedIn d = (ss : List ℕ) → d.codec.placed ss ≡ true → (length ss ≡ d.bursts) × (apart d.burst_len d.codec.word_len 0 ss ≡ true)

-- a placement that was answered is the one that was read
placed_at : (d : Coding) → PlacedIn d → (at : Placement) (ss : List ℕ) → held_as at ≡ held ss → d.codec.placed ss ≡ true
    → (starts_in at ≡ ss) × (at.count ≡ d.bursts) × (apart d.burst_len d.codec.word_len 0 (starts_in at) ≡ true)
placed_at d are at ss e p =
    let starts : starts_in at ≡ ss = ap (λ (h : Held). in_use h) e ∙ take-append_seam ss (replicate (max_bursts - length ss) 0) in
    let v = are ss p in
    (starts, ap (λ (h : Held). h.count) e ∙ v.0, ap (λ (xs : List ℕ). apart d.burst_len d.codec.word_len 0 xs) starts ∙ v.1)

-- ---- From one code to the other, both of the same figures

-- what figures that fit give, for a code that carries a job
pub record Of (d : Coding) : Type 0 where
  pub range : d.in_range ≡ true
  pub fit : d.fits ≡ true
  pub movable : Movable d.codec
  pub placed : PlacedIn d
  pub short : d.codec.message_len_of ≤ max_word
  pub carries : carries_job d.codec.alphabet d.codec.message_len_of ≡ true

module _ (d e : Coding) (from : Of d) (to : Of e) (same : Alike d e) (es : List Entry) (w out ms : List ℕ) (complete : length w ≡ d.codec.word_len)
    (lent : length out ≡ e.codec.word_len) (room : length ms ≡ d.codec.message_len_of) where
  started : Begun d e.codec w out ms
  started =
      record {
        range = from.range;
        fit = from.fit;
        carries-from = from.carries;
        carries-to = to.carries;
        complete = complete;
        lent = lent;
        room = room;
      }

  pub read-refused : (a : ℕ) → (decode_under d w ms).answer ≡ refusal a → unwritten out a ≡ move d.codec e.codec es w out
  read-refused a h = sym (refused-read d e.codec es w out ms started a h)

  module _ (v : ℕ) (at : Placement) (front : List ℕ) (is : decode_under d w ms ≡ record { answer = rank_is v; placement = held_as at; message = front }) where
    r : Read d e.codec es w out ms
    r = accepted-read d e.codec es w out ms started v (ap (λ (o : Decoded). o.answer) is)

    message-read : front ≡ r.message
    message-read = sym (ap (λ (o : Decoded). o.message) is) ∙ r.message-is

    leads : LeadsTo d.codec w r.starts r.message
    leads = (from.movable.exact w r.starts r.message (record { complete = complete; symbols = r.symbols })).0 r.read

    placed : (starts_in at ≡ r.starts) × (at.count ≡ d.bursts) × (apart d.burst_len d.codec.word_len 0 (starts_in at) ≡ true)
    placed = placed_at d from.placed at r.starts (sym (ap (λ (o : Decoded). o.placement) is) ∙ r.placement) leads.placement

    count : length front ≡ d.codec.message_len_of
    count = ap length message-read ∙ leads.count

    pub write-ready : MovedWritable e at front out
    write-ready =
        record {
          count = placed.1 ∙ same.bursts;
          placed = sym (ap₂ (λ (b n : ℕ). apart b n 0 (starts_in at)) same.burst same.word) ∙ placed.2;
          carries =
              let long = ap₂ payload_len (sym same.alphabet) count in
              omega (arith, long, carries-five d.codec.alphabet d.codec.message_len_of from.carries);
          short = omega (arith, count, from.short);
          lent = lent;
        }

    pub goes-on : word_moved e.codec es out (starts_in at) front ≡ move d.codec e.codec es w out
    goes-on =
        sym (r.moves ∙ message-moves d.codec e.codec es out r.starts r.message same.alphabet leads.count
        ∙ ap₂ (λ (ss ds : List ℕ). word_moved e.codec es out ss ds) (sym placed.0) (sym message-read))
