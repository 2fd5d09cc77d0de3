-- Laws of payloads, for an alphabet of two symbols or more: a payload's message has k symbols below q and reads back, and a message that passes
-- is spelled by exactly one payload. Assumes nothing.
use mathlib.Core.Path.{◌≡◌, refl, sym, ap, ◌∙◌}
use mathlib.Core.Bool.{true}
use mathlib.Core.List.{List, [], ◌∷◌, ◌++◌, flat_map, append_assoc}
use Prim.Native.Nat.{ℕ, zero, suc, ◌+◌, ◌-◌, ◌*◌, ◌^◌, ◌≤◌, ◌<◌}
use native.Mathlib.Nat.{div-mul-le_self}
use native.Mathlib.Omega.{arith}
use borrow.Author.Tests.{leb-true}
use lib.Dec.{ltb, eqb}
use lib.ListN.{length, take, drop, replicate, length-append, length-drop, length-replicate, take-append-drop}
use lib.Seq.{take-add, drop_at, drop-drop, length-take-le}
use Rattle.combinatorics.specs.Lists.{all, all_below}
use Rattle.combinatorics.specs.Stretch.{tabulate}
use Rattle.combinatorics.proofs.Cases.{leb-holds}
use Rattle.combinatorics.proofs.Lists.{both, all_append, all_take, all_drop, all_replicate, all-flat, all_same}
use Rattle.combinatorics.proofs.Members.{length-tabulate, length-flat}
use Rattle.cells.specs.Bytes.{byte_values, byte_width, payload_len}
use Rattle.cells.specs.Digits.{plain, span, spell, value}
use Rattle.cells.proofs.Bytes.{width-enough}
use Rattle.cells.proofs.Digits.{spell-spelled, value-spell, value-lt, spell-value, span-plain, length-spell, value-front, plain-spelled, spelled-plain}
use Rattle.payloads.specs.Payload.{IsPayload, carries_job, job_number, byte_places, spelled_len, message_of, payload_in, spells_payload}

-- what the symbols of byte i of a message spell
abbrev pub byte_at : ℕ → List ℕ → ℕ → ℕ
byte_at q ms i = value q (byte_places q) (drop (i * byte_width q) ms)

-- ---- Bytes one after the other

length-byte : (q x : ℕ) → length (spell q (byte_places q) x) ≡ byte_width q
length-byte q x = length-spell q (byte_places q) x ∙ length-replicate (byte_width q) _

pub length-bytes : (q : ℕ) (ys : List ℕ) → length (flat_map (spell q (byte_places q)) ys) ≡ length ys * byte_width q
length-bytes q ys = length-flat (byte_width q) (spell q (byte_places q)) ys (length-byte q)

module _ (q : ℕ) (two : 2 ≤ q) where
  byte-span : (x : ℕ) → ltb x byte_values ≡ true → x < span q (byte_places q)
  byte-span x h = rw (span-plain q (byte_width q)) (omega (arith, width-enough q two, leb-true (suc x) byte_values h))

  byte-symbols : (x : ℕ) → ltb x byte_values ≡ true → all_below q (spell q (byte_places q) x) ≡ true
  byte-symbols x h = spelled-plain q (byte_width q) (spell q (byte_places q) x) (spell-spelled q (byte_places q) x (byte-span x h))

  -- spelled bytes from byte j on are read back
  bytes_back : (ys rest ms : List ℕ) (j : ℕ) → all_below byte_values ys ≡ true → drop (j * byte_width q) ms ≡ flat_map (spell q (byte_places q)) ys ++ rest
      → tabulate (length ys) j (byte_at q ms) ≡ ys
  unfolding all flat_map tabulate
  bytes_back [] rest ms j h e = refl
  bytes_back (y ∷ ys) rest ms j h e =
      let w = byte_width q in
      let s = spell q (byte_places q) y in
      let ss = flat_map (spell q (byte_places q)) ys in
      let b = both (ltb y byte_values) (all_below byte_values ys) h in
      let front : drop (j * w) ms ≡ s ++ (ss ++ rest) = e ∙ append_assoc s ss rest in
      let one : byte_at q ms j ≡ y =
      ap (value q (byte_places q)) front ∙ value-front q (byte_places q) s (ss ++ rest) (length-spell q (byte_places q) y)
      ∙ value-spell q (byte_places q) y (byte-span y b.0) in
      let n : suc j * w ≡ j * w + w = omega arith in
      let next : drop (suc j * w) ms ≡ ss ++ rest = rw (n, ← drop-drop w (j * w) ms, front) (drop_at s (ss ++ rest) w (length-byte q y)) in
      rw (one, bytes_back ys rest ms (suc j) b.1 next)

  -- the symbols of one byte are the spelling of what they spell
  byte-is : (ms : List ℕ) → byte_width q ≤ length ms → all_below q ms ≡ true → spell q (byte_places q) (value q (byte_places q) ms) ≡ take (byte_width q) ms
  byte-is ms l h =
      let w = byte_width q in
      let t : length (take w ms) ≡ w = length-take-le w ms l in
      let v : value q (byte_places q) ms ≡ value q (byte_places q) (take w ms) =
      ap (value q (byte_places q)) (sym (take-append-drop w ms)) ∙ value-front q (byte_places q) (take w ms) (drop w ms) (t ∙ sym (length-replicate w _)) in
      rw v (spell-value q (byte_places q) (take w ms) (plain-spelled q w (take w ms) t (all_take (λ x. ltb x q) w ms h)))

  -- and so are those of K bytes from byte j on
  bytes-are : (K j : ℕ) (ms : List ℕ) → (j + K) * byte_width q ≤ length ms → all_below q ms ≡ true
      → flat_map (spell q (byte_places q)) (tabulate K j (byte_at q ms)) ≡ take (K * byte_width q) (drop (j * byte_width q) ms)
  unfolding flat_map tabulate
  bytes-are zero j ms l h =
      let z : 0 * byte_width q ≡ 0 = omega arith in
      rw z
  bytes-are (suc K) j ms l h =
      let w = byte_width q in
      let rest = drop (j * w) ms in
      let n : suc K * w ≡ w + K * w = omega arith in
      let m : j * w + w ≡ suc j * w = omega arith in
      let a : (j + suc K) * w ≡ j * w + w + K * w = omega arith in
      let b : (suc j + K) * w ≡ j * w + w + K * w = omega arith in
      rw (
        n,
        take-add w (K * w) rest,
        drop-drop w (j * w) ms,
        m,
        byte-is rest (omega (arith, length-drop (j * w) ms)) (all_drop (λ x. ltb x q) (j * w) ms h),
        bytes-are K (suc j) ms (omega arith) h,
      )

-- ---- Whole messages

-- one payload spells the message, and no other
pub record SpelledOnce (q k : ℕ) (ms payload : List ℕ) : Type 0 where
  pub payload-bytes : IsPayload q k payload
  pub spells : message_of q k payload ≡ ms
  pub no_other : (y : List ℕ) → IsPayload q k y → message_of q k y ≡ ms → y ≡ payload

module _ (q k : ℕ) where
  pub spelled-room : spelled_len q k ≤ k
  unfolding payload_len
  spelled-room = div-mul-le_self k (byte_width q)

  pub length-payload : (ms : List ℕ) → length (payload_in q k ms) ≡ payload_len q k
  unfolding payload_in
  length-payload ms = length-tabulate (payload_len q k) 0 (byte_at q ms)

  -- what is read from a message that passes is a payload
  pub payload-is : (ms : List ℕ) → spells_payload q k ms ≡ true → IsPayload q k (payload_in q k ms)
  unfolding spells_payload
  payload-is ms t =
      record { count = length-payload ms; bytes = (both (all_below byte_values (payload_in q k ms)) (all (λ x. eqb x 0) (drop (spelled_len q k) ms)) t).0 }

  -- the spelled message has k symbols
  pub length-message : (y : List ℕ) → length y ≡ payload_len q k → length (message_of q k y) ≡ k
  unfolding message_of
  length-message y e =
      let ss = flat_map (spell q (byte_places q)) y in
      let left = k - spelled_len q k in
      omega (arith, length-append ss (replicate left 0), length-bytes q y, ap (λ (n : ℕ). n * byte_width q) e, length-replicate {A = ℕ} left 0, spelled-room)

  -- with 0 behind the bytes
  leftovers : (y : List ℕ) → length y ≡ payload_len q k → drop (spelled_len q k) (message_of q k y) ≡ replicate (k - spelled_len q k) 0
  unfolding message_of
  leftovers y e =
      drop_at (flat_map (spell q (byte_places q)) y) (replicate (k - spelled_len q k) 0) (spelled_len q k) (length-bytes q y ∙ ap (λ (n : ℕ). n * byte_width q) e)

  module _ (two : 2 ≤ q) where
    -- each below q
    pub message-symbols : (y : List ℕ) → all_below byte_values y ≡ true → all_below q (message_of q k y) ≡ true
    unfolding message_of
    message-symbols y h =
        all_append (λ x. ltb x q) (flat_map (spell q (byte_places q)) y) (replicate (k - spelled_len q k) 0)
        (all-flat (λ x. ltb x q) (λ x. ltb x byte_values) (spell q (byte_places q)) (byte-symbols q two) y h)
        (all_replicate (λ x. ltb x q) (k - spelled_len q k) 0 (leb-holds 1 q (omega arith)))

    -- a spelled payload is read back
    pub payload-back : (y : List ℕ) → IsPayload q k y → payload_in q k (message_of q k y) ≡ y
    unfolding payload_in
    payload-back y p =
        let z : 0 * byte_width q ≡ 0 = omega arith in
        rw (← p.count) (bytes_back q two y (replicate (k - spelled_len q k) 0) (message_of q k y) 0 p.bytes (rw z (unfold message_of in refl)))

    -- and its message passes
    pub payload-passes : (y : List ℕ) → IsPayload q k y → spells_payload q k (message_of q k y) ≡ true
    unfolding spells_payload
    payload-passes y p =
        rw (payload-back y p, p.bytes, leftovers y p.count) (all_replicate (λ x. eqb x 0) (k - spelled_len q k) 0 refl)

    -- a message that passes is the spelling of what is read
    pub message-is : (ms : List ℕ) → length ms ≡ k → all_below q ms ≡ true → spells_payload q k ms ≡ true → message_of q k (payload_in q k ms) ≡ ms
    unfolding spells_payload message_of payload_in
    message-is ms e h t =
        let c = spelled_len q k in
        let b = both (all_below byte_values (payload_in q k ms)) (all (λ x. eqb x 0) (drop c ms)) t in
        let z : 0 * byte_width q ≡ 0 = omega arith in
        let front : flat_map (spell q (byte_places q)) (payload_in q k ms) ≡ take c ms =
        bytes-are q two (payload_len q k) 0 ms (omega (arith, spelled-room)) h ∙ rw z in
        let back : drop c ms ≡ replicate (k - c) 0 =
        all_same 0 (drop c ms) b.1 ∙ ap (λ (n : ℕ). replicate n 0) (length-drop c ms ∙ ap (λ (n : ℕ). n - c) e) in
        rw (front, ← back) (take-append-drop c ms)

    -- so it is spelled by exactly one payload
    pub spelled-once : (ms : List ℕ) → length ms ≡ k → all_below q ms ≡ true → spells_payload q k ms ≡ true → SpelledOnce q k ms (payload_in q k ms)
    spelled-once ms e h t =
        record { payload-bytes = payload-is ms t; spells = message-is ms e h t; no_other = λ y p m. sym (payload-back y p) ∙ ap (payload_in q k) m }

-- ---- Job numbers

-- "10: K below 5" otherwise
pub carries-five : (q k : ℕ) → carries_job q k ≡ true → 5 ≤ payload_len q k
unfolding carries_job
carries-five q k e = leb-true 5 (payload_len q k) e

-- a job number has 32 bits
pub number-below : (y : List ℕ) → 4 ≤ length y → all_below byte_values y ≡ true → job_number y < byte_values ^ 4
unfolding job_number
number-below y l h =
    let ps = replicate 4 plain in
    let t : length (take 4 y) ≡ 4 = length-take-le 4 y l in
    let v : value byte_values ps y ≡ value byte_values ps (take 4 y) =
    ap (value byte_values ps) (sym (take-append-drop 4 y)) ∙ value-front byte_values ps (take 4 y) (drop 4 y) t in
    rw (v, ← span-plain byte_values 4) (value-lt byte_values ps (take 4 y) (plain-spelled byte_values 4 (take 4 y) t (all_take (λ x. ltb x byte_values) 4 y h)))
