-- Laws of spelling and reading a payload as loops go, symbol by symbol and byte by byte. Assumes nothing.
use mathlib.Core.Path.{◌≡◌, refl, sym, ap, ap₂, ◌∙◌, subst}
use mathlib.Core.Bool.{Bool, true, false, ◌&&◌}
use mathlib.Core.List.{List, [], ◌∷◌, ◌++◌, flat_map, append_assoc, append-nil}
use Prim.Native.Nat.{ℕ, zero, suc, ◌+◌, ◌-◌, ◌*◌, ◌/◌, ◌%◌, ◌^◌, ◌≤◌, ◌<◌}
use native.Mathlib.Nat.{div-lt_iff_lt-mul, mul-le-mul_left, mul-le-mul_right, pow-zero, pow-suc, pow-le-pow_right, one-le-pow}
use native.Mathlib.Numerals.{add-one}
use native.Mathlib.Omega.{arith}
use borrow.Rule.Slice.PartMut.{put_mid}
use lib.Dec.{ltb, eqb}
use lib.ListN.{length, get_or, take, drop, set, replicate, length-set, length-append, length-drop, length-replicate, drop_of_length-le}
use lib.ListN.{replicate-append-replicate}
use lib.Seq.{take_all, take_at, take-suc, length-take-le, drop-cons, drop-set-lt, get_or-set_same, lt-length-set}
use Rattle.combinatorics.specs.Lists.{all, all_below}
use Rattle.combinatorics.proofs.Cases.{by-eq, leb-holds, leb-fails}
use Rattle.combinatorics.proofs.Members.{tabulate-at}
use Rattle.cells.specs.Bytes.{byte_values, payload_len}
use Rattle.cells.specs.Digits.{plain, span, spell, value}
use Rattle.cells.proofs.Bytes.{width-most, width-enough}
use Rattle.cells.proofs.Digits.{horner, horner-is, span-plain, spell-snoc, length-spell}
use Rattle.cells.proofs.Walk.{rest-is}
use Rattle.payloads.specs.Payload.{message_of, payload_in, spells_payload}
use Rattle.payloads.specs.Given.{Measured, Spellable, EnoughSymbols}
use Rattle.payloads.proofs.Payload.{byte_at, length-payload, spelled-room}

-- ---- A byte's symbols, from the right by quotient and remainder

-- those from i on are made, and `left` is what the first i still have to spell
pub record Made (q w byte i left : ℕ) (symbols : List ℕ) : Type 0 where
  pub size : length symbols ≡ w
  pub below : left < q ^ i
  pub made : spell q (replicate i plain) left ++ drop i symbols ≡ spell q (replicate w plain) byte

plain-snoc : (i : ℕ) → replicate (suc i) plain ≡ replicate i plain ++ (plain ∷ [])
plain-snoc i = sym (replicate-append-replicate i 1 plain ∙ ap (λ (n : ℕ). replicate n plain) (add-one i))

module _ (q w byte : ℕ) (two : 2 ≤ q) where
  pub made_none : (symbols : List ℕ) → length symbols ≡ w → byte < q ^ w → Made q w byte w byte symbols
  made_none symbols e l =
      let d : drop w symbols ≡ [] = drop_of_length-le symbols {i = w} (omega arith) in
      record { size = e; below = l; made = rw d (append-nil (spell q (replicate w plain) byte)) }

  pub made-turn : (i left : ℕ) (symbols : List ℕ) → 0 < i → i ≤ w → Made q w byte i left symbols
      → Made q w byte (i - 1) (left / q) (set symbols (i - 1) (left % q))
  made-turn zero left symbols h g s = absurd (omega arith)
  made-turn (suc i) left symbols h g s =
      let e : suc i - 1 ≡ i = omega arith in
      let r : 0 < q = omega arith in
      let l : i < length symbols = omega (arith, s.size) in
      let b : left < q ^ i * q = rw (← pow-suc q i) s.below in
      let z : 0 + left % q ≡ left % q = omega arith in
      let wide : left < span q (replicate i plain ++ (plain ∷ [])) = rw (← plain-snoc i, span-plain q (suc i)) s.below in
      let some : 0 < span q (replicate i plain) = rw (span-plain q i) (one-le-pow i q (omega arith)) in
      let one : spell q (replicate (suc i) plain) left ≡ spell q (replicate i plain) (left / q) ++ (left % q ∷ []) =
      rw (plain-snoc i) (spell-snoc q (replicate i plain) plain left (omega arith) some wide ∙ rw z) in
      let put : drop i (set symbols i (left % q)) ≡ left % q ∷ drop (suc i) symbols =
      drop-cons (set symbols i (left % q)) i 0 (lt-length-set symbols i (left % q) l)
      ∙ rw (get_or-set_same symbols i (left % q) 0 l, drop-set-lt (suc i) symbols i (left % q) (omega arith)) in
      rw e
      (record {
        size = length-set symbols i (left % q) ∙ s.size;
        below = (div-lt_iff_lt-mul r).1 b;
        made = rw put (sym (append_assoc (spell q (replicate i plain) (left / q)) (left % q ∷ []) (drop (suc i) symbols)) ∙ rw (← one) s.made);
      })

  pub made_all : (left : ℕ) (symbols : List ℕ) → Made q w byte 0 left symbols → symbols ≡ spell q (replicate w plain) byte
  unfolding spell
  made_all left symbols s = s.made

-- ---- A value, from the left by Horner's rule

-- the first i symbols are taken in
pub record Taken (q w : ℕ) (symbols : List ℕ) (i v : ℕ) : Type 0 where
  pub below : v < byte_values ^ i
  pub same : horner q (replicate (w - i) plain) (drop i symbols) v ≡ value q (replicate w plain) symbols

module _ (q w : ℕ) (symbols : List ℕ) (few : q ≤ byte_values) where
  pub taken_none : Taken q w symbols 0 0
  taken_none =
      let e : w - 0 ≡ w = omega arith in
      record { below = rw (pow-zero byte_values) (omega arith); same = rw e (horner-is q (replicate w plain) symbols 0 ∙ omega arith) }

  module _ (i v : ℕ) (bytes : get_or symbols i 0 < byte_values) where
    -- one symbol more
    next-below : v < byte_values ^ i → v * q + get_or symbols i 0 < byte_values ^ (i + 1)
    next-below h = rw (add-one i, pow-suc byte_values i) (omega (arith, mul-le-mul_left {m = q} {n = byte_values} v few))

    pub taken-turn : i < w → w ≤ length symbols → Taken q w symbols i v → Taken q w symbols (i + 1) (v * q + get_or symbols i 0)
    unfolding horner
    taken-turn l g s =
        let e : w - i ≡ suc (w - (i + 1)) = omega arith in
        let k : i < length symbols = omega arith in
        let z : get_or symbols i 0 - 0 ≡ get_or symbols i 0 = omega arith in
        let same : horner q (replicate (suc (w - (i + 1))) plain) (get_or symbols i 0 ∷ drop (i + 1) symbols) v ≡ value q (replicate w plain) symbols =
        subst (λ (n : ℕ). horner q (replicate n plain) (get_or symbols i 0 ∷ drop (i + 1) symbols) v ≡ value q (replicate w plain) symbols) e
        (rw (add-one i, ← drop-cons symbols i 0 k) s.same) in
        record {
          below = next-below s.below;
          same = sym (ap (λ (y : ℕ). horner q (replicate (w - (i + 1)) plain) (drop (i + 1) symbols) (v * q + y)) z)
              ∙ same;
        }

    -- so many bytes are enough
    pub taken-fits : (most : ℕ) → i < w → w ≤ most → Taken q w symbols i v → v * q + get_or symbols i 0 < byte_values ^ most
    taken-fits most l g s =
        omega (arith, next-below s.below, pow-le-pow_right {n = byte_values} (omega arith) {i = i + 1} {j = most} (omega arith))

  pub taken-all : (i v : ℕ) → w ≤ i → Taken q w symbols i v → v ≡ value q (replicate w plain) symbols
  unfolding horner
  taken-all i v l s =
      let e : w - i ≡ 0 = omega arith in
      rw e at s.same

-- ---- Where the bytes of a message stand

module _ (q w count : ℕ) (ms : List ℕ) (m : Measured q w count ms) where
  pub all_room : count * w ≤ length ms
  all_room = rw (m.count-is, m.width_is) (spelled-room q (length ms))

  pub byte-room : (i : ℕ) → i < count → i * w + w ≤ length ms
  byte-room i l =
      let e : suc i * w ≡ i * w + w = omega arith in
      omega (arith, e, all_room, mul-le-mul_right {m = suc i} {n = count} w l)

  pub part-len : (i : ℕ) → i < count → length (take (i * w + w - i * w) (drop (i * w) ms)) ≡ w
  part-len i l = length-take-le (i * w + w - i * w) (drop (i * w) ms) (omega (arith, length-drop (i * w) ms, byte-room i l)) ∙ omega arith

  pub byte_fits : (i byte : ℕ) → i < count → byte < byte_values → Spellable q byte (length (take (i * w + w - i * w) (drop (i * w) ms)))
  byte_fits i byte l h =
      record {
        alphabet = m.alphabet;
        bytes = m.bytes;
        below = rw (part-len i l, m.width_is) (omega (arith, width-enough q m.alphabet));
      }

  pub byte-valued : (i : ℕ) → i < count → EnoughSymbols q w (take (length ms - i * w) (drop (i * w) ms))
  byte-valued i l =
      record {
        bytes = m.bytes;
        short = rw m.width_is (width-most q);
        room = rw (rest-is (i * w) ms) (omega (arith, length-drop (i * w) ms, byte-room i l));
      }

  -- ---- What the symbols of each byte spell

  pub payload-count : length (payload_in q (length ms) ms) ≡ count
  payload-count = length-payload q (length ms) ms ∙ sym m.count-is

  pub byte-read : (i v : ℕ) → i < count → v ≡ value q (replicate w plain) (take (length ms - i * w) (drop (i * w) ms))
      → get_or (payload_in q (length ms) ms) i 0 ≡ v
  unfolding payload_in
  byte-read i v l e =
      let z : 0 + i ≡ i = omega arith in
      tabulate-at (payload_len q (length ms)) 0 i (byte_at q ms) (rw (← m.count-is) l) ∙ ap (byte_at q ms) z ∙ sym (e ∙ rw (rest-is (i * w) ms, m.width_is))

  -- ---- Whether they spell a payload

  pub not-bytes : all_below byte_values (payload_in q (length ms) ms) ≡ false → spells_payload q (length ms) ms ≡ false
  unfolding spells_payload
  not-bytes e = rw e

  zero-below : (x : ℕ) → ltb x 1 ≡ eqb x 0
  zero-below x = by-eq x 0 (λ t. ltb x 1 ≡ t) (λ e. leb-holds (suc x) 1 (omega arith)) (λ e. leb-fails (suc x) 1 (omega arith))

  zeros-below : (xs : List ℕ) → all_below 1 xs ≡ all (λ x. eqb x 0) xs
  unfolding all
  zeros-below [] = refl
  zeros-below (x ∷ xs) = ap₂ {C = Bool} ◌&&◌ (zero-below x) (zeros-below xs)

  pub then-leftovers : (r : Bool) → all_below byte_values (payload_in q (length ms) ms) ≡ true
      → r ≡ all_below 1 (take (length ms - count * w) (drop (count * w) ms)) → r ≡ spells_payload q (length ms) ms
  unfolding spells_payload
  then-leftovers r e h =
      let behind : r ≡ all (λ x. eqb x 0) (drop (count * w) ms) = h ∙ ap (all_below 1) (rest-is (count * w) ms) ∙ zeros-below (drop (count * w) ms) in
      rw (e, ← m.count-is, ← m.width_is) behind

-- ---- Spelling, byte by byte

flat-snoc : (f : ℕ → List ℕ) (xs : List ℕ) (x : ℕ) → flat_map f (xs ++ (x ∷ [])) ≡ flat_map f xs ++ f x
unfolding flat_map
flat-snoc f [] x = append-nil (f x)
flat-snoc f (y ∷ ys) x = rw (flat-snoc f ys x) (sym (append_assoc (f y) (flat_map f ys) (f x)))

-- the first i bytes of the payload are spelled
pub record Spelled (q w count k : ℕ) (payload : List ℕ) (i : ℕ) (ms : List ℕ) : Type 0 where
  pub given : Measured q w count ms
  pub size : length ms ≡ k
  pub made : take (i * w) ms ≡ flat_map (spell q (replicate w plain)) (take i payload)

same-measure : (q w count : ℕ) (ms ms' : List ℕ) → length ms' ≡ length ms → Measured q w count ms → Measured q w count ms'
same-measure q w count ms ms' e m = record { alphabet = m.alphabet; bytes = m.bytes; width_is = m.width_is; count-is = rw e m.count-is }

module _ (q w count k : ℕ) (payload : List ℕ) (long : length payload ≡ count) where
  pub spelled_none : (ms : List ℕ) → length ms ≡ k → Measured q w count ms → Spelled q w count k payload 0 ms
  unfolding flat_map
  spelled_none ms e m =
      let z : 0 * w ≡ 0 = omega arith in
      record { given = m; size = e; made = rw z }

  pub spelled-turn : (i : ℕ) (ms part : List ℕ) → i < count → Spelled q w count k payload i ms
      → part ≡ spell q (replicate (length (take (i * w + w - i * w) (drop (i * w) ms))) plain) (get_or payload i 0)
      → Spelled q w count k payload (i + 1) (put_mid (i * w) (i * w + w - i * w) ms part)
  spelled-turn i ms part l s p =
      let at = i * w in
      let rest = drop (at + w - at) (drop at ms) in
      let n = part-len q w count ms s.given i l in
      let room = byte-room q w count ms s.given i l in
      let one : part ≡ spell q (replicate w plain) (get_or payload i 0) = rw n at p in
      let wide : length part ≡ w = ap length one ∙ length-spell q (replicate w plain) (get_or payload i 0) ∙ length-replicate w plain in
      let front : length (take at ms) ≡ at = length-take-le at ms (omega arith) in
      let e : length (take at ms ++ part) ≡ (i + 1) * w = length-append (take at ms) part ∙ omega arith in
      let joined : take at ms ++ (part ++ rest) ≡ (take at ms ++ part) ++ rest = sym (append_assoc (take at ms) part rest) in
      let next : take (i + 1) payload ≡ take i payload ++ (get_or payload i 0 ∷ []) = rw (add-one i) (take-suc payload i 0 (omega arith)) in
      let same : length (take at ms ++ (part ++ rest)) ≡ length ms =
      ap length joined ∙ length-append (take at ms ++ part) rest ∙ omega (arith, length-drop (at + w - at) (drop at ms), length-drop at ms) in
      record {
        given = same-measure q w count ms (take at ms ++ (part ++ rest)) same s.given;
        size = same ∙ s.size;
        made = ap (take ((i + 1) * w)) joined ∙ take_at (take at ms ++ part) rest ((i + 1) * w) e
            ∙ ap₂ {C = List ℕ} ◌++◌ s.made one ∙ sym (ap (flat_map (spell q (replicate w plain))) next
            ∙ flat-snoc (spell q (replicate w plain)) (take i payload) (get_or payload i 0));
      }

  -- and the leftovers are cleared
  pub spelled-all : (i : ℕ) (ms part : List ℕ) → i ≡ count → Spelled q w count k payload i ms
      → part ≡ replicate (length (take (length ms - i * w) (drop (i * w) ms))) 0
      → put_mid (i * w) (length ms - i * w) ms part ≡ message_of q k payload
  unfolding message_of
  spelled-all i ms part e s p =
      let behind = drop (i * w) ms in
      let n : length (take (length ms - i * w) behind) ≡ length ms - i * w = ap length (rest-is (i * w) ms) ∙ length-drop (i * w) ms in
      let none : drop (length ms - i * w) behind ≡ [] = drop_of_length-le behind {i = length ms - i * w} (omega (arith, length-drop (i * w) ms)) in
      let whole : take i payload ≡ payload = take_all i payload (omega arith) in
      let zeros : part ≡ replicate (length ms - i * w) 0 = rw n at p in
      rw (none, append-nil part, zeros, s.made, whole, ← s.size) (rw (e, s.given.count-is, s.given.width_is))
