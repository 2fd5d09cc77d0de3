-- Laws of bytes in hex: the digits of their nibbles, and chunk by chunk. Assumes nothing.
use mathlib.Core.Path.{◌≡◌, refl, sym, ap, ◌∙◌, subst}
use mathlib.Core.Bool.{true}
use mathlib.Core.List.{List, [], ◌∷◌, ◌++◌, map, map-append, flat_map, append_assoc}
use Prim.Native.Nat.{ℕ, suc, ◌+◌, ◌-◌, ◌*◌, ◌/◌, ◌%◌, ◌≤◌, ◌<◌}
use native.Mathlib.Numerals.{add-one}
use native.Mathlib.Omega.{arith}
use lib.ListN.{length, get_or, take, drop, set, length-drop}
use lib.Seq.{length-take-le, take_all, take-suc, take-add}
use Rattle.combinatorics.specs.Lists.{all, all_below}
use Rattle.combinatorics.proofs.Cases.{leb-holds}
use Rattle.combinatorics.proofs.Lists.{all_append}
use Rattle.combinatorics.proofs.Members.{length-flat}
use Rattle.text.specs.Text.{hex_digit, hex_byte, hex, overwrite}
use Rattle.text.specs.Nibbles.{nibbles_of, nibbles}
use Rattle.text.proofs.Line.{Put, put-none, put_then, overwrite-one, length-overwrite, line-take}

length-hex-byte : (b : ℕ) → length (hex_byte b) ≡ 2
unfolding hex_byte
length-hex-byte b = refl

pub length-hex : (bytes : List ℕ) → length (hex bytes) ≡ 2 * length bytes
unfolding hex
length-hex bytes = omega (arith, length-flat 2 hex_byte bytes length-hex-byte)

flat_append : (f : ℕ → List ℕ) (xs ys : List ℕ) → flat_map f (xs ++ ys) ≡ flat_map f xs ++ flat_map f ys
unfolding flat_map
flat_append f [] ys = refl
flat_append f (x ∷ xs) ys = rw (flat_append f xs ys) (sym (append_assoc (f x) (flat_map f xs) (flat_map f ys)))

-- ---- Nibbles

pub hex-nibbles : (bytes : List ℕ) → map hex_digit (nibbles bytes) ≡ hex bytes
unfolding hex hex_byte nibbles nibbles_of flat_map
hex-nibbles [] = refl
hex-nibbles (b ∷ bs) = ap (λ (r : List ℕ). hex_digit (b / 16) ∷ hex_digit (b % 16) ∷ r) (hex-nibbles bs)

length-nibbles-of : (b : ℕ) → length (nibbles_of b) ≡ 2
unfolding nibbles_of
length-nibbles-of b = refl

pub length-nibbles : (bytes : List ℕ) → length (nibbles bytes) ≡ 2 * length bytes
unfolding nibbles
length-nibbles bytes = omega (arith, length-flat 2 nibbles_of bytes length-nibbles-of)

pub nibbles-of-below : (b : ℕ) → b < 256 → all_below 16 (nibbles_of b) ≡ true
unfolding nibbles_of all
nibbles-of-below b h = rw (leb-holds (suc (b / 16)) 16 (omega arith), leb-holds (suc (b % 16)) 16 (omega arith))

-- as a loop goes, byte by byte: the nibbles stand in the line, and are below 16
pub nibbles-none : (at : ℕ) (line : List ℕ) → Put at (nibbles []) line line at × (all_below 16 (nibbles []) ≡ true)
unfolding nibbles flat_map all
nibbles-none at line = (put-none at line, refl)

module _ (at : ℕ) (bytes before line : List ℕ) (i behind : ℕ) (room : at + 2 * length bytes ≤ length before)
    (p : Put at (nibbles (take i bytes)) before line behind) where
  pub nibbles-room : i < length bytes → behind + 2 ≤ length line
  nibbles-room h =
      let n : length (take i bytes) ≡ i = length-take-le i bytes (omega arith) in
      omega (arith, p.size, p.behind-is, length-nibbles (take i bytes))

  nibbles-snoc : i < length bytes → nibbles (take (i + 1) bytes) ≡ nibbles (take i bytes) ++ nibbles_of (get_or bytes i 0)
  unfolding nibbles nibbles_of flat_map
  nibbles-snoc h = rw (add-one i, take-suc bytes i 0 h) (flat_append nibbles_of (take i bytes) (get_or bytes i 0 ∷ []))

  pub nibbles-turn : (next : List ℕ) (end : ℕ) → i < length bytes → next ≡ overwrite behind (nibbles_of (get_or bytes i 0)) line → end ≡ behind + 2
      → Put at (nibbles (take (i + 1) bytes)) before next end
  nibbles-turn next end h e n =
      let two : length (nibbles_of (get_or bytes i 0)) ≡ 2 = length-nibbles-of (get_or bytes i 0) in
      rw (nibbles-snoc h)
      (put_then at (nibbles (take i bytes)) (nibbles_of (get_or bytes i 0)) before line next behind end (omega (arith, nibbles-room h, p.size)) p e (omega arith))

  pub nibbles-below : i < length bytes → all_below 16 (nibbles (take i bytes)) ≡ true → all_below 16 (nibbles_of (get_or bytes i 0)) ≡ true
      → all_below 16 (nibbles (take (i + 1) bytes)) ≡ true
  nibbles-below h e f = rw (nibbles-snoc h) (all_append _ (nibbles (take i bytes)) (nibbles_of (get_or bytes i 0)) e f)

-- as they are taken from the start of a line
pub nibbles-taken : (bytes before line : List ℕ) (len : ℕ) → line ≡ overwrite 0 (nibbles bytes) before → len ≡ 0 + 2 * length bytes
    → take len line ≡ nibbles bytes
nibbles-taken bytes before line len e n =
    let size : len ≡ length (nibbles bytes) = omega (arith, length-nibbles bytes) in
    rw (size, e) (line-take (nibbles bytes) before)

-- ---- The digits of values

module _ (at : ℕ) (values before line : List ℕ) (i : ℕ) (room : at + length values ≤ length before)
    (p : Put at (map hex_digit (take i values)) before line (at + i)) where
  pub digits-room : i < length values → at + i < length line
  digits-room h = omega (arith, p.size)

  pub digits-turn : i < length values → Put at (map hex_digit (take (i + 1) values)) before (set line (at + i) (hex_digit (get_or values i 0))) (at + (i + 1))
  digits-turn h =
      let d = hex_digit (get_or values i 0) in
      rw (add-one i, take-suc values i 0 h, map-append)
      (put_then at (map hex_digit (take i values)) (d ∷ []) before line (set line (at + i) d) (at + i) (at + suc i) (omega arith) p
      (overwrite-one (at + i) line d (digits-room h)) (omega arith))

  pub digits-all : length values ≤ i → line ≡ overwrite at (map hex_digit values) before
  digits-all h = rw (← take_all i values h) p.put

-- ---- Chunk by chunk

pub hex-none : (at : ℕ) (bytes line : List ℕ) → Put at (hex (take 0 bytes)) line line (at + 2 * 0)
unfolding hex flat_map
hex-none at bytes line =
    let z : at + 2 * 0 ≡ at = omega arith in
    rw z (put-none at line)

module _ (at : ℕ) (bytes before line : List ℕ) (done : ℕ) (room : at + 2 * length bytes ≤ length before) (within : done ≤ length bytes) where
  length-done : length (hex (take done bytes)) ≡ 2 * done
  length-done = omega (arith, length-hex (take done bytes), length-take-le done bytes within)

  -- the bytes that are done, from the line alone
  pub chunks-put : line ≡ overwrite at (hex (take done bytes)) before → Put at (hex (take done bytes)) before line (at + 2 * done)
  chunks-put e =
      record {
        size = ap length e ∙ length-overwrite at before (hex (take done bytes)) (omega (arith, length-done));
        put = e;
        behind-is = omega (arith, length-done);
      }

  -- a chunk more
  module _ (to : ℕ) (from : done ≤ to) (up_to_lem : to ≤ length bytes) where
    pub chunk-size : length (take (to - done) (drop done bytes)) ≡ to - done
    chunk-size = length-take-le (to - done) (drop done bytes) (omega (arith, length-drop done bytes))

    hex-chunk : hex (take (done + (to - done)) bytes) ≡ hex (take done bytes) ++ hex (take (to - done) (drop done bytes))
    unfolding hex
    hex-chunk = rw (take-add done (to - done) bytes) (flat_append hex_byte (take done bytes) (take (to - done) (drop done bytes)))

    pub chunk-turn : (next : List ℕ) → Put at (hex (take done bytes)) before line (at + 2 * done)
        → next ≡ overwrite (at + 2 * done) (hex (take (to - done) (drop done bytes))) line → Put at (hex (take to bytes)) before next (at + 2 * to)
    chunk-turn next p e =
        let part = take (to - done) (drop done bytes) in
        let size : length (hex part) ≡ 2 * (to - done) = omega (arith, length-hex part, chunk-size) in
        let all : done + (to - done) ≡ to = omega arith in
        subst (λ (k : ℕ). Put at (hex (take k bytes)) before next (at + 2 * k)) all
        (rw hex-chunk
        (put_then at (hex (take done bytes)) (hex part) before line next (at + 2 * done) (at + 2 * (done + (to - done))) (omega arith) p e (omega arith)))
