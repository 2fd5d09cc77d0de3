-- Laws of spelling a value from the right, digit by digit. Assumes nothing.
use mathlib.Core.Path.{◌≡◌, sym, ap, ◌∙◌}
use mathlib.Core.List.{List, [], ◌∷◌, ◌++◌, append_assoc, append-nil}
use Prim.Native.Nat.{ℕ, zero, suc, ◌+◌, ◌*◌, ◌/◌, ◌%◌, ◌≤◌, ◌<◌}
use native.Mathlib.Nat.{mul_comm, suc-mul, zero-mul, div-lt_iff_lt-mul}
use native.Mathlib.Omega.{arith}
use lib.ListN.{length, get_or, take, drop, set, replicate, length-take, length-replicate, get_or-replicate, get_or-append, drop_of_length-le}
use lib.Seq.{take-suc, take-length, take-set-lt, drop-cons, drop-set-lt, get_or-set_same, lt-length-set, get_or-append-add}
use Rattle.cells.specs.Digits.{Place, lead, plain, radix, offset, span, spell, places}
use Rattle.cells.proofs.Digits.{span-snoc, spell-snoc, pos-right}
use Rattle.encoder.specs.Digits.{SpelledFrom}

pub radix-pos : (q : ℕ) (x : Place) → 2 ≤ q → 0 < radix q x
radix-pos q lead h = omega arith
radix-pos q plain h = omega arith

module _ (q : ℕ) (ps : List Place) (value : ℕ) (h : 2 ≤ q) where
  put-digit : (i d : ℕ) (digits : List ℕ) → i < length ps → length ps ≤ length digits
      → drop i (take (length ps) (set digits i d)) ≡ d ∷ drop (suc i) (take (length ps) digits)
  put-digit i d digits l g =
      let ts = take (length ps) digits in
      let n : i < length ts = omega (arith, length-take (length ps) digits) in
      rw (take-set-lt (length ps) digits i d l)
      (drop-cons (set ts i d) i 0 (lt-length-set ts i d n) ∙ rw (get_or-set_same ts i d 0 n, drop-set-lt (suc i) ts i d (omega arith)))

  pub turn : (i left : ℕ) (digits : List ℕ) (x : Place) → i < length ps → length ps ≤ length digits → get_or ps i plain ≡ x
      → SpelledFrom q ps value (suc i) left digits → SpelledFrom q ps value i (left / radix q x) (set digits i (offset x + left % radix q x))
  turn i left digits x l g e s =
      let t : take (suc i) ps ≡ take i ps ++ (x ∷ []) = take-suc ps i plain l ∙ ap (λ (y : Place). take i ps ++ (y ∷ [])) e in
      let b : left < span q (take i ps ++ (x ∷ [])) = rw (← t) s.below in
      let b' : left < span q (take i ps) * radix q x = rw (span-snoc q (take i ps) x) at b in
      let r = radix-pos q x h in
      let sp : 0 < span q (take i ps) = pos-right (radix q x) (span q (take i ps)) left (omega (arith, mul_comm (radix q x) (span q (take i ps)))) in
      record {
        below = (div-lt_iff_lt-mul r).1 b';
        made = rw (put-digit i (offset x + left % radix q x) digits l g)
            (sym (append_assoc (spell q (take i ps) (left / radix q x)) ((offset x + left % radix q x) ∷ []) (drop (suc i) (take (length ps) digits)))
            ∙ rw (← spell-snoc q (take i ps) x left r sp b, ← t) s.made);
      }

  pub start : (digits : List ℕ) → value < span q ps → length ps ≤ length digits → SpelledFrom q ps value (length ps) value digits
  start digits l g =
      let e : drop (length ps) (take (length ps) digits) ≡ [] =
      drop_of_length-le (take (length ps) digits) {i = length ps} (omega (arith, length-take (length ps) digits)) in
      record { below = rw (take-length ps) l; made = rw (e, take-length ps) (append-nil (spell q ps value)) }

  pub done : (left : ℕ) (digits : List ℕ) → SpelledFrom q ps value 0 left digits → take (length ps) digits ≡ spell q ps value
  unfolding spell
  done left digits s = s.made

-- behind the first block stand the places of the others
places_behind : (m r i : ℕ) → get_or (places (suc m) r) (suc r + i) plain ≡ get_or (places m r) i plain
unfolding places
places_behind m r i =
    let e : suc r + i ≡ suc (length (replicate r plain) + i) = omega (arith, length-replicate r plain) in
    ap (λ (y : ℕ). get_or (lead ∷ (replicate r plain ++ places m r)) y plain) e ∙ get_or-append-add (replicate r plain) (places m r) i plain

-- the first place of a block is a lead place
pub lead-there : (m r k : ℕ) → k < m → get_or (places m r) (k * (r + 1)) plain ≡ lead
unfolding places
lead-there zero r k h = absurd (omega arith)
lead-there (suc m) r zero h = rw (zero-mul (r + 1))
lead-there (suc m) r (suc k) h =
    let e : suc k * (r + 1) ≡ suc r + k * (r + 1) = omega (arith, suc-mul k (r + 1)) in
    ap (λ (y : ℕ). get_or (places (suc m) r) y plain) e ∙ places_behind m r (k * (r + 1)) ∙ lead-there m r k (omega arith)

-- and the r behind it are plain
pub plain-there : (m r k j : ℕ) → k < m → j < r → get_or (places m r) (k * (r + 1) + 1 + j) plain ≡ plain
unfolding places
plain-there zero r k j h l = absurd (omega arith)
plain-there (suc m) r zero j h l =
    let e : 0 * (r + 1) + 1 + j ≡ suc j = omega (arith, zero-mul (r + 1)) in
    ap (λ (y : ℕ). get_or (places (suc m) r) y plain) e
    ∙ get_or-append (replicate r plain) (places m r) plain j (omega (arith, length-replicate r plain)) ∙ get_or-replicate r j plain plain l
plain-there (suc m) r (suc k) j h l =
    let e : suc k * (r + 1) + 1 + j ≡ suc r + (k * (r + 1) + 1 + j) = omega (arith, suc-mul k (r + 1)) in
    ap (λ (y : ℕ). get_or (places (suc m) r) y plain) e ∙ places_behind m r (k * (r + 1) + 1 + j) ∙ plain-there m r k j (omega arith) l
