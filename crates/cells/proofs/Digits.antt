-- Laws of digits: a value below the span is spelled and read back, and so are stored digits in range. Assumes nothing.
use mathlib.Core.Path.{◌≡◌, refl, sym, ap, ◌∙◌}
use mathlib.Core.Logic.{◌≢◌}
use mathlib.Core.Bool.{true}
use mathlib.Core.List.{List, [], ◌∷◌, ◌++◌, tail, flat_map, append-nil}
use Prim.Native.Nat.{ℕ, zero, suc, ◌+◌, ◌-◌, ◌*◌, ◌/◌, ◌%◌, ◌^◌, ◌≤◌, ◌<◌, min}
use native.Mathlib.Nat.{min-eq_left, min-eq_right, div-lt_iff_lt-mul, mod-lt, div-add-mod', pow-zero, pow-suc, pow-succ', mul_assoc, mul-mul-mul_comm}
use native.Mathlib.Nat.{mul_comm, mul-pos, add-sub_cancel_left, mod-eq_of_lt, div-one, div-div-eq-div-mul, le-mul_of_pos_right}
use native.Mathlib.Omega.{arith}
use borrow.Author.Tests.{leb-true}
use lib.Dec.{ltb}
use lib.Arith.{digits_lt, digits_div, digits_mod, mod-mul}
use lib.ListN.{length, get_or, drop, replicate, length-append, length-replicate, get_or-append}
use lib.Seq.{drop-nil, drop_at}
use Rattle.combinatorics.specs.Lists.{all, all_below}
use Rattle.combinatorics.specs.Stretch.{tabulate}
use Rattle.combinatorics.proofs.Cases.{leb-holds, by_le}
use Rattle.combinatorics.proofs.Lists.{both}
use Rattle.combinatorics.proofs.Members.{Each, length-tabulate, tabulate-at}
use Rattle.cells.specs.Digits.{Place, lead, plain, radix, offset, span, spell, value, places}

-- stored digits that are in range
abbrev pub Spelled : ℕ → List Place → List ℕ → Type 0
Spelled q [] [] = Unit {0}
Spelled q [] (d ∷ ds) = ⊥
Spelled q (x ∷ xs) [] = ⊥
Spelled q (x ∷ xs) (d ∷ ds) = (offset x ≤ d) × (d < offset x + radix q x) × Spelled q xs ds

-- a stored digit in range is a symbol
pub spelled-below : (q : ℕ) (xs : List Place) (ds : List ℕ) → 2 ≤ q → Spelled q xs ds → (x : ℕ) → get_or ds x 0 < q
spelled-below q [] [] l h x = omega arith
spelled-below q (lead ∷ xs) (d ∷ ds) l (a, b, c) zero = omega arith
spelled-below q (plain ∷ xs) (d ∷ ds) l (a, b, c) zero = omega arith
spelled-below q (lead ∷ xs) (d ∷ ds) l (a, b, c) (suc x) = spelled-below q xs ds l c x
spelled-below q (plain ∷ xs) (d ∷ ds) l (a, b, c) (suc x) = spelled-below q xs ds l c x
spelled-below q [] (d ∷ ds) l h x = elim h [ ]
spelled-below q (lead ∷ xs) [] l h x = elim h [ ]
spelled-below q (plain ∷ xs) [] l h x = elim h [ ]

pub pos-right : (a b v : ℕ) → v < a * b → 0 < b
pos-right a zero v h = absurd (omega arith)
pos-right a (suc b) v h = omega arith

span_pos : (q : ℕ) (xs : List Place) (v : ℕ) (x : Place) → v < span q (x ∷ xs) → 0 < span q xs
unfolding span
span_pos q xs v x h = pos-right (radix q x) (span q xs) v h

pub spell-spelled : (q : ℕ) (xs : List Place) (v : ℕ) → v < span q xs → Spelled q xs (spell q xs v)
unfolding span spell
spell-spelled q [] v h = tt
spell-spelled q (x ∷ xs) v h =
    let s = span_pos q xs v x h in
    let d : v / span q xs < radix q x = (div-lt_iff_lt-mul s).1 h in
    (omega arith, omega arith, spell-spelled q xs (v % span q xs) (mod-lt v s))

pub value-spell : (q : ℕ) (xs : List Place) (v : ℕ) → v < span q xs → value q xs (spell q xs v) ≡ v
unfolding span spell value
value-spell q [] v h = omega arith
value-spell q (x ∷ xs) v h =
    let s = span_pos q xs v x h in
    rw (add-sub_cancel_left, value-spell q xs (v % span q xs) (mod-lt v s)) (div-add-mod' v (span q xs))

pub value-lt : (q : ℕ) (xs : List Place) (ds : List ℕ) → Spelled q xs ds → value q xs ds < span q xs
unfolding span value
value-lt q [] [] h = omega arith
value-lt q (x ∷ xs) (d ∷ ds) (a, b, c) =
    let e : d - offset x < radix q x = omega arith in
    digits_lt e (value-lt q xs ds c)
value-lt q [] (d ∷ ds) h = elim h [ ]
value-lt q (x ∷ xs) [] h = elim h [ ]

pub spell-value : (q : ℕ) (xs : List Place) (ds : List ℕ) → Spelled q xs ds → spell q xs (value q xs ds) ≡ ds
unfolding span spell value
spell-value q [] [] h = refl
spell-value q (x ∷ xs) (d ∷ ds) (a, b, c) =
    let l = value-lt q xs ds c in
    let e : offset x + (d - offset x) ≡ d = omega arith in
    rw (digits_div (d - offset x) l, digits_mod (d - offset x) l, e, spell-value q xs ds c)
spell-value q [] (d ∷ ds) h = elim h [ ]
spell-value q (x ∷ xs) [] h = elim h [ ]

pub span-group : (q r : ℕ) (rest : List Place) → span q (replicate r plain ++ rest) ≡ q ^ r * span q rest
unfolding span
span-group q zero rest = rw pow-zero (omega arith)
span-group q (suc r) rest = rw (span-group q r rest, pow-succ') (sym (mul_assoc q (q ^ r) (span q rest)))

pub span-plain : (q r : ℕ) → span q (replicate r plain) ≡ q ^ r
unfolding span
span-plain q zero = sym (pow-zero q)
span-plain q (suc r) = rw (span-plain q r) (sym (pow-succ' q r))

pub span-places : (q m r : ℕ) → span q (places m r) ≡ ((q - 1) * q ^ r) ^ m
unfolding span places
span-places q zero r = sym (pow-zero ((q - 1) * q ^ r))
span-places q (suc m) r =
    rw (span-group q r (places m r), span-places q m r, pow-succ' ((q - 1) * q ^ r) m) (sym (mul_assoc (q - 1) (q ^ r) (((q - 1) * q ^ r) ^ m)))

-- with no plain places, and with one more of them in each block
pub span-first : (q m : ℕ) → span q (places m 0) ≡ (q - 1) ^ m
span-first q m =
    let e : (q - 1) * q ^ 0 ≡ q - 1 = rw (pow-zero q) (omega arith) in
    rw (span-places q m 0, e)

mul-pow : (a b m : ℕ) → (a * b) ^ m ≡ a ^ m * b ^ m
mul-pow a b zero = rw (pow-zero (a * b), pow-zero a, pow-zero b)
mul-pow a b (suc m) =
    rw (pow-suc (a * b) m, mul-pow a b m, pow-suc a m, pow-suc b m) (mul-mul-mul_comm (a ^ m) (b ^ m) a b)

pub span-longer : (q m r : ℕ) → span q (places m (suc r)) ≡ span q (places m r) * q ^ m
span-longer q m r =
    rw (span-places q m (suc r), span-places q m r, pow-suc q r, ← mul_assoc (q - 1) (q ^ r) q) (mul-pow ((q - 1) * q ^ r) q m)

-- as many digits count as there are places
pub value-front : (q : ℕ) (xs : List Place) (ds rest : List ℕ) → length ds ≡ length xs → value q xs (ds ++ rest) ≡ value q xs ds
unfolding value
value-front q [] [] rest e = refl
value-front q [] (d ∷ ds) rest e = refl
value-front q (x ∷ xs) [] rest e = absurd (omega arith)
value-front q (x ∷ xs) (d ∷ ds) rest e = rw (value-front q xs ds rest (omega arith))

-- over plain places, digits in range are symbols below q
pub plain-spelled : (q w : ℕ) (ds : List ℕ) → length ds ≡ w → all_below q ds ≡ true → Spelled q (replicate w plain) ds
unfolding all
plain-spelled q zero [] e h = tt
plain-spelled q zero (d ∷ ds) e h = absurd (omega arith)
plain-spelled q (suc w) [] e h = absurd (omega arith)
plain-spelled q (suc w) (d ∷ ds) e h =
    let b = both (ltb d q) (all_below q ds) h in
    let l : d < q = leb-true (suc d) q b.0 in
    (omega arith, omega arith, plain-spelled q w ds (omega arith) b.1)

pub spelled-plain : (q w : ℕ) (ds : List ℕ) → Spelled q (replicate w plain) ds → all_below q ds ≡ true
unfolding all
spelled-plain q zero [] h = refl
spelled-plain q zero (d ∷ ds) h = absurd h
spelled-plain q (suc w) [] h = absurd h
spelled-plain q (suc w) (d ∷ ds) (a, b, h) = rw (leb-holds (suc d) q (omega arith)) (spelled-plain q w ds h)

-- ---- As a loop goes: from the left by Horner's rule, from the right by quotient and remainder

unfoldable pub horner : ℕ → List Place → List ℕ → ℕ → ℕ
horner q [] ds a = a
horner q (x ∷ xs) ds a = horner q xs (tail ds) (a * radix q x + (get_or ds 0 0 - offset x))

pub horner-is : (q : ℕ) (xs : List Place) (ds : List ℕ) (a : ℕ) → horner q xs ds a ≡ a * span q xs + value q xs ds
unfolding horner span value
horner-is q [] ds a = omega arith
horner-is q (x ∷ xs) ds a =
    omega (arith, horner-is q xs (tail ds) (a * radix q x + (get_or ds 0 0 - offset x)), mul_assoc a (radix q x) (span q xs))

radix-pos : (q : ℕ) (x : Place) → 2 ≤ q → 0 < radix q x
radix-pos q lead h = omega arith
radix-pos q plain h = omega arith

-- the value so far is never more than the whole
pub horner-grows : (q : ℕ) (xs : List Place) (ds : List ℕ) (a : ℕ) → 2 ≤ q → a ≤ horner q xs ds a
unfolding horner
horner-grows q [] ds a h = omega arith
horner-grows q (x ∷ xs) ds a h =
    omega (arith, le-mul_of_pos_right a (radix-pos q x h), horner-grows q xs (tail ds) (a * radix q x + (get_or ds 0 0 - offset x)) h)

-- ---- With a cap: a value that reached it on the way has reached it at the end

span-some : (q : ℕ) (xs : List Place) → 2 ≤ q → 0 < span q xs
unfolding span
span-some q [] h = omega arith
span-some q (x ∷ xs) h = mul-pos (radix-pos q x h) (span-some q xs h)

pub horner-capped : (q : ℕ) (xs : List Place) (ds : List ℕ) (a cap : ℕ) → 2 ≤ q → min (horner q xs ds (min a cap)) cap ≡ min (horner q xs ds a) cap
horner-capped q xs ds a cap h =
    by_le a cap (λ _. min (horner q xs ds (min a cap)) cap ≡ min (horner q xs ds a) cap)
    (λ l.
    let e : min a cap ≡ a = min-eq_left l in
    rw e)
    (λ l.
    let e : min a cap ≡ cap = min-eq_right {n = cap} {m = a} (omega arith) in
    let up = horner-grows q xs ds cap h in
    let far : cap ≤ horner q xs ds a = omega (arith, horner-grows q xs ds a h) in
    rw (e, min-eq_right up, min-eq_right far))

-- ---- Places of one list behind those of another

tail_at : (ds : List ℕ) (i : ℕ) → get_or (tail ds) i 0 ≡ get_or ds (suc i) 0
tail_at [] i = refl
tail_at (d ∷ ds) i = refl

tail-drop : (ds : List ℕ) (n : ℕ) → drop n (tail ds) ≡ drop (suc n) ds
tail-drop [] n = drop-nil n
tail-drop (d ∷ ds) n = refl

pub horner-append : (q : ℕ) (xs ys : List Place) (ds : List ℕ) (a : ℕ) → horner q (xs ++ ys) ds a ≡ horner q ys (drop (length xs) ds) (horner q xs ds a)
unfolding horner
horner-append q [] ys ds a = refl
horner-append q (x ∷ xs) ys ds a =
    horner-append q xs ys (tail ds) (a * radix q x + (get_or ds 0 0 - offset x)) ∙ (rw (tail-drop ds (length xs)))

-- digits past the places are not read
pub horner-same : (q : ℕ) (xs : List Place) (ds es : List ℕ) (a : ℕ) → ((i : ℕ) → i < length xs → get_or ds i 0 ≡ get_or es i 0)
    → horner q xs ds a ≡ horner q xs es a
unfolding horner
horner-same q [] ds es a h = refl
horner-same q (x ∷ xs) ds es a h =
    rw (h 0 (omega arith)) (horner-same q xs (tail ds) (tail es) (a * radix q x + (get_or es 0 0 - offset x))
    (λ i l. tail_at ds i ∙ h (suc i) (omega arith) ∙ sym (tail_at es i)))

pub span-snoc : (q : ℕ) (xs : List Place) (x : Place) → span q (xs ++ (x ∷ [])) ≡ span q xs * radix q x
unfolding span
span-snoc q [] x = omega arith
span-snoc q (y ∷ ys) x = rw (span-snoc q ys x) (sym (mul_assoc (radix q y) (span q ys) (radix q x)))

pub spell-snoc : (q : ℕ) (xs : List Place) (x : Place) (v : ℕ) → 0 < radix q x → 0 < span q xs → v < span q (xs ++ (x ∷ []))
    → spell q (xs ++ (x ∷ [])) v ≡ spell q xs (v / radix q x) ++ ((offset x + v % radix q x) ∷ [])
unfolding spell span
spell-snoc q [] x v h k l = rw (div-one v, mod-eq_of_lt {n = v} {m = radix q x} (omega arith))
spell-snoc q (y ∷ ys) x v h k l =
    let S = span q ys in
    let c = radix q x in
    let sp : 0 < S = pos-right (radix q y) S 0 k in
    let e = span-snoc q ys x in
    let m = mod-mul v sp h in
    let lo : v % c < c = mod-lt v h in
    let d₁ : v / (S * c) ≡ v / c / S = ap (λ (z : ℕ). v / z) (mul_comm S c) ∙ sym (div-div-eq-div-mul v c S) in
    let d₂ : v % (S * c) / c ≡ v / c % S = ap (λ (z : ℕ). z / c) m ∙ digits_div (v / c % S) lo in
    let d₃ : v % (S * c) % c ≡ v % c = ap (λ (z : ℕ). z % c) m ∙ digits_mod (v / c % S) lo in
    rw (e, d₁, spell-snoc q ys x (v % (S * c)) h sp (rw e (mod-lt v (mul-pos sp h))), d₂, d₃)

-- ---- How many

pub length-places : (m r : ℕ) → length (places m r) ≡ m * suc r
unfolding places
length-places zero r = omega arith
length-places (suc m) r = omega (arith, length-append (replicate r plain) (places m r), length-replicate r plain, length-places m r)

pub length-spell : (q : ℕ) (xs : List Place) (v : ℕ) → length (spell q xs v) ≡ length xs
unfolding spell
length-spell q [] v = refl
length-spell q (x ∷ xs) v = ap suc (length-spell q xs (v % span q xs))

-- the first block's places, and the others'
pub places-first : (m r : ℕ) → places (suc m) r ≡ places 1 r ++ places m r
unfolding places
places-first m r = rw (append-nil (replicate r plain))

-- ---- Digits that stand in the first 1 + r positions of some blocks

module _ (q r : ℕ) (s f : ℕ → ℕ) where
  drop-tail : (c j : ℕ) (rest : List Place) (ds : List ℕ) → Spelled q (replicate c plain ++ rest) (tabulate c j f ++ ds) → Spelled q rest ds
  unfolding tabulate
  drop-tail zero j rest ds h = h
  drop-tail (suc c) j rest ds h = drop-tail c (suc j) rest ds h.2

  -- in range, each lead digit is 1 or more
  pub leads : (ks : List ℕ) → Spelled q (places (length ks) r) (flat_map (λ k. tabulate (suc r) (s k) f) ks) → Each (λ k. 1 ≤ f (s k)) ks
  unfolding places flat_map tabulate
  leads [] h = tt
  leads (k ∷ ks) h = (h.0, leads ks (drop-tail r (suc (s k)) (places (length ks) r) (flat_map (λ k. tabulate (suc r) (s k) f) ks) h.2))

  into-tail : (c j : ℕ) (rest : List Place) (ds : List ℕ) → all_below q (tabulate c j f ++ ds) ≡ true → (all_below q ds ≡ true → Spelled q rest ds)
      → Spelled q (replicate c plain ++ rest) (tabulate c j f ++ ds)
  unfolding tabulate all
  into-tail zero j rest ds l h = h l
  into-tail (suc c) j rest ds l h =
      let b = both (ltb (f j) q) (all_below q (tabulate c (suc j) f ++ ds)) l in
      (omega arith, omega (arith, leb-true (suc (f j)) q b.0), into-tail c (suc j) rest ds b.1 h)

  -- and symbols below q with no 0 at the lead places are in range
  pub heads-spelled : (ks : List ℕ) → all_below q (flat_map (λ k. tabulate (suc r) (s k) f) ks) ≡ true → Each (λ k. f (s k) ≢ 0) ks
      → Spelled q (places (length ks) r) (flat_map (λ k. tabulate (suc r) (s k) f) ks)
  unfolding places flat_map tabulate all
  heads-spelled [] l h = tt
  heads-spelled (k ∷ ks) l h =
      let z : f (s k) ≢ 0 = h.0 in
      let rest = flat_map (λ k. tabulate (suc r) (s k) f) ks in
      let b = both (ltb (f (s k)) q) (all_below q (tabulate r (suc (s k)) f ++ rest)) l in (
        omega arith,
        omega (arith, leb-true (suc (f (s k))) q b.0),
        into-tail r (suc (s k)) (places (length ks) r) rest b.1
            (λ g. heads-spelled ks g h.1),
      )

  -- by Horner's rule from block to block
  pub horner-blocks : (m k : ℕ) (ks ds : List ℕ) (a : ℕ) → ((i : ℕ) → i < suc r → get_or ds i 0 ≡ f (s k + i))
      → horner q (places (suc m) r) (flat_map (λ k. tabulate (suc r) (s k) f) (k ∷ ks)) a
      ≡ horner q (places m r) (flat_map (λ k. tabulate (suc r) (s k) f) ks) (horner q (places 1 r) ds a)
  unfolding flat_map
  horner-blocks m k ks ds a h =
      let here = tabulate (suc r) (s k) f in
      let rest = flat_map (λ k. tabulate (suc r) (s k) f) ks in
      let n : length here ≡ length (places 1 r) = length-tabulate (suc r) (s k) f ∙ omega (arith, length-places 1 r) in
      rw (places-first m r, horner-append q (places 1 r) (places m r) (here ++ rest) a, drop_at here rest (length (places 1 r)) n)
      (ap (horner q (places m r) rest)
      (horner-same q (places 1 r) (here ++ rest) ds a
      (λ i l. get_or-append here rest 0 i (omega arith) ∙ tabulate-at (suc r) (s k) i f (omega (arith, length-places 1 r))
      ∙ sym (h i (omega (arith, length-places 1 r))))))
