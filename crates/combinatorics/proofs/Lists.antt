-- Laws of tests over a list. Assumes nothing.
use mathlib.Core.Path.{◌≡◌, refl, sym, ap, ap₂, ◌∙◌}
use mathlib.Core.Bool.{Bool, true, false, ◌&&◌, false≢true}
use mathlib.Core.List.{List, [], ◌∷◌, ◌++◌, map, flat_map}
use Prim.Native.Nat.{ℕ, zero, suc, ◌+◌, ◌≤◌, ◌<◌}
use native.Mathlib.Numerals.{add-one}
use native.Mathlib.Omega.{arith}
use borrow.Author.Tests.{leb-true}
use lib.Dec.{ltb, eqb}
use lib.ListN.{length, get_or, take, drop, set, replicate, drop_of_length-le}
use lib.Seq.{take_all, take-suc, take-suc-set, drop-cons}
use Rattle.combinatorics.specs.Lists.{all, any, all_below, same_list}
use Rattle.combinatorics.proofs.Cases.{by_bool, by_le, by-eq, eqb_same, eqb-true, leb-holds}

pub both : (a b : Bool) → (a && b) ≡ true → (a ≡ true) × (b ≡ true)
both true b e = (refl, e)
both false b e = absurd (false≢true e)

pub same-list : (xs : List ℕ) → same_list xs xs ≡ true
unfolding same_list
same-list [] = refl
same-list (x ∷ xs) = rw (eqb_same x x refl) (same-list xs)

pub list_same : (xs ys : List ℕ) → same_list xs ys ≡ true → xs ≡ ys
unfolding same_list
list_same [] [] = λ e. refl
list_same [] (y ∷ ys) = λ e. absurd (false≢true e)
list_same (x ∷ xs) [] = λ e. absurd (false≢true e)
list_same (x ∷ xs) (y ∷ ys) =
    by-eq x y (λ t. (t && same_list xs ys) ≡ true → x ∷ xs ≡ y ∷ ys) (λ d e. ap₂ {C = List ℕ} ◌∷◌ d (list_same xs ys e)) (λ _ e. absurd (false≢true e))

-- each number of such a list is below q, and so is what stands past its end
pub below_at : (q : ℕ) (xs : List ℕ) → 0 < q → all_below q xs ≡ true → (x : ℕ) → get_or xs x 0 < q
unfolding all
below_at q [] h e x = h
below_at q (y ∷ ys) h e zero = by_le (suc y) q (λ t. (t && all_below q ys) ≡ true → y < q) (λ l _. l) (λ _ d. absurd (false≢true d)) e
below_at q (y ∷ ys) h e (suc x) = below_at q ys h (both (ltb y q) (all_below q ys) e).1 x

-- where there is such a number, q is not 0
pub some_below : (q : ℕ) (xs : List ℕ) → all_below q xs ≡ true → 0 < length xs → 0 < q
unfolding all
some_below q [] h l = absurd (omega arith)
some_below q (x ∷ xs) h l = by_le (suc x) q (λ t. (t && all_below q xs) ≡ true → 0 < q) (λ k _. omega arith) (λ _ e. absurd (false≢true e)) h

pub at-below : (q : ℕ) (xs : List ℕ) → ((x : ℕ) → x < length xs → get_or xs x 0 < q) → all_below q xs ≡ true
unfolding all
at-below q [] h = refl
at-below q (y ∷ ys) h = rw (leb-holds (suc y) q (h 0 (omega arith)), at-below q ys (λ x l. h (suc x) (omega arith)))

-- what is below q is below any larger bound
pub below_more : (q r : ℕ) (xs : List ℕ) → q ≤ r → all_below q xs ≡ true → all_below r xs ≡ true
unfolding all
below_more q r [] l h = h
below_more q r (x ∷ xs) l h =
    let b = both (ltb x q) (all_below q xs) h in
    rw (leb-holds (suc x) r (omega (arith, leb-true (suc x) q b.0))) (below_more q r xs l b.1)

-- what a function gives below q, over a list
pub map_below : (q : ℕ) (f : ℕ → ℕ) → ((x : ℕ) → f x < q) → (xs : List ℕ) → all_below q (map f xs) ≡ true
unfolding all
map_below q f small [] = refl
map_below q f small (x ∷ xs) = rw (leb-holds (suc (f x)) q (small x)) (map_below q f small xs)

-- what holds of every number of a list holds of one of them
pub in_all : (p : ℕ → Bool) (xs : List ℕ) (a : ℕ) → all p xs ≡ true → any (eqb a) xs ≡ true → p a ≡ true
unfolding all any
in_all p [] a n h = absurd (false≢true h)
in_all p (x ∷ xs) a n h =
    let b = both (p x) (all p xs) n in
    by_bool (eqb a x) (λ e. rw (eqb-true a x e) b.0) (λ e. in_all p xs a b.1 (rw e at h))

-- ---- As a loop goes: a test over the list from element i on

module _ (t : ℕ → Bool) (xs : List ℕ) (i : ℕ) where
  all-next : i < length xs → all t (drop i xs) ≡ (t (get_or xs i 0) && all t (drop (i + 1) xs))
  unfolding all
  all-next h = rw (drop-cons xs i 0 h, add-one i)

  pub all-fails : i < length xs → t (get_or xs i 0) ≡ false → all t (drop i xs) ≡ false
  all-fails h e = rw (all-next h, e)

  pub all-later : i < length xs → t (get_or xs i 0) ≡ true → all t (drop i xs) ≡ all t (drop (i + 1) xs)
  all-later h e = rw (all-next h, e)

  pub all-over : length xs ≤ i → all t (drop i xs) ≡ true
  unfolding all
  all-over h = rw (drop_of_length-le xs h)

-- ---- As a loop goes: filling a list from the left with what another holds

pub fill-turn : (out t : List ℕ) (i : ℕ) → i < length out → i < length t → take i out ≡ take i t → take (i + 1) (set out i (get_or t i 0)) ≡ take (i + 1) t
fill-turn out t i h k e = rw (add-one i) (take-suc-set out i (get_or t i 0) h ∙ ap (λ (r : List ℕ). r ++ (get_or t i 0 ∷ [])) e ∙ sym (take-suc t i 0 k))

pub fill_done : (out t : List ℕ) (i : ℕ) → length out ≤ i → take i out ≡ take i t → length out ≡ i → out ≡ take (length out) t
fill_done out t i h e l = sym (take_all i out h) ∙ e ∙ ap (λ (n : ℕ). take n t) (sym l)

and_assoc : (a b c : Bool) → (a && (b && c)) ≡ ((a && b) && c)
and_assoc true b c = refl
and_assoc false b c = refl

-- ---- A test of every element, over lists put together and taken apart

module _ {A : Type 0} (t : A → Bool) where
  pub all_append : (xs ys : List A) → all t xs ≡ true → all t ys ≡ true → all t (xs ++ ys) ≡ true
  unfolding all
  all_append [] ys h g = g
  all_append (x ∷ xs) ys h g = let b = both (t x) (all t xs) h in rw b.0 (all_append xs ys b.1 g)

  pub all_both : (xs ys : List A) → all t (xs ++ ys) ≡ (all t xs && all t ys)
  unfolding all
  all_both [] ys = refl
  all_both (x ∷ xs) ys = ap (λ (r : Bool). t x && r) (all_both xs ys) ∙ and_assoc (t x) (all t xs) (all t ys)

  pub all_take : (n : ℕ) (xs : List A) → all t xs ≡ true → all t (take n xs) ≡ true
  unfolding all
  all_take zero xs h = refl
  all_take (suc n) [] h = refl
  all_take (suc n) (x ∷ xs) h = let b = both (t x) (all t xs) h in rw b.0 (all_take n xs b.1)

  pub all_drop : (n : ℕ) (xs : List A) → all t xs ≡ true → all t (drop n xs) ≡ true
  unfolding all
  all_drop zero xs h = h
  all_drop (suc n) [] h = refl
  all_drop (suc n) (x ∷ xs) h = all_drop n xs (both (t x) (all t xs) h).1

  pub all_replicate : (n : ℕ) (a : A) → t a ≡ true → all t (replicate n a) ≡ true
  unfolding all
  all_replicate zero a h = refl
  all_replicate (suc n) a h = rw h (all_replicate n a h)

  -- where each x that passes one test gives a list that passes the other
  pub all-flat : {B : Type 0} (s : B → Bool) (g : B → List A) → ((x : B) → s x ≡ true → all t (g x) ≡ true)
      → (xs : List B) → all s xs ≡ true → all t (flat_map g xs) ≡ true
  unfolding all flat_map
  all-flat s g each [] h = refl
  all-flat s g each (x ∷ xs) h =
      let b = both (s x) (all s xs) h in
      all_append (g x) (flat_map g xs) (each x b.0) (all-flat s g each xs b.1)

-- a list of one number alone
pub all_same : (a : ℕ) (xs : List ℕ) → all (λ x. eqb x a) xs ≡ true → xs ≡ replicate (length xs) a
unfolding all
all_same a [] h = refl
all_same a (x ∷ xs) h =
    let b = both (eqb x a) (all (λ x. eqb x a) xs) h in
    ap₂ {C = List ℕ} ◌∷◌ (eqb-true x a b.0) (all_same a xs b.1)
