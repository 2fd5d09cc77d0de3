-- What the ledger's count counts: the numbers open, on hold or cancelled, each once. Assumes nothing.
use mathlib.Core.Path.{◌≡◌, refl, sym, ap, ◌∙◌}
use mathlib.Core.Bool.{Bool, true, false, not, cond, ◌||◌, or-false}
use mathlib.Core.List.{List, [], ◌∷◌}
use Prim.Native.Nat.{ℕ, ◌+◌}
use native.Mathlib.Omega.{arith}
use lib.Dec.{eqb}
use lib.ListN.{length}
use borrow.Author.Tests.{not-true}
use Rattle.combinatorics.specs.Lists.{any}
use Rattle.combinatorics.specs.Stretch.{bit, keep_if}
use Rattle.combinatorics.proofs.Lists.{both}
use Rattle.combinatorics.proofs.Cases.{by-eq, by_bool, eqb_same, eqb-other}
use Rattle.jobs.specs.Jobs.{Call, takes_slot}
use Rattle.ledger.specs.Ledger.{history_of, status_of, status, slots_taken, distinct, CountsSlots, SlotsCounted}

unfoldable without : ℕ → List ℕ → List ℕ
without n [] = []
without n (x ∷ xs) = keep_if (not (eqb x n)) x (without n xs)

-- with each call its number goes, and comes again where it takes a slot afterwards
unfoldable slot_numbers : List Call → List ℕ
slot_numbers [] = []
slot_numbers (c ∷ h) = keep_if (takes_slot (status (c ∷ h) c.number)) c.number (without c.number (slot_numbers h))

-- a number is in the list
abbrev has : List ℕ → ℕ → Bool
has xs n = any (eqb n) xs

has-keep : (b : Bool) (x n : ℕ) (xs : List ℕ) → has (keep_if b x xs) n ≡ cond (eqb n x) (b || has xs n) (has xs n)
unfolding any
has-keep true x n xs = by_bool (eqb n x) (λ t. rw t) (λ t. rw t)
has-keep false x n xs = by_bool (eqb n x) (λ t. rw t) (λ t. rw t)

has-without : (n k : ℕ) (xs : List ℕ) → has (without n xs) k ≡ cond (eqb k n) false (has xs k)
unfolding any without
has-without n k [] = by_bool (eqb k n) (λ t. rw t) (λ t. rw t)
has-without n k (x ∷ xs) =
    by-eq x n (λ b. has (keep_if (not b) x (without n xs)) k ≡ cond (eqb k n) false (eqb k x || has xs k))
    (λ d. has-without n k xs ∙ rw d (by_bool (eqb k n) (λ t. rw t) (λ t. rw t)))
    (λ d.
    by-eq k x (λ b. (b || has (without n xs) k) ≡ cond (eqb k n) false (b || has xs k))
    (λ e. rw (e, eqb-other x n d)) (λ e. has-without n k xs))

distinct-keep : (b : Bool) (x : ℕ) (xs : List ℕ) → has xs x ≡ false → distinct xs ≡ true → distinct (keep_if b x xs) ≡ true
unfolding distinct
distinct-keep true x xs p q = rw (p, q)
distinct-keep false x xs p q = q

distinct_without : (n : ℕ) (xs : List ℕ) → distinct xs ≡ true → distinct (without n xs) ≡ true
unfolding distinct without
distinct_without n [] p = refl
distinct_without n (x ∷ xs) p =
    let q = both (not (has xs x)) (distinct xs) p in
    distinct-keep (not (eqb x n)) x (without n xs) (has-without n x xs ∙ rw (not-true (has xs x) q.0) (by_bool (eqb x n) (λ t. rw t) (λ t. rw t)))
    (distinct_without n xs q.1)

length-keep : (b : Bool) (x : ℕ) (xs : List ℕ) → length (keep_if b x xs) ≡ bit b + length xs
length-keep true x xs = omega arith
length-keep false x xs = omega arith

length_without : (n : ℕ) (xs : List ℕ) → distinct xs ≡ true → length (without n xs) + bit (has xs n) ≡ length xs
unfolding any distinct without
length_without n [] p = refl
length_without n (x ∷ xs) p =
    let q = both (not (has xs x)) (distinct xs) p in
    let i = length_without n xs q.1 in
    by-eq x n (λ b. length (keep_if (not b) x (without n xs)) + bit (eqb n x || has xs n) ≡ length (x ∷ xs))
    (λ d. rw (eqb_same n x (sym d)) (omega (arith, i, ap bit (rw d at (not-true (has xs x) q.0)))))
    (λ d. rw (eqb-other n x (λ e. d (sym e))) (omega (arith, i)))

none-taken : (n : ℕ) → has [] n ≡ takes_slot (status [] n)
unfolding any history_of status_of status
none-taken n = refl

-- a call changes what is said of its own number alone
other-status : (c : Call) (h : List Call) (n : ℕ) → eqb c.number n ≡ false → status (c ∷ h) n ≡ status h n
unfolding history_of status
other-status c h n t = rw t

has-taken : (b : Bool) (n k : ℕ) (xs : List ℕ) → has (keep_if b n (without n xs)) k ≡ cond (eqb k n) b (has xs k)
has-taken b n k xs =
    has-keep b n k (without n xs) ∙ rw (has-without n k xs)
    (by_bool (eqb k n) (λ t. rw t (or-false b)) (λ t. rw t))

counted : (h : List Call) → CountsSlots h (slot_numbers h)
unfolding slot_numbers slots_taken
counted [] = record { once = unfold distinct in refl; exactly = none-taken; count = refl }
counted (c ∷ h) =
    let n = c.number in
    let xs = slot_numbers h in
    let b = takes_slot (status (c ∷ h) n) in
    let i = counted h in
    record {
      once = distinct-keep b n (without n xs) (has-without n n xs ∙ rw (eqb_same n n refl)) (distinct_without n xs i.once);
      exactly = λ k.
          has-taken b n k xs
          ∙ by-eq k n (λ t. cond t b (has xs k) ≡ takes_slot (status (c ∷ h) k)) (λ d. ap (λ (x : ℕ). takes_slot (status (c ∷ h) x)) (sym d))
          (λ d. i.exactly k ∙ ap takes_slot (sym (other-status c h k (eqb-other n k (λ e. d (sym e))))));
      count = omega (arith, length-keep b n (without n xs), length_without n xs i.once, i.count, ap bit (i.exactly n));
    }

pub slots-counted : SlotsCounted
slots-counted h = (slot_numbers h, counted h)
