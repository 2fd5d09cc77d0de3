-- What the entries of a table say of a number, and what one store changes. Assumes nothing.
use mathlib.Core.Path.{◌≡◌, refl, sym, ap, ◌∙◌}
use mathlib.Core.Bool.{Bool, true, false, not, cond, ◌||◌, true≢false, false≢true}
use mathlib.Core.List.{List, [], ◌∷◌}
use Prim.Native.Nat.{ℕ, zero, suc, ◌+◌, ◌≤◌, ◌<◌}
use native.Mathlib.Omega.{arith}
use lib.Dec.{ltb, eqb, leb-suc-suc}
use lib.ListN.{length, replicate, set}
use borrow.Author.Tests.{not-false}
use Rattle.combinatorics.specs.Lists.{any}
use Rattle.combinatorics.specs.Stretch.{bit}
use Rattle.combinatorics.proofs.Cases.{by_bool, eqb_same, eqb-true, leb-holds}
use Rattle.combinatorics.proofs.Stretch.{bit_le}
use Rattle.jobs.specs.declared.Entry.{Entry}
use Rattle.jobs.specs.declared.Entry.TheVariants.{Free, Open, OnHold, Cancelled}
use Rattle.jobs.specs.Jobs.{takes_slot}
use Rattle.jobs.specs.Table.{standing, is_free, holds, first_entry, lookup, used, replace_first, again, twice}

-- ---- One entry

pub free-is : (e : Entry) → is_free e ≡ true → e ≡ Free
free-is Free t = refl
free-is (Open x) t = absurd (false≢true t)
free-is (OnHold x) t = absurd (false≢true t)
free-is (Cancelled x was) t = absurd (false≢true t)

holds-full : (e : Entry) (n : ℕ) → holds n e ≡ true → is_free e ≡ false
holds-full Free n t = absurd (false≢true t)
holds-full (Open x) n t = refl
holds-full (OnHold x) n t = refl
holds-full (Cancelled x was) n t = refl

-- the entry of a number holds no other
pub holds-only : (e : Entry) (n k : ℕ) → holds n e ≡ true → holds k e ≡ eqb n k
holds-only Free n k t = absurd (false≢true t)
holds-only (Open x) n k t = ap (λ (y : ℕ). eqb y k) (eqb-true x n t)
holds-only (OnHold x) n k t = ap (λ (y : ℕ). eqb y k) (eqb-true x n t)
holds-only (Cancelled x was) n k t = ap (λ (y : ℕ). eqb y k) (eqb-true x n t)

-- an entry that is not free takes a slot
counted : (e : Entry) → bit (takes_slot (standing e)) ≡ bit (not (is_free e))
counted Free = refl
counted (Open x) = refl
counted (OnHold x) = refl
counted (Cancelled x was) = refl

-- ---- The entry of a number

module _ (t : Entry → Bool) (e : Entry) (es : List Entry) where
  pub entry_here : t e ≡ true → first_entry t (e ∷ es) ≡ e
  unfolding first_entry
  entry_here p = rw p

  pub entry-there : t e ≡ false → first_entry t (e ∷ es) ≡ first_entry t es
  unfolding first_entry
  entry-there p = rw p

pub any-holds : (es : List Entry) (n : ℕ) → any (holds n) es ≡ not (is_free (lookup es n))
unfolding any first_entry
any-holds [] n = refl
any-holds (e ∷ es) n = by_bool (holds n e) (λ t. rw (t, holds-full e n t)) (λ t. rw t (any-holds es n))

-- an entry that is not free passed the test
pub entry-passes : (t : Entry → Bool) (es : List Entry) → is_free (first_entry t es) ≡ false → t (first_entry t es) ≡ true
unfolding first_entry
entry-passes t [] f = absurd (true≢false f)
entry-passes t (e ∷ es) f = by_bool (t e) (λ p. rw (p, p)) (λ p. rw p (entry-passes t es (rw p at f)))

-- the first free entry is free
pub free-entry : (es : List Entry) → first_entry is_free es ≡ Free
unfolding first_entry
free-entry [] = refl
free-entry (e ∷ es) = by_bool (is_free e) (λ p. rw p (free-is e p)) (λ p. rw p (free-entry es))

-- where no entry of a number is there, none of the entries is one
pub free-here : (e : Entry) (es : List Entry) (n : ℕ) → lookup (e ∷ es) n ≡ Free → holds n e ≡ false
free-here e es n l =
    by_bool (holds n e) (λ t. absurd (true≢false (sym (ap is_free (sym (entry_here (holds n) e es t) ∙ l)) ∙ holds-full e n t))) (λ t. t)

pub free-there : (e : Entry) (es : List Entry) (n : ℕ) → lookup (e ∷ es) n ≡ Free → lookup es n ≡ Free
free-there e es n l = sym (entry-there (holds n) e es (free-here e es n l)) ∙ l

-- a number that is not looked up is held by no entry
not_found : (t : Entry → Bool) (es : List Entry) (n : ℕ) → lookup es n ≡ Free → holds n (first_entry t es) ≡ false
unfolding first_entry
not_found t [] n l = refl
not_found t (e ∷ es) n l = by_bool (t e) (λ p. rw p (free-here e es n l)) (λ p. rw p (not_found t es n (free-there e es n l)))

-- ---- No number twice

neither : (a b : Bool) → (a || b) ≡ false → (a ≡ false) × (b ≡ false)
neither true b p = absurd (true≢false p)
neither false b p = (refl, p)

once-rest : (e : Entry) (es : List Entry) → twice (e ∷ es) ≡ false → twice es ≡ false
unfolding twice
once-rest e es o = (neither (again es e) (twice es) o).1

again-is : (e : Entry) (es : List Entry) (n : ℕ) → holds n e ≡ true → again es e ≡ any (holds n) es
again-is Free es n t = absurd (false≢true t)
again-is (Open x) es n t = ap (λ (k : ℕ). any (holds k) es) (eqb-true x n t)
again-is (OnHold x) es n t = ap (λ (k : ℕ). any (holds k) es) (eqb-true x n t)
again-is (Cancelled x was) es n t = ap (λ (k : ℕ). any (holds k) es) (eqb-true x n t)

once-here : (e : Entry) (es : List Entry) (n : ℕ) → twice (e ∷ es) ≡ false → holds n e ≡ true → lookup es n ≡ Free
unfolding twice
once-here e es n o t =
    free-is (lookup es n) (not-false (is_free (lookup es n)) (sym (any-holds es n) ∙ sym (again-is e es n t) ∙ (neither (again es e) (twice es) o).0))

never-again : (e : Entry) (es : List Entry) → ((n : ℕ) → holds n e ≡ true → lookup es n ≡ Free) → again es e ≡ false
never-again Free es h = refl
never-again (Open x) es h = rw (any-holds es x, h x (eqb_same x x refl))
never-again (OnHold x) es h = rw (any-holds es x, h x (eqb_same x x refl))
never-again (Cancelled x was) es h = rw (any-holds es x, h x (eqb_same x x refl))

once_more : (e : Entry) (es : List Entry) → ((n : ℕ) → holds n e ≡ true → lookup es n ≡ Free) → twice es ≡ false → twice (e ∷ es) ≡ false
unfolding twice
once_more e es h o = rw (never-again e es h, o)

-- ---- One store

-- the entry `old` became `new`
pub record Stored (es next : List Entry) (old new : Entry) : Type 0 where
  pub slots : length next ≡ length es
  pub at : (k : ℕ) → lookup next k ≡ cond (holds k new) new (cond (holds k old) Free (lookup es k))
  pub once : twice next ≡ false
  pub count : used next + bit (takes_slot (standing old)) ≡ used es + bit (takes_slot (standing new))

-- the new entry's number is the old one's, or the table doesn't hold it
abbrev pub Fresh : List Entry → Entry → Entry → Type 0
Fresh es old new = (k : ℕ) → holds k new ≡ true → holds k old ≡ false → lookup es k ≡ Free

module _ (new : Entry) where
  store-here : (e : Entry) (es : List Entry) → Fresh (e ∷ es) e new → twice (e ∷ es) ≡ false → Stored (e ∷ es) (new ∷ es) e new
  unfolding used
  store-here e es fresh o =
      let gone : (k : ℕ) → holds k new ≡ true → lookup es k ≡ Free = λ k s. by_bool (holds k e) (once-here e es k o) (λ p. free-there e es k (fresh k s p)) in
      record {
        slots = refl;
        at = λ k.
            by_bool (holds k new) (λ s. rw (entry_here (holds k) new es s, s))
            (λ s. rw (entry-there (holds k) new es s, s) (by_bool (holds k e) (λ p. rw (p, once-here e es k o p)) (λ p. rw (p, entry-there (holds k) e es p))));
        once = once_more new es gone (once-rest e es o);
        count = omega arith;
      }

  store-there : (e : Entry) (es next : List Entry) (old : Entry) → Fresh (e ∷ es) old new → twice (e ∷ es) ≡ false
      → ((k : ℕ) → lookup es k ≡ Free → holds k old ≡ false) → Stored es next old new → Stored (e ∷ es) (e ∷ next) old new
  unfolding used
  store-there e es next old fresh o old-there i =
      let not-old : (k : ℕ) → holds k e ≡ true → holds k old ≡ false = λ k p. old-there k (once-here e es k o p) in
      let not_new : (k : ℕ) → holds k e ≡ true → holds k new ≡ false =
      λ k p. by_bool (holds k new) (λ s. absurd (true≢false (sym p ∙ free-here e es k (fresh k s (not-old k p))))) (λ s. s) in
      record {
        slots = ap suc i.slots;
        at = λ k.
            by_bool (holds k e) (λ p. rw (entry_here (holds k) e next p, entry_here (holds k) e es p, not_new k p, not-old k p))
            (λ p. rw (entry-there (holds k) e next p, entry-there (holds k) e es p) (i.at k));
        once = once_more e next (λ k p. i.at k ∙ rw (not_new k p, not-old k p) (once-here e es k o p)) i.once;
        count = omega (arith, i.count);
      }

  pub stored : (t : Entry → Bool) (es : List Entry) → any t es ≡ true → twice es ≡ false → Fresh es (first_entry t es) new
      → Stored es (replace_first t new es) (first_entry t es) new
  unfolding any first_entry replace_first
  stored t [] a o fresh = absurd (false≢true a)
  stored t (e ∷ es) a o fresh =
      by_bool (t e) (λ p. rw p (store-here e es (rw p at fresh) o))
      (λ p.
      let f : Fresh (e ∷ es) (first_entry t es) new = rw p at fresh in
      rw p
      (store-there e es (replace_first t new es) (first_entry t es) f o (not_found t es)
      (stored t es (rw p at a) (once-rest e es o) (λ k s q. free-there e es k (f k s q)))))

-- ---- How many take a slot

-- a number that takes a slot counts
pub slots-le : (es : List Entry) (n : ℕ) → bit (takes_slot (standing (lookup es n))) ≤ used es
unfolding used first_entry
slots-le [] n = omega arith
slots-le (e ∷ es) n = by_bool (holds n e) (λ t. rw t (omega arith)) (λ t. rw t (omega (arith, slots-le es n)))

used_le : (es : List Entry) → used es ≤ length es
unfolding used
used_le [] = omega arith
used_le (e ∷ es) = omega (arith, bit_le (takes_slot (standing e)), used_le es)

-- a free entry is there exactly where not all are used
pub room-is : (es : List Entry) → any is_free es ≡ ltb (used es) (length es)
unfolding any used
room-is [] = refl
room-is (e ∷ es) =
    by_bool (is_free e)
    (λ t. rw t (sym (leb-holds (suc (bit (takes_slot (standing e)) + used es)) (suc (length es)) (omega (arith, rw t at (counted e), used_le es)))))
    (λ t.
    let u : bit (takes_slot (standing e)) + used es ≡ suc (used es) = omega (arith, rw t at (counted e)) in
    rw (t, u, room-is es) (sym (leb-suc-suc (suc (used es)) (length es))))

-- ---- One entry alone

pub free-lookup : (m n : ℕ) → lookup (replicate m Free) n ≡ Free
unfolding first_entry
free-lookup zero n = refl
free-lookup (suc m) n = free-lookup m n

free-once : (m : ℕ) → twice (replicate m Free) ≡ false
unfolding twice
free-once zero = refl
free-once (suc m) = free-once m

free-used : (m : ℕ) → used (replicate m Free) ≡ 0
unfolding used
free-used zero = refl
free-used (suc m) = omega (arith, free-used m)

module _ (e : Entry) where
  pub alone-lookup : (m i n : ℕ) → i < m → lookup (set (replicate m Free) i e) n ≡ cond (holds n e) e Free
  unfolding first_entry
  alone-lookup zero i n l = absurd (omega arith)
  alone-lookup (suc m) zero n l = rw (free-lookup m n)
  alone-lookup (suc m) (suc i) n l = alone-lookup m i n (omega arith)

  pub alone-once : (m i : ℕ) → i < m → twice (set (replicate m Free) i e) ≡ false
  unfolding twice
  alone-once zero i l = absurd (omega arith)
  alone-once (suc m) zero l = once_more e (replicate m Free) (λ n _. free-lookup m n) (free-once m)
  alone-once (suc m) (suc i) l = alone-once m i (omega arith)

  pub alone-used : (m i : ℕ) → i < m → used (set (replicate m Free) i e) ≡ bit (takes_slot (standing e))
  unfolding used
  alone-used zero i l = absurd (omega arith)
  alone-used (suc m) zero l = omega (arith, free-used m)
  alone-used (suc m) (suc i) l = omega (arith, alone-used m i (omega arith))
