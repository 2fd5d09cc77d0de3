-- A cancellation that is taken back, and a hold that is released, leave the table as it was, slot for slot. Assumes nothing.
use mathlib.Core.Path.{◌≡◌, refl, sym, ap, ◌∙◌}
use mathlib.Core.Bool.{Bool, true, false, true≢false}
use mathlib.Core.List.{List, [], ◌∷◌}
use Prim.Native.Nat.{ℕ}
use native.Mathlib.Omega.{arith}
use lib.Dec.{eqb}
use Rattle.refusals.specs.Refusals.{served, invalid, job_cancelled, not_open, table_full, number_zero, job_held}
use Rattle.combinatorics.specs.Lists.{any}
use Rattle.combinatorics.proofs.Cases.{by_bool, eqb_same, eqb-true}
use Rattle.jobs.specs.declared.Entry.{Entry}
use Rattle.jobs.specs.declared.Entry.TheVariants.{Free, Open, OnHold, Cancelled}
use Rattle.jobs.specs.declared.Before.{Before}
use Rattle.jobs.specs.declared.Before.TheVariants.{WasAbsent, WasOpen, WasOnHold}
use Rattle.jobs.specs.Jobs.{is_job}
use Rattle.jobs.specs.Table.{is_free, holds, first_entry, lookup, replace_first, accept, put, twice, decide, restored, cancel_at, hold_at, reinstate_out}
use Rattle.jobs.specs.Table.{release_out, Restores, TurnsBack}
use Rattle.jobs.proofs.Entries.{free-is, any-holds, entry-passes, holds-only, free-entry, free-here, free-there, Stored, stored}

-- ---- Two stores at one place

-- what stood at the first that passes is put back
back : (t : Entry → Bool) (x : Entry) → t x ≡ true → (es : List Entry) → replace_first t (first_entry t es) (replace_first t x es) ≡ es
unfolding replace_first first_entry
back t x p [] = refl
back t x p (e ∷ es) = by_bool (t e) (λ q. rw (q, p)) (λ q. rw (q, q) (ap {B = List Entry} (λ r. e ∷ r) (back t x p es)))

-- a number that was added is taken out again
taken_out : (n : ℕ) (x : Entry) → holds n x ≡ true → (es : List Entry) → lookup es n ≡ Free → replace_first (holds n) Free (replace_first is_free x es) ≡ es
unfolding replace_first
taken_out n x p [] l = refl
taken_out n x p (e ∷ es) l =
    by_bool (is_free e) (λ q. rw (q, p) (ap {B = List Entry} (λ f. f ∷ es) (sym (free-is e q))))
    (λ q. rw (q, free-here e es n l) (ap {B = List Entry} (λ r. e ∷ r) (taken_out n x p es (free-there e es n l))))

module _ (es : List Entry) (n : ℕ) (once : twice es ≡ false) where
  -- the number's entry becomes another of its own
  own-stored : (new e : Entry) → lookup es n ≡ e → is_free e ≡ false → ((k : ℕ) → holds k new ≡ eqb n k) → Stored es (replace_first (holds n) new es) e new
  own-stored new e l full own =
      let f : is_free (lookup es n) ≡ false = ap is_free l ∙ full in
      let there : any (holds n) es ≡ true = rw (any-holds es n, f) in
      rw l at
      (stored new (holds n) es there once
      (λ k p q. absurd (true≢false (sym (sym (own k) ∙ p) ∙ sym (holds-only (lookup es n) n k (entry-passes (holds n) es f)) ∙ q))))

  -- or it is added
  added : (new : Entry) → lookup es n ≡ Free → any is_free es ≡ true → ((k : ℕ) → holds k new ≡ eqb n k) → Stored es (replace_first is_free new es) Free new
  added new l room own = rw (free-entry es) at (stored new is_free es room once (λ k p _. rw (eqb-true n k (sym (own k) ∙ p)) at l))

  found-new : (next : List Entry) (old new : Entry) → Stored es next old new → holds n new ≡ true → lookup next n ≡ new
  found-new next old new s p = s.at n ∙ rw p

  reinstates : (next : List Entry) (was : Before) → lookup next n ≡ Cancelled n was → twice next ≡ false → replace_first (holds n) (restored was n) next ≡ es
      → reinstate_out next n ≡ accept es
  unfolding decide
  reinstates next was l o e = rw (o, l, e)

  releases : (next : List Entry) → lookup next n ≡ OnHold n → twice next ≡ false → replace_first (holds n) (Open n) next ≡ es → release_out next n ≡ accept es
  unfolding decide
  releases next l o e = rw (o, l, e)

  -- the entry of the number, put back under its own number
  put_back : (new e : Entry) → lookup es n ≡ e → holds n new ≡ true → replace_first (holds n) e (replace_first (holds n) new es) ≡ es
  put_back new e l p = ap (λ (f : Entry). replace_first (holds n) f (replace_first (holds n) new es)) (sym l) ∙ back (holds n) new p es

  self : eqb n n ≡ true
  self = eqb_same n n refl

  open-number : (x : ℕ) → lookup es n ≡ Open x → lookup es n ≡ Open n
  open-number x l = l ∙ ap {B = Entry} Open (eqb-true x n (rw l at (entry-passes (holds n) es (ap is_free l))))

  on-hold-number : (x : ℕ) → lookup es n ≡ OnHold x → lookup es n ≡ OnHold n
  on-hold-number x l = l ∙ ap {B = Entry} OnHold (eqb-true x n (rw l at (entry-passes (holds n) es (ap is_free l))))

  cancelled-own : (was : Before) → lookup es n ≡ restored was n → is_free (restored was n) ≡ false
      → reinstate_out (replace_first (holds n) (Cancelled n was) es) n ≡ accept es
  cancelled-own was l full =
      let s = own-stored (Cancelled n was) (restored was n) l full (λ k. refl) in
      reinstates (replace_first (holds n) (Cancelled n was) es) was (found-new _ _ _ s self) s.once (put_back (Cancelled n was) (restored was n) l self)

  cancelled-new : lookup es n ≡ Free → any is_free es ≡ true → reinstate_out (replace_first is_free (Cancelled n WasAbsent) es) n ≡ accept es
  cancelled-new l room =
      let s = added (Cancelled n WasAbsent) l room (λ k. refl) in
      reinstates (replace_first is_free (Cancelled n WasAbsent) es) WasAbsent (found-new _ _ _ s self) s.once (taken_out n (Cancelled n WasAbsent) self es l)

  by-cancelled : (e : Entry) → lookup es n ≡ e → (cancel_at e n es).answer ≡ served → reinstate_out (cancel_at e n es).table n ≡ accept es
  unfolding put
  by-cancelled (Cancelled x was) l a = absurd (let z : job_cancelled ≡ served = a in omega arith)
  by-cancelled (Open x) l a = cancelled-own WasOpen (open-number x l) refl
  by-cancelled (OnHold x) l a = cancelled-own WasOnHold (on-hold-number x l) refl
  by-cancelled Free l a =
      by_bool (is_job n)
      (λ j. by_bool (any is_free es) (λ t. rw (j, t) (cancelled-new l t)) (λ t. absurd (let z : table_full ≡ served = rw (j, t) at a in omega arith)))
      (λ j. absurd (let z : number_zero ≡ served = rw j at a in omega arith))

  by-hold : (e : Entry) → lookup es n ≡ e → (hold_at e n es).answer ≡ served → release_out (hold_at e n es).table n ≡ accept es
  by-hold (Cancelled x was) l a = absurd (let z : job_cancelled ≡ served = a in omega arith)
  by-hold (OnHold x) l a = absurd (let z : job_held ≡ served = a in omega arith)
  by-hold Free l a = absurd (let z : not_open ≡ served = a in omega arith)
  by-hold (Open x) l a =
      let m = open-number x l in
      let s = own-stored (OnHold n) (Open n) m refl (λ k. refl) in
      releases (replace_first (holds n) (OnHold n) es) (found-new _ _ _ s self) s.once (put_back (OnHold n) (Open n) m self)

-- ---- 1 is refused before, and then the entry decides

pub restores : Restores
unfolding decide
restores es n a =
    by_bool (twice es) (λ t. absurd (let z : invalid ≡ served = rw t at a in omega arith))
    (λ t. rw t (by-cancelled es n t (lookup es n) refl (rw t at a)))

pub turns-back : TurnsBack
unfolding decide
turns-back es n a =
    by_bool (twice es) (λ t. absurd (let z : invalid ≡ served = rw t at a in omega arith))
    (λ t. rw t (by-hold es n t (lookup es n) refl (rw t at a)))
