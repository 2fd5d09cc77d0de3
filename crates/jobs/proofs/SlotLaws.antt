-- The slot that a search finds, and a store to it. Assumes nothing.
use mathlib.Core.Path.{◌≡◌, refl, sym, ap}
use mathlib.Core.Bool.{Bool, true, false, cond}
use mathlib.Core.List.{List, [], ◌∷◌}
use Prim.Native.Nat.{ℕ, suc, ◌+◌, ◌-◌, ◌≤◌, ◌<◌}
use native.Mathlib.Numerals.{add-one}
use native.Mathlib.Omega.{arith}
use lib.Dec.{ltb, leb-suc-suc}
use lib.ListN.{length, get_or, set, take, drop, drop_of_length-le, length-drop}
use lib.Seq.{drop-cons, take_all}
use Rattle.std.specs.Prelude.{None, Some, position}
use Rattle.std.specs.List.{position_or_len, list_any}
use Rattle.refusals.specs.Refusals.{table_full}
use Rattle.combinatorics.specs.Lists.{any}
use Rattle.combinatorics.proofs.Cases.{by_bool, by_le, leb-holds, leb-fails}
use Rattle.jobs.specs.declared.Entry.{Entry}
use Rattle.jobs.specs.declared.Entry.TheVariants.{Free}
use Rattle.jobs.specs.declared.JobTable.{JobTable}
use Rattle.jobs.specs.Jobs.{slot_count}
use Rattle.jobs.specs.Table.{first_entry, again, twice, replace_first, refuse, accept, put}
use Rattle.jobs.specs.Slots.{entries}

-- ---- Lists of entries, by the index of the first that passes a test

pub any-listed : (t : Entry → Bool) (es : List Entry) → list_any t es ≡ any t es
unfolding any
any-listed t [] = refl
any-listed t (e ∷ es) = rw (any-listed t es)

-- one passes where the first place that does lies before the end
pub any-is : (t : Entry → Bool) (es : List Entry) → any t es ≡ ltb (position_or_len t es) (length es)
unfolding any
any-is t [] = refl
any-is t (e ∷ es) =
    by_bool (t e) (λ p. rw p (sym (leb-holds 1 (suc (length es)) (omega arith))))
    (λ p.
    let s : 1 + position_or_len t es ≡ suc (position_or_len t es) = omega arith in
    rw (p, s, any-is t es) (sym (leb-suc-suc (suc (position_or_len t es)) (length es))))

replace-is : (t : Entry → Bool) (x : Entry) (es : List Entry) → position_or_len t es < length es → replace_first t x es ≡ set es (position_or_len t es) x
unfolding replace_first
replace-is t x [] h = absurd (omega arith)
replace-is t x (e ∷ es) h =
    by_bool (t e) (λ p. rw p)
    (λ p.
    let s : 1 + position_or_len t es ≡ suc (position_or_len t es) = omega arith in
    rw (p, s) (ap {B = List Entry} (λ r. e ∷ r) (replace-is t x es (omega (arith, rw p at h)))))

entry_at : (t : Entry → Bool) (es : List Entry) (d : Entry) → position_or_len t es < length es → first_entry t es ≡ get_or es (position_or_len t es) d
unfolding first_entry
entry_at t [] d h = absurd (omega arith)
entry_at t (e ∷ es) d h = by_bool (t e) (λ p. rw p)
    (λ p.
    let s : 1 + position_or_len t es ≡ suc (position_or_len t es) = omega arith in
    rw (p, s) (entry_at t es d (omega (arith, rw p at h))))

no-entry : (t : Entry → Bool) (es : List Entry) → length es ≤ position_or_len t es → first_entry t es ≡ Free
unfolding first_entry
no-entry t [] h = refl
no-entry t (e ∷ es) h = by_bool (t e) (λ p. absurd (omega (arith, rw p at h))) (λ p. rw p (no-entry t es (omega (arith, rw p at h))))

-- ---- What a search says

module _ (t : Entry → Bool) (es : List Entry) where
  at-some : (i : ℕ) → Some i ≡ position t es → (position_or_len t es < length es) × (i ≡ position_or_len t es)
  at-some i p =
      by_le (suc (position_or_len t es)) (length es)
      (λ b. Some i ≡ cond b (Some (position_or_len t es)) None → (position_or_len t es < length es) × (i ≡ position_or_len t es))
      (λ h q. (h, cc)) (λ h q. absurd (cc)) p

  at-none : None ≡ position t es → length es ≤ position_or_len t es
  at-none p =
      by_le (suc (position_or_len t es)) (length es) (λ b. None ≡ cond b (Some (position_or_len t es)) None → length es ≤ position_or_len t es)
      (λ h q. absurd (cc)) (λ h q. omega arith) p

  pub put-found : (x : Entry) (i : ℕ) → Some i ≡ position t es → accept (set es i x) ≡ put t x es
  unfolding put
  put-found x i p =
      let a = at-some i p in
      rw (any-is t es, leb-holds (suc (position_or_len t es)) (length es) a.0, a.1) (ap (λ (r : List Entry). accept r) (sym (replace-is t x es a.0)))

  pub put-none : (x : Entry) → None ≡ position t es → refuse es table_full ≡ put t x es
  unfolding put
  put-none x p = let h = at-none p in rw (any-is t es, leb-fails (suc (position_or_len t es)) (length es) (omega arith))

  -- the entry of the slot that was found
  pub entry-found : (i : ℕ) (d : Entry) → Some i ≡ position t es → get_or es i d ≡ first_entry t es
  entry-found i d p = let a = at-some i p in rw a.1 (sym (entry_at t es d a.0))

  pub entry-missing : None ≡ position t es → Free ≡ first_entry t es
  entry-missing p = sym (no-entry t es (at-none p))

-- the slots from one on to the end
pub rest-is : (i : ℕ) (es : List Entry) → take (length es - i) (drop i es) ≡ drop i es
rest-is i es = take_all (length es - i) (drop i es) (omega (arith, length-drop i es))

-- ---- One turn of a loop over the slots

module _ (t : JobTable) (long : length t.slots ≡ slot_count) (i : ℕ) where
  pub past_end : slot_count ≤ i → drop i (entries t) ≡ []
  past_end h = drop_of_length-le (entries t) {i = i} (omega (arith, long))

  pub twice-end : slot_count ≤ i → twice (drop i (entries t)) ≡ false
  unfolding twice
  twice-end h = rw (past_end h)

  module _ (d : Entry) (h : i < slot_count) where
    pub this-slot : drop i (entries t) ≡ get_or t.slots i d ∷ drop (i + 1) (entries t)
    this-slot = rw (add-one, drop-cons (entries t) i d (omega (arith, long)))

    pub twice-here : again (drop (i + 1) (entries t)) (get_or t.slots i d) ≡ true → twice (drop i (entries t)) ≡ true
    unfolding twice
    twice-here p = rw (this-slot, p)

    pub twice-later : again (drop (i + 1) (entries t)) (get_or t.slots i d) ≡ false → twice (drop i (entries t)) ≡ twice (drop (i + 1) (entries t))
    unfolding twice
    twice-later p = rw (this-slot, p)
