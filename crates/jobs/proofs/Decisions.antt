-- Each call looks for a number held twice, and then the number's entry decides. Assumes nothing.
use mathlib.Core.Path.{◌≡◌, refl, sym, ap, ◌∙◌}
use mathlib.Core.Bool.{Bool, true, false, not}
use mathlib.Core.List.{List}
use Prim.Native.Nat.{ℕ}
use Rattle.refusals.specs.Refusals.{invalid, number_zero, must}
use Rattle.jobs.specs.declared.Entry.{Entry}
use Rattle.jobs.specs.declared.Entry.TheVariants.{Free, Open, OnHold, Cancelled}
use Rattle.jobs.specs.Jobs.{is_job}
use Rattle.jobs.specs.Table.{is_free, holds, lookup, twice, TableOut, refuse, accept, replace_first, put, decide}
use Rattle.jobs.specs.Table.{finish_at, hold_at, turn_open_at, finish_out, hold_out}
use Rattle.jobs.proofs.Entries.{any-holds}

-- what the entry `e` of a number gives is the call's outcome; an entry that holds its number is there to be replaced
pub record Decided (by_entry : Entry → ℕ → List Entry → TableOut) (es : List Entry) (n : ℕ) (e : Entry) : Type 0 where
  pub gives : (f : Entry) → e ≡ f → by_entry f n es ≡ decide by_entry es n
  pub stores : (x f : Entry) → e ≡ f → is_free f ≡ false → accept (replace_first (holds n) x es) ≡ by_entry f n es → put (holds n) x es ≡ decide by_entry es n

module _ (by_entry : Entry → ℕ → List Entry → TableOut) (es : List Entry) (n : ℕ) {b : Bool} (t : b ≡ twice es) where
  pub twice-refused : b ≡ true → refuse es invalid ≡ decide by_entry es n
  unfolding decide
  twice-refused p = rw (sym t ∙ p)

  module _ {e : Entry} (once : b ≡ false) (l : e ≡ lookup es n) where
    entry_gives : (f : Entry) → e ≡ f → by_entry f n es ≡ decide by_entry es n
    unfolding decide
    entry_gives f g = rw (sym t ∙ once, sym l ∙ g)

    held : (x f : Entry) → e ≡ f → is_free f ≡ false → put (holds n) x es ≡ accept (replace_first (holds n) x es)
    unfolding put
    held x f g p = rw (any-holds es n, sym l ∙ g, p)

    pub entry-decides : Decided by_entry es n e
    entry-decides = record { gives = entry_gives; stores = λ x f g p o. held x f g p ∙ o ∙ entry_gives f g }

-- ---- 0 is no job

module _ (es : List Entry) (n : ℕ) (rest : TableOut) {j : Bool} (is : j ≡ is_job n) where
  pub zero-refused : j ≡ false → refuse es number_zero ≡ must (is_job n) (refuse es number_zero) rest
  zero-refused z = rw (sym is ∙ z)

  pub job-passes : j ≡ true → rest ≡ must (is_job n) (refuse es number_zero) rest
  job-passes z = rw (sym is ∙ z)

-- ---- Finishing and holding turn an open number's entry

module _ (es : List Entry) (n : ℕ) where
  finish-turns : (e : Entry) → turn_open_at Free e n es ≡ finish_at e n es
  finish-turns Free = refl
  finish-turns (Open x) = refl
  finish-turns (OnHold x) = refl
  finish-turns (Cancelled x was) = refl

  hold-turns : (e : Entry) → turn_open_at (OnHold n) e n es ≡ hold_at e n es
  hold-turns Free = refl
  hold-turns (Open x) = refl
  hold-turns (OnHold x) = refl
  hold-turns (Cancelled x was) = refl

  -- calls that give the same for the number's entry have one outcome
  alike : (f g : Entry → ℕ → List Entry → TableOut) → f (lookup es n) n es ≡ g (lookup es n) n es → decide f es n ≡ decide g es n
  unfolding decide
  alike f g h = ap (λ (o : TableOut). must (not (twice es)) (refuse es invalid) o) h

  pub finish-out : decide (turn_open_at Free) es n ≡ finish_out es n
  finish-out = alike (turn_open_at Free) finish_at (finish-turns (lookup es n))

  pub hold-out : decide (turn_open_at (OnHold n)) es n ≡ hold_out es n
  hold-out = alike (turn_open_at (OnHold n)) hold_at (hold-turns (lookup es n))
