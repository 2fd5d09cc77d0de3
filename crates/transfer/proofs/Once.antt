-- A call keeps whether the table holds a number twice: 1 is refused, and no other call puts a number in that is there. Assumes nothing.
use mathlib.Core.Path.{◌≡◌, refl, sym, ap, ◌∙◌}
use mathlib.Core.Bool.{true, false, true≢false, false≢true}
use mathlib.Core.List.{List}
use mathlib.Core.Option.{Option, none, some}
use Prim.Native.Nat.{ℕ}
use lib.Dec.{eqb}
use Rattle.combinatorics.specs.Lists.{any}
use Rattle.combinatorics.proofs.Cases.{by_bool, eqb-true}
use Rattle.jobs.specs.declared.Entry.{Entry}
use Rattle.jobs.specs.declared.Entry.TheVariants.{Free, Open, OnHold, Cancelled}
use Rattle.jobs.specs.declared.Before.{Before}
use Rattle.jobs.specs.declared.Before.TheVariants.{WasAbsent, WasOpen, WasOnHold}
use Rattle.jobs.specs.Jobs.{Kind, opening, cancelling, finishing, reinstating, holding, releasing, is_job}
use Rattle.jobs.specs.Letters.{call_by}
use Rattle.jobs.specs.Table.{is_free, holds, lookup, replace_first, put, add, twice, decide, open_job, restored, call_as}
use Rattle.jobs.proofs.Entries.{any-holds, entry-passes, holds-only, stored}

module _ (es : List Entry) (n : ℕ) (once : twice es ≡ false) where
  -- an entry of the number's own takes the place of the one that is there, or none does
  instead : (new : Entry) → ((k : ℕ) → holds k new ≡ true → eqb n k ≡ true) → (e : Entry) → lookup es n ≡ e → is_free e ≡ false
      → twice (replace_first (holds n) new es) ≡ false
  instead new own e l full =
      let f : is_free (lookup es n) ≡ false = ap is_free l ∙ full in
      let old : (k : ℕ) → holds k (lookup es n) ≡ eqb n k = λ k. holds-only (lookup es n) n k (entry-passes (holds n) es f) in
      let there : any (holds n) es ≡ true = rw (any-holds es n, f) in
      (stored new (holds n) es there once (λ k p q. absurd (true≢false (sym (own k p) ∙ sym (old k) ∙ q)))).once

  -- a number that is not there is added
  added : (new : Entry) → ((k : ℕ) → holds k new ≡ eqb n k) → lookup es n ≡ Free → twice (add new es).table ≡ false
  unfolding put
  added new own l =
      by_bool (any is_free es) (λ t. rw t (stored new is_free es t once (λ k p _. rw (eqb-true n k (sym (own k) ∙ p)) at l)).once) (λ t. rw t once)

  open-once : (e : Entry) → lookup es n ≡ e → twice (open_job e n es).table ≡ false
  open-once (Cancelled x was) l = once
  open-once (Open x) l = once
  open-once (OnHold x) l = once
  open-once Free l = added (Open n) (λ k. refl) l

  restored-once : (x : ℕ) (was : Before) → lookup es n ≡ Cancelled x was → twice (replace_first (holds n) (restored was n) es) ≡ false
  restored-once x WasAbsent l = instead Free (λ k p. absurd (false≢true p)) (Cancelled x WasAbsent) l refl
  restored-once x WasOpen l = instead (Open n) (λ k p. p) (Cancelled x WasOpen) l refl
  restored-once x WasOnHold l = instead (OnHold n) (λ k p. p) (Cancelled x WasOnHold) l refl

  call-once : (k : Kind) (e : Entry) → lookup es n ≡ e → twice (call_as k es n).table ≡ false
  unfolding decide
  call-once opening e l = by_bool (is_job n) (λ job. rw (once, job, l) (open-once e l)) (λ zero. rw (once, zero) once)
  call-once cancelling (Cancelled x was) l = rw (once, l) once
  call-once cancelling (Open x) l = rw (once, l) (instead (Cancelled n WasOpen) (λ k p. p) (Open x) l refl)
  call-once cancelling (OnHold x) l = rw (once, l) (instead (Cancelled n WasOnHold) (λ k p. p) (OnHold x) l refl)
  call-once cancelling Free l =
      by_bool (is_job n) (λ job. rw (once, l, job) (added (Cancelled n WasAbsent) (λ k. refl) l)) (λ zero. rw (once, l, zero) once)
  call-once finishing (Cancelled x was) l = rw (once, l) once
  call-once finishing (Open x) l = rw (once, l) (instead Free (λ k p. absurd (false≢true p)) (Open x) l refl)
  call-once finishing (OnHold x) l = rw (once, l) once
  call-once finishing Free l = rw (once, l) once
  call-once reinstating (Cancelled x was) l = rw (once, l) (restored-once x was l)
  call-once reinstating (Open x) l = rw (once, l) once
  call-once reinstating (OnHold x) l = rw (once, l) once
  call-once reinstating Free l = rw (once, l) once
  call-once holding (Cancelled x was) l = rw (once, l) once
  call-once holding (OnHold x) l = rw (once, l) once
  call-once holding (Open x) l = rw (once, l) (instead (OnHold n) (λ k p. p) (Open x) l refl)
  call-once holding Free l = rw (once, l) once
  call-once releasing (Cancelled x was) l = rw (once, l) once
  call-once releasing (OnHold x) l = rw (once, l) (instead (Open n) (λ k p. p) (OnHold x) l refl)
  call-once releasing (Open x) l = rw (once, l) once
  call-once releasing Free l = rw (once, l) once

-- a table with a number twice is handed back as it is
call-invalid : (es : List Entry) (n : ℕ) → twice es ≡ true → (k : Kind) → (call_as k es n).table ≡ es
unfolding decide
call-invalid es n t opening = rw t
call-invalid es n t cancelling = rw t
call-invalid es n t finishing = rw t
call-invalid es n t reinstating = rw t
call-invalid es n t holding = rw t
call-invalid es n t releasing = rw t

pub call-twice : (es : List Entry) (n : ℕ) (k : Option Kind) → twice (call_by k es n).table ≡ twice es
call-twice es n none = refl
call-twice es n (some k) =
    by_bool (twice es) (λ t. ap twice (call-invalid es n t k)) (λ t. call-once es n t k (lookup es n) refl ∙ sym t)
