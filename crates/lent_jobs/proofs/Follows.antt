-- Calls on a table in bytes, one after the other, answer as the ledger does. Assumes nothing.
use mathlib.Core.Path.{◌≡◌, refl, sym, ap, ap₂, subst, ◌∙◌}
use mathlib.Core.Logic.{◌≢◌}
use mathlib.Core.Bool.{Bool, true}
use mathlib.Core.List.{List, [], ◌∷◌}
use Prim.Native.Nat.{ℕ, zero, suc, ◌^◌}
use lib.Dec.{ltb}
use lib.ListN.{length, set, length-set}
use Rattle.refusals.specs.Refusals.{served, number_zero, must}
use Rattle.combinatorics.specs.Lists.{all, any}
use Rattle.combinatorics.proofs.Cases.{by-eq, by_bool, eqb_same, eqb-other}
use Rattle.combinatorics.proofs.Lists.{both}
use Rattle.cells.specs.Bytes.{byte_values}
use Rattle.jobs.specs.declared.Entry.{Entry}
use Rattle.jobs.specs.declared.Entry.TheVariants.{Free, Open, OnHold, Cancelled}
use Rattle.jobs.specs.declared.Before.{Before}
use Rattle.jobs.specs.declared.Before.TheVariants.{WasAbsent, WasOpen, WasOnHold}
use Rattle.jobs.specs.Jobs.{Kind, opening, cancelling, finishing, reinstating, holding, releasing, Call, is_job}
use Rattle.jobs.specs.Table.{is_free, holds, lookup, empty_table, TableOut, refuse, accept, replace_first, put, add, twice, decide, open_job, open_at, cancel_at}
use Rattle.jobs.specs.Table.{finish_at, restored, reinstate_at, hold_at, release_at, call_as}
use Rattle.ledger.specs.Calls.{call_out, answers_from, table_from}
use Rattle.ledger.specs.Simulation.{Start, empty, zero-open, zero-cancelled, zero-opened-cancelled, zero-on-hold-cancelled}
use Rattle.ledger.proofs.Simulates.{simulation-from-start}
use Rattle.lent_jobs.specs.Table.{number_fits, IsTable, TableOf}
use Rattle.lent_jobs.proofs.TableBack.{table-back, empty-bytes, empty-table}
use Rattle.lent_jobs.specs.Calls.{CallLent, called_as}
use Rattle.lent_jobs.proofs.CallLaws.{as_called}
use Rattle.lent_jobs.specs.Follows.{call_on, answers_on, bytes_after, EmptyBytes, has32_bits, BytesFollow}

-- ---- A call leaves a table, and a refused one the table that it found

module _ (t : Entry → Bool) (x : Entry) where
  length-replaced : (es : List Entry) → length (replace_first t x es) ≡ length es
  unfolding replace_first
  length-replaced [] = refl
  length-replaced (e ∷ es) = by_bool (t e) (λ p. rw p) (λ p. rw p (ap suc (length-replaced es)))

  room-replaced : (es : List Entry) → number_fits x ≡ true → all number_fits es ≡ true → all number_fits (replace_first t x es) ≡ true
  unfolding replace_first all
  room-replaced [] h g = refl
  room-replaced (e ∷ es) h g =
      let b = both (number_fits e) (all number_fits es) g in
      by_bool (t e) (λ p. rw (p, h) b.1) (λ p. rw (p, b.0) (room-replaced es h b.1))

  replaced : (es : List Entry) → number_fits x ≡ true → IsTable es → IsTable (replace_first t x es)
  replaced es h g = record { many = length-replaced es ∙ g.many; numbers = room-replaced es h g.numbers }

record Sound (es : List Entry) (out : TableOut) : Type 0 where
  table : IsTable out.table
  kept : out.answer ≢ served → out.table ≡ es

module _ (es : List Entry) (g : IsTable es) where
  refused : (a : ℕ) → Sound es (refuse es a)
  refused a = record { table = g; kept = λ _. refl }

  accepted : (t : Entry → Bool) (x : Entry) → number_fits x ≡ true → Sound es (accept (replace_first t x es))
  accepted t x h = record { table = replaced t x es h g; kept = λ n. absurd (n refl) }

  stored : (t : Entry → Bool) (x : Entry) → number_fits x ≡ true → Sound es (put t x es)
  unfolding put
  stored t x h = by_bool (any t es) (λ p. rw p (accepted t x h)) (λ p. rw p (refused _))

  module _ (n : ℕ) (h : ltb n (byte_values ^ 4) ≡ true) where
    open-job-sound : (e : Entry) → Sound es (open_job e n es)
    open-job-sound (Cancelled x was) = refused _
    open-job-sound (Open x) = refused _
    open-job-sound (OnHold x) = refused _
    open-job-sound Free = stored is_free (Open n) h

    -- 17 or what comes after it
    job-sound : (o : TableOut) → Sound es o → Sound es (must (is_job n) (refuse es number_zero) o)
    job-sound o s = by_bool (is_job n) (λ j. rw j s) (λ j. rw j (refused number_zero))

    open-sound : (e : Entry) → Sound es (open_at e n es)
    open-sound e = job-sound (open_job e n es) (open-job-sound e)

    cancel-sound : (e : Entry) → Sound es (cancel_at e n es)
    cancel-sound (Cancelled x was) = refused _
    cancel-sound (Open x) = accepted (holds n) (Cancelled n WasOpen) h
    cancel-sound (OnHold x) = accepted (holds n) (Cancelled n WasOnHold) h
    cancel-sound Free = job-sound (add (Cancelled n WasAbsent) es) (stored is_free (Cancelled n WasAbsent) h)

    finish-sound : (e : Entry) → Sound es (finish_at e n es)
    finish-sound (Cancelled x was) = refused _
    finish-sound (OnHold x) = refused _
    finish-sound (Open x) = accepted (holds n) Free refl
    finish-sound Free = refused _

    restored-room : (was : Before) → number_fits (restored was n) ≡ true
    restored-room WasAbsent = refl
    restored-room WasOpen = h
    restored-room WasOnHold = h

    reinstate-sound : (e : Entry) → Sound es (reinstate_at e n es)
    reinstate-sound (Cancelled x was) = accepted (holds n) (restored was n) (restored-room was)
    reinstate-sound (Open x) = refused _
    reinstate-sound (OnHold x) = refused _
    reinstate-sound Free = refused _

    hold-sound : (e : Entry) → Sound es (hold_at e n es)
    hold-sound (Cancelled x was) = refused _
    hold-sound (OnHold x) = refused _
    hold-sound (Open x) = accepted (holds n) (OnHold n) h
    hold-sound Free = refused _

    release-sound : (e : Entry) → Sound es (release_at e n es)
    release-sound (Cancelled x was) = refused _
    release-sound (OnHold x) = accepted (holds n) (Open n) h
    release-sound (Open x) = refused _
    release-sound Free = refused _

    decided : (by_entry : Entry → ℕ → List Entry → TableOut) → Sound es (by_entry (lookup es n) n es) → Sound es (decide by_entry es n)
    unfolding decide
    decided by_entry s = by_bool (twice es) (λ p. rw p (refused _)) (λ p. rw p s)

    call-sound : (k : Kind) → Sound es (call_as k es n)
    call-sound opening = decided open_at (open-sound (lookup es n))
    call-sound cancelling = decided cancel_at (cancel-sound (lookup es n))
    call-sound finishing = decided finish_at (finish-sound (lookup es n))
    call-sound reinstating = decided reinstate_at (reinstate-sound (lookup es n))
    call-sound holding = decided hold_at (hold-sound (lookup es n))
    call-sound releasing = decided release_at (release-sound (lookup es n))

-- ---- So a call on the bytes is one on the table

one-call : (bytes : List ℕ) (es : List Entry) → TableOf bytes es → (c : Call) → call_on bytes c ≡ called_as bytes (call_out es c)
one-call bytes es b c =
    as_called (call_as c.kind) bytes c.number b.size b.known (call_out es c)
    (ap (λ (x : List Entry). call_as c.kind x c.number) (sym b.same))

-- the answer is the call's, and the bytes hold the table that it hands back: those written, or after a refusal those that were there
record Left (o : CallLent) (out : TableOut) : Type 0 where
  answer : o.answer ≡ out.answer
  holds-table : TableOf o.table out.table

call-left : (bytes : List ℕ) (es : List Entry) → TableOf bytes es → IsTable es → (c : Call) → has32_bits c ≡ true → Left (call_on bytes c) (call_out es c)
call-left bytes es b g c h =
    let out = call_out es c in
    let s = call-sound es g c.number h c.kind in
    subst (λ (o : CallLent). Left o out) (sym (one-call bytes es b c))
    (by-eq out.answer served (λ _. Left (called_as bytes out) out)
    (λ a. rw (eqb_same out.answer served a) (record { answer = sym a; holds-table = table-back out.table s.table }))
    (λ a. rw (eqb-other out.answer served a) (record { answer = refl; holds-table = subst (TableOf bytes) (sym (s.kept a)) b })))

-- ---- and so are many

record Alike (bytes : List ℕ) (es : List Entry) (calls : List Call) : Type 0 where
  pub answers : answers_on bytes calls ≡ answers_from es calls
  pub after : TableOf (bytes_after bytes calls) (table_from es calls)

calls-alike : (calls : List Call) (bytes : List ℕ) (es : List Entry) → TableOf bytes es → IsTable es → all has32_bits calls ≡ true → Alike bytes es calls
unfolding all answers_on bytes_after answers_from table_from
calls-alike [] bytes es b g h = record { answers = refl; after = b }
calls-alike (c ∷ cs) bytes es b g h =
    let n = both (has32_bits c) (all has32_bits cs) h in
    let l = call-left bytes es b g c n.0 in
    let r = calls-alike cs (call_on bytes c).table (call_out es c).table l.holds-table (call-sound es g c.number n.0 c.kind).table n.1 in
    record { answers = ap₂ {C = List ℕ} ◌∷◌ l.answer r.answers; after = r.after }

-- ---- from every start

room-set : (es : List Entry) (i : ℕ) (x : Entry) → number_fits x ≡ true → all number_fits es ≡ true → all number_fits (set es i x) ≡ true
unfolding all
room-set [] i x h g = refl
room-set (e ∷ es) zero x h g = rw h (both (number_fits e) (all number_fits es) g).1
room-set (e ∷ es) (suc i) x h g = let b = both (number_fits e) (all number_fits es) g in rw b.0 (room-set es i x h b.1)

alone-table : (i : ℕ) (x : Entry) → number_fits x ≡ true → IsTable (set empty_table i x)
alone-table i x h = record { many = length-set empty_table i x; numbers = room-set empty_table i x h empty-table.numbers }

pub start-table : (es : List Entry) (before : List Call) → Start es before → IsTable es
start-table es before empty = empty-table
start-table es before (zero-open i l) = alone-table i (Open 0) refl
start-table es before (zero-cancelled i l) = alone-table i (Cancelled 0 WasAbsent) refl
start-table es before (zero-opened-cancelled i l) = alone-table i (Cancelled 0 WasOpen) refl
start-table es before (zero-on-hold-cancelled i l) = alone-table i (Cancelled 0 WasOnHold) refl

pub empty-bytes-hold : EmptyBytes
empty-bytes-hold = subst (λ (bytes : List ℕ). TableOf bytes empty_table) empty-bytes (table-back empty_table empty-table)

module _ (bytes : List ℕ) (es : List Entry) (before : List Call) (b : TableOf bytes es) (s : Start es before) (calls : List Call)
    (h : all has32_bits calls ≡ true) where
  alike : Alike bytes es calls
  alike = calls-alike calls bytes es b (start-table es before s) h

  -- the bytes that the last call leaves are a table's
  pub bytes_left : TableOf (bytes_after bytes calls) (table_from es calls)
  bytes_left = alike.after

pub bytes-follow : BytesFollow
bytes-follow bytes es before b s calls h =
    let a = alike bytes es before b s calls h in
    rw (a.answers, a.after.same) (simulation-from-start es before s calls)
