-- The table answers as the ledger does and stands for it: one call, then every list. Assumes nothing.
use mathlib.Core.Path.{◌≡◌, refl, sym, ap, ap₂, ◌∙◌}
use mathlib.Core.Bool.{Bool, true, false, cond, true≢false, false≢true}
use mathlib.Core.List.{List, [], ◌∷◌}
use Prim.Native.Nat.{ℕ, ◌<◌}
use native.Mathlib.Omega.{arith}
use lib.Dec.{eqb}
use lib.ListN.{set, length-set}
use Rattle.refusals.specs.Refusals.{served, must, job_cancelled, already_open, not_open, table_full, number_zero, not_cancelled, job_held, not_held}
use Rattle.combinatorics.specs.Lists.{any}
use Rattle.combinatorics.specs.Stretch.{bit}
use Rattle.combinatorics.proofs.Cases.{by-eq, by_bool, eqb_same, eqb-true}
use Rattle.jobs.specs.declared.Entry.{Entry}
use Rattle.jobs.specs.declared.Entry.TheVariants.{Free, Open, OnHold, Cancelled}
use Rattle.jobs.specs.declared.Before.{Before}
use Rattle.jobs.specs.declared.Before.TheVariants.{WasAbsent, WasOpen, WasOnHold}
use Rattle.jobs.specs.Jobs.{slot_count, Kind, opening, cancelling, finishing, reinstating, holding, releasing, Call, on, is_job, Status, unknown, takes_slot}
use Rattle.jobs.specs.Table.{standing, is_free, holds, lookup, used, empty_table, TableOut, refuse, accept, replace_first, put, add, twice, decide, open_job}
use Rattle.jobs.specs.Table.{restored, call_as}
use Rattle.ledger.specs.Calls.{call_out, answers_from, table_from}
use Rattle.ledger.specs.Ledger.{history_of, after, status_of, status, lawful, slots_taken, judge, accepts, verdict, enter, verdicts_from, ledger_from}
use Rattle.ledger.specs.Ledger.{accepted_by}
use Rattle.ledger.specs.Simulation.{Agrees, Simulation, Start, empty, zero-open, zero-cancelled, zero-opened-cancelled, zero-on-hold-cancelled}
use Rattle.ledger.specs.Simulation.{SimulationFromStart}
use Rattle.jobs.proofs.Entries.{any-holds, entry-passes, holds-only, free-entry, Stored, stored, slots-le, room-is, free-lookup, alone-lookup, alone-once}
use Rattle.jobs.proofs.Entries.{alone-used}

-- one call's outcome is what the ledger says
pub record Alike (o : TableOut) (h : List Call) (c : Call) : Type 0 where
  pub answer : o.answer ≡ verdict h c
  pub agrees : Agrees o.table (enter h c)

-- ---- One call, by what the table has of its number

module _ (es : List Entry) (h : List Call) (g : Agrees es h) (c : Call) where
  -- the ledger's verdict, read off the table
  judged : {e : Entry} → lookup es c.number ≡ e → verdict h c ≡ judge c.kind (is_job c.number) (standing e) (any is_free es)
  unfolding verdict
  judged l = rw (← l, g.same c.number, room-is es, g.slots, g.count)

  -- a refusal leaves both alone
  refused : (a : ℕ) → eqb a served ≡ false → verdict h c ≡ a → Alike (refuse es a) h c
  unfolding enter
  refused a z v = record { answer = sym v; agrees = rw (v, z) g }

  -- one store in the table is one call more in the ledger
  accepted : (next : List Entry) (old new : Entry) → Stored es next old new → standing old ≡ standing (lookup es c.number)
      → ((k : ℕ) → lookup next k ≡ cond (eqb c.number k) new (lookup es k)) → standing new ≡ after c.kind (standing (lookup es c.number))
      → accepts c.kind (standing (lookup es c.number)) ≡ true → verdict h c ≡ served → Alike (accept next) h c
  unfolding enter history_of status_of status lawful slots_taken
  accepted next old new s was at now taken v =
      let share : Status → ℕ = λ x. bit (takes_slot x) in
      let found = g.same c.number in
      let new_is : standing new ≡ after c.kind (status h c.number) = now ∙ ap (after c.kind) found in
      record {
        answer = sym v;
        agrees = rw v
            (record {
              slots = s.slots ∙ g.slots;
              same = λ k. rw (at k)
                  (by-eq c.number k (λ t. standing (cond t new (lookup es k)) ≡ status_of (cond t (c.kind ∷ history_of h k) (history_of h k)))
                  (λ d. new_is ∙ ap (λ (x : ℕ). after c.kind (status h x)) d) (λ _. g.same k));
              once = s.once;
              count = rw (eqb_same c.number c.number refl, ← new_is)
                  (omega (arith, s.count, g.count, slots-le es c.number, ap share was, ap share found));
              accepted = λ k.
                  by-eq c.number k (λ t. lawful (cond t (c.kind ∷ history_of h k) (history_of h k)) ≡ true)
                  (λ d. rw (g.accepted k, ← d, ← found, taken)) (λ _. g.accepted k);
            });
      }

  -- an unknown number
  added : (new : Entry) → lookup es c.number ≡ Free → ((k : ℕ) → holds k new ≡ eqb c.number k) → standing new ≡ after c.kind unknown
      → accepts c.kind unknown ≡ true → judge c.kind (is_job c.number) unknown (any is_free es) ≡ must (any is_free es) table_full served
      → Alike (add new es) h c
  unfolding put
  added new l own now taken j =
      by_bool (any is_free es)
      (λ t.
      let s : Stored es (replace_first is_free new es) Free new =
      rw (free-entry es) at (stored new is_free es t g.once (λ k p _. rw (eqb-true c.number k (sym (own k) ∙ p)) at l)) in
      rw t (accepted (replace_first is_free new es) Free new s (ap standing (sym l)) (λ k. s.at k ∙ rw (own k)) (rw l now) (rw l taken) (judged l ∙ j ∙ rw t)))
      (λ t. rw t (refused table_full refl (judged l ∙ j ∙ rw t)))

  -- a number that takes a slot: its entry changes, or goes
  changed : (new : Entry) (e : Entry) → lookup es c.number ≡ e → is_free e ≡ false
      → ((k : ℕ) (r : Entry) → cond (holds k new) new (cond (eqb c.number k) Free r) ≡ cond (eqb c.number k) new r)
      → ((k : ℕ) → holds k new ≡ true → eqb c.number k ≡ true) → standing new ≡ after c.kind (standing e)
      → accepts c.kind (standing e) ≡ true → judge c.kind (is_job c.number) (standing e) (any is_free es) ≡ served
      → Alike (accept (replace_first (holds c.number) new es)) h c
  changed new e l full-entry own only now taken j =
      let full : is_free (lookup es c.number) ≡ false = ap is_free l ∙ full-entry in
      let old : (k : ℕ) → holds k (lookup es c.number) ≡ eqb c.number k =
      λ k. holds-only (lookup es c.number) c.number k (entry-passes (holds c.number) es full) in
      let there : any (holds c.number) es ≡ true = rw (any-holds es c.number, full) in
      let s = stored new (holds c.number) es there g.once (λ k p q. absurd (true≢false (sym (only k p) ∙ sym (old k) ∙ q))) in
      accepted (replace_first (holds c.number) new es) (lookup es c.number) new s refl
      (λ k. s.at k ∙ ap (λ (b : Bool). cond (holds k new) new (cond b Free (lookup es k))) (old k) ∙ own k (lookup es k))
      (rw l now) (rw l taken) (judged l ∙ j)

same-twice : {A : Type 0} (b : Bool) (x y z : A) → cond b x (cond b y z) ≡ cond b x z
same-twice true x y z = refl
same-twice false x y z = refl

module _ (es : List Entry) (h : List Call) (g : Agrees es h) (n : ℕ) where
  -- what the ledger refuses by the number and its status
  away : (k : Kind) (a : ℕ) {e : Entry} → lookup es n ≡ e → eqb a served ≡ false → judge k (is_job n) (standing e) (any is_free es) ≡ a
      → Alike (refuse es a) h (on k n)
  away k a l z j = refused es h g (on k n) a z (judged es h g (on k n) l ∙ j)

  -- the number's entry becomes another of its own
  turned : (k : Kind) (new e : Entry) → lookup es n ≡ e → is_free e ≡ false → ((j : ℕ) → holds j new ≡ eqb n j) → standing new ≡ after k (standing e)
      → accepts k (standing e) ≡ true → judge k (is_job n) (standing e) (any is_free es) ≡ served
      → Alike (accept (replace_first (holds n) new es)) h (on k n)
  turned k new e l full own now taken j =
      changed es h g (on k n) new e l full (λ i r. rw (own i) (same-twice (eqb n i) new Free r)) (λ i p. sym (own i) ∙ p) now taken j

  -- or it goes
  gone : (k : Kind) (e : Entry) → lookup es n ≡ e → is_free e ≡ false → unknown ≡ after k (standing e)
      → accepts k (standing e) ≡ true → judge k (is_job n) (standing e) (any is_free es) ≡ served
      → Alike (accept (replace_first (holds n) Free es)) h (on k n)
  gone k e l full now taken j = changed es h g (on k n) Free e l full (λ i r. refl) (λ i p. absurd (false≢true p)) now taken j

  open-job : is_job n ≡ true → (e : Entry) → lookup es n ≡ e → Alike (open_job e n es) h (on opening n)
  open-job job (Cancelled x was) l = away opening job_cancelled l refl (rw job)
  open-job job (Open x) l = away opening already_open l refl (rw job)
  open-job job (OnHold x) l = away opening already_open l refl (rw job)
  open-job job Free l = added es h g (on opening n) (Open n) l (λ k. refl) refl refl (rw job)

  reinstated : (x : ℕ) (was : Before) → lookup es n ≡ Cancelled x was → Alike (accept (replace_first (holds n) (restored was n) es)) h (on reinstating n)
  reinstated x WasAbsent l = gone reinstating (Cancelled x WasAbsent) l refl refl refl refl
  reinstated x WasOpen l = turned reinstating (Open n) (Cancelled x WasOpen) l refl (λ k. refl) refl refl refl
  reinstated x WasOnHold l = turned reinstating (OnHold n) (Cancelled x WasOnHold) l refl (λ k. refl) refl refl refl

  one-call : (k : Kind) (e : Entry) → lookup es n ≡ e → Alike (call_as k es n) h (on k n)
  unfolding decide
  one-call opening e l =
      by_bool (is_job n) (λ job. rw (g.once, job, l) (open-job job e l)) (λ zero. rw (g.once, zero) (away opening number_zero l refl (rw zero)))
  one-call cancelling (Cancelled x was) l = rw (g.once, l) (away cancelling job_cancelled l refl refl)
  one-call cancelling (Open x) l = rw (g.once, l) (turned cancelling (Cancelled n WasOpen) (Open x) l refl (λ k. refl) refl refl refl)
  one-call cancelling (OnHold x) l = rw (g.once, l) (turned cancelling (Cancelled n WasOnHold) (OnHold x) l refl (λ k. refl) refl refl refl)
  one-call cancelling Free l =
      by_bool (is_job n) (λ job. rw (g.once, l, job) (added es h g (on cancelling n) (Cancelled n WasAbsent) l (λ k. refl) refl refl (rw job)))
      (λ zero. rw (g.once, l, zero) (away cancelling number_zero l refl (rw zero)))
  one-call finishing (Cancelled x was) l = rw (g.once, l) (away finishing job_cancelled l refl refl)
  one-call finishing (Open x) l = rw (g.once, l) (gone finishing (Open x) l refl refl refl refl)
  one-call finishing (OnHold x) l = rw (g.once, l) (away finishing job_held l refl refl)
  one-call finishing Free l = rw (g.once, l) (away finishing not_open l refl refl)
  one-call reinstating (Cancelled x was) l = rw (g.once, l) (reinstated x was l)
  one-call reinstating (Open x) l = rw (g.once, l) (away reinstating not_cancelled l refl refl)
  one-call reinstating (OnHold x) l = rw (g.once, l) (away reinstating not_cancelled l refl refl)
  one-call reinstating Free l = rw (g.once, l) (away reinstating not_cancelled l refl refl)
  one-call holding (Cancelled x was) l = rw (g.once, l) (away holding job_cancelled l refl refl)
  one-call holding (OnHold x) l = rw (g.once, l) (away holding job_held l refl refl)
  one-call holding (Open x) l = rw (g.once, l) (turned holding (OnHold n) (Open x) l refl (λ k. refl) refl refl refl)
  one-call holding Free l = rw (g.once, l) (away holding not_open l refl refl)
  one-call releasing (Cancelled x was) l = rw (g.once, l) (away releasing job_cancelled l refl refl)
  one-call releasing (OnHold x) l = rw (g.once, l) (turned releasing (Open n) (OnHold x) l refl (λ k. refl) refl refl refl)
  one-call releasing (Open x) l = rw (g.once, l) (away releasing not_held l refl refl)
  one-call releasing Free l = rw (g.once, l) (away releasing not_held l refl refl)

pub call-alike : (es : List Entry) (h : List Call) → Agrees es h → (c : Call) → Alike (call_out es c) h c
call-alike es h g c = one-call es h g c.number c.kind (lookup es c.number) refl

-- ---- Every list of calls

pub simulation : Simulation
unfolding answers_from verdicts_from table_from ledger_from
simulation es h g [] = record { judged = refl; agrees = g }
simulation es h g (c ∷ cs) =
    let a = call-alike es h g c in
    let r = simulation (call_out es c).table (enter h c) a.agrees cs in
    record { judged = ap₂ {C = List ℕ} ◌∷◌ a.answer r.judged; agrees = r.agrees }

-- ---- Where a list starts

pub empty-agrees : Agrees empty_table []
unfolding history_of status_of status lawful slots_taken used twice
empty-agrees = record { slots = refl; same = λ n. ap standing (free-lookup slot_count n); once = refl; count = refl; accepted = λ n. refl }

-- 0 alone, in slot i, and calls that made it what it is
alone-agrees : (i : ℕ) → i < slot_count → (e : Entry) (h : List Call) → ((n : ℕ) → standing (cond (holds n e) e Free) ≡ status h n)
    → bit (takes_slot (standing e)) ≡ slots_taken h
    → ((n : ℕ) → lawful (history_of h n) ≡ true) → Agrees (set empty_table i e) h
alone-agrees i l e h same count accepted =
    record {
      slots = length-set empty_table i e;
      same = λ n. ap standing (alone-lookup e slot_count i n l) ∙ same n;
      once = alone-once e slot_count i l;
      count = alone-used e slot_count i l ∙ count;
      accepted = accepted;
    }

pub start-agrees : (es : List Entry) (before : List Call) → Start es before → Agrees es before
unfolding history_of status_of status lawful slots_taken
start-agrees es before empty = empty-agrees
start-agrees es before (zero-open i l) =
    alone-agrees i l (Open 0) (on opening 0 ∷ []) (λ n. by_bool (eqb 0 n) (λ t. rw t) (λ t. rw t)) refl
    (λ n. by_bool (eqb 0 n) (λ t. rw t) (λ t. rw t))
start-agrees es before (zero-cancelled i l) =
    alone-agrees i l (Cancelled 0 WasAbsent) (on cancelling 0 ∷ []) (λ n. by_bool (eqb 0 n) (λ t. rw t) (λ t. rw t)) refl
    (λ n. by_bool (eqb 0 n) (λ t. rw t) (λ t. rw t))
start-agrees es before (zero-opened-cancelled i l) =
    alone-agrees i l (Cancelled 0 WasOpen) (on cancelling 0 ∷ on opening 0 ∷ []) (λ n. by_bool (eqb 0 n) (λ t. rw t) (λ t. rw t)) refl
    (λ n. by_bool (eqb 0 n) (λ t. rw t) (λ t. rw t))
start-agrees es before (zero-on-hold-cancelled i l) =
    alone-agrees i l (Cancelled 0 WasOnHold) (on cancelling 0 ∷ on holding 0 ∷ on opening 0 ∷ []) (λ n. by_bool (eqb 0 n) (λ t. rw t) (λ t. rw t)) refl
    (λ n. by_bool (eqb 0 n) (λ t. rw t) (λ t. rw t))

pub simulation-from-start : SimulationFromStart
simulation-from-start es before s calls = simulation es before (start-agrees es before s) calls

-- the ledger after a list holds the calls that it answers with 0
pub accepted-by : (h calls : List Call) → accepted_by calls (verdicts_from h calls) h ≡ ledger_from h calls
unfolding accepted_by verdicts_from ledger_from enter
accepted-by h [] = refl
accepted-by h (c ∷ cs) = accepted-by (cond (eqb (verdict h c) served) (c ∷ h) h) cs
