-- The job table (document 01's book), over the list of its entries, slot by slot (its places). Assumes nothing.
use Rattle.std.specs.Prelude.{◌≡◌, Bool, true, false, not, cond, ◌||◌, List, [], ◌∷◌, ℕ, ◌+◌, eqb, replicate}
use Rattle.refusals.specs.Refusals.{served, invalid, job_cancelled, already_open, not_open, table_full, number_zero, not_cancelled, job_held, not_held, must}
use Rattle.combinatorics.specs.Lists.{any}
use Rattle.combinatorics.specs.Stretch.{bit}
use Rattle.jobs.specs.declared.Entry.{Entry}
use Rattle.jobs.specs.declared.Entry.TheVariants.{Free, Open, OnHold, Cancelled}
use Rattle.jobs.specs.declared.Before.{Before}
use Rattle.jobs.specs.declared.Before.TheVariants.{WasAbsent, WasOpen, WasOnHold}
use Rattle.jobs.specs.Jobs.{slot_count, Kind, opening, cancelling, finishing, reinstating, holding, releasing, is_job, Status, unknown, opened, on_hold}
use Rattle.jobs.specs.Jobs.{cancelled, takes_slot, needs_open}

-- document 02, ticket 7: "what it was for that number before its cancellation: open, or absent if it was unknown"; ticket 10: "and reinstating gives back
-- held"
abbrev pub formerly : Before → Status
formerly WasAbsent = unknown
formerly WasOpen = opened
formerly WasOnHold = on_hold

-- "The book holds at most 64 job numbers, each open or cancelled. It has 64 places": an entry stands for what its number is
abbrev pub standing : Entry → Status
standing Free = unknown
standing (Open x) = opened
standing (OnHold x) = on_hold
standing (Cancelled x was) = cancelled (formerly was)

abbrev pub is_free : Entry → Bool
is_free Free = true
is_free (Open x) = false
is_free (OnHold x) = false
is_free (Cancelled x was) = false

abbrev pub holds : ℕ → Entry → Bool
holds n Free = false
holds n (Open x) = eqb x n
holds n (OnHold x) = eqb x n
holds n (Cancelled x was) = eqb x n

-- the first entry that passes the test, or a free one
unfoldable pub first_entry : (Entry → Bool) → List Entry → Entry
first_entry t [] = Free
first_entry t (e ∷ es) = cond (t e) e (first_entry t es)

-- the entry that holds the number
abbrev pub lookup : List Entry → ℕ → Entry
lookup es n = first_entry (holds n) es

-- how many numbers the table holds
unfoldable pub used : List Entry → ℕ
used [] = 0
used (e ∷ es) = bit (takes_slot (standing e)) + used es

-- "the empty book"
abbrev pub empty_table : List Entry
empty_table = replicate slot_count Free

-- ---- The outcome of a call

-- "Each call on the book hands back the book that holds afterwards."
pub record TableOut : Type 0 where
  pub answer : ℕ
  pub table : List Entry

-- "Every refusal returns its number only; output buffers and book keep their contents."
abbrev pub refuse : List Entry → ℕ → TableOut
refuse es a = record { answer = a; table = es }

abbrev pub accept : List Entry → TableOut
accept es = record { answer = served; table = es }

-- the first entry that passes the test becomes another
unfoldable pub replace_first : (Entry → Bool) → Entry → List Entry → List Entry
replace_first t x [] = []
replace_first t x (e ∷ es) = cond (t e) (x ∷ es) (e ∷ replace_first t x es)

-- the same where one passes; "15: 64 numbers held and a new one needed"
unfoldable pub put : (Entry → Bool) → Entry → List Entry → TableOut
put t x es = must (any t es) (refuse es table_full) (accept (replace_first t x es))

-- "a new number takes the first free one"
abbrev pub add : Entry → List Entry → TableOut
add x es = put is_free x es

-- the number of an entry is held by one of the others too
abbrev pub again : List Entry → Entry → Bool
again es Free = false
again es (Open x) = any (holds x) es
again es (OnHold x) = any (holds x) es
again es (Cancelled x was) = any (holds x) es

-- "a book with one number twice"
unfoldable pub twice : List Entry → Bool
twice [] = false
twice (e ∷ es) = again es e || twice es

-- "open 1 12 13 15; cancel 1 12 15; finish 1 12 14"; document 02, ticket 3: 17 is "ahead of the others" of the state. 1 comes first in every call, and
-- then the number and its entry decide
unfoldable pub decide : (Entry → ℕ → List Entry → TableOut) → List Entry → ℕ → TableOut
decide by_entry es n = must (not (twice es)) (refuse es invalid) (by_entry (lookup es n) n es)

-- "Opening adds one."; document 02, ticket 10: "Opening a held number is 13."
abbrev pub open_job : Entry → ℕ → List Entry → TableOut
open_job (Cancelled x was) n es = refuse es job_cancelled
open_job (Open x) n es = refuse es already_open
open_job (OnHold x) n es = refuse es already_open
open_job Free n es = add (Open n) es

-- document 02, ticket 3: "It refuses with 17 .. the opening .. of 0", whatever the table has of it
abbrev pub open_at : Entry → ℕ → List Entry → TableOut
open_at e n es = must (is_job n) (refuse es number_zero) (open_job e n es)

-- "Cancelling turns open into cancelled, or adds an unknown number as cancelled; that entry stays."
-- document 02, ticket 3: "It refuses with 17 .. the cancelling of a 0 that the book doesn't hold."; ticket 10: "Cancelling works on held numbers"
abbrev pub cancel_at : Entry → ℕ → List Entry → TableOut
cancel_at (Cancelled x was) n es = refuse es job_cancelled
cancel_at (Open x) n es = accept (replace_first (holds n) (Cancelled n WasOpen) es)
cancel_at (OnHold x) n es = accept (replace_first (holds n) (Cancelled n WasOnHold) es)
cancel_at Free n es = must (is_job n) (refuse es number_zero) (add (Cancelled n WasAbsent) es)

-- "Finishing removes an open one and frees its place for use."; document 02, ticket 10: "with 23, after 12 and before 14, .. finishing .. a held job"
abbrev pub finish_at : Entry → ℕ → List Entry → TableOut
finish_at (Cancelled x was) n es = refuse es job_cancelled
finish_at (OnHold x) n es = refuse es job_held
finish_at (Open x) n es = accept (replace_first (holds n) Free es)
finish_at Free n es = refuse es not_open

-- document 02, ticket 7: "Reinstating restores the book to what it was for that number before its cancellation: open, or absent if it was unknown.";
-- ticket 10: "and reinstating gives back held"
abbrev pub restored : Before → ℕ → Entry
restored WasAbsent n = Free
restored WasOpen n = Open n
restored WasOnHold n = OnHold n

-- document 02, ticket 7: "It refuses with 20, after 1, a number that isn't cancelled."
abbrev pub reinstate_at : Entry → ℕ → List Entry → TableOut
reinstate_at (Cancelled x was) n es = accept (replace_first (holds n) (restored was n) es)
reinstate_at (Open x) n es = refuse es not_cancelled
reinstate_at (OnHold x) n es = refuse es not_cancelled
reinstate_at Free n es = refuse es not_cancelled

-- document 02, ticket 10: "Hold turns open into held, for an open 0 too"; "Holding a cancelled number is 12, an unknown one 14."; "with 23, after 12 and
-- before 14, .. holding a held job"
abbrev pub hold_at : Entry → ℕ → List Entry → TableOut
hold_at (Cancelled x was) n es = refuse es job_cancelled
hold_at (OnHold x) n es = refuse es job_held
hold_at (Open x) n es = accept (replace_first (holds n) (OnHold n) es)
hold_at Free n es = refuse es not_open

-- finishing and holding alike, as the code has them: the slot of an open number takes the entry (`finish-out`, `hold-out` of proofs/Decisions.antt)
abbrev pub turn_open_at : Entry → Entry → ℕ → List Entry → TableOut
turn_open_at next e n es = must (eqb (needs_open (standing e)) served) (refuse es (needs_open (standing e))) (accept (replace_first (holds n) next es))

-- document 02, ticket 10: "and release turns it back"; "with 24, after 12, releasing one that isn't held"
abbrev pub release_at : Entry → ℕ → List Entry → TableOut
release_at (Cancelled x was) n es = refuse es job_cancelled
release_at (OnHold x) n es = accept (replace_first (holds n) (Open n) es)
release_at (Open x) n es = refuse es not_held
release_at Free n es = refuse es not_held

abbrev pub open_out : List Entry → ℕ → TableOut
open_out es n = decide open_at es n

abbrev pub cancel_out : List Entry → ℕ → TableOut
cancel_out es n = decide cancel_at es n

abbrev pub finish_out : List Entry → ℕ → TableOut
finish_out es n = decide finish_at es n

abbrev pub reinstate_out : List Entry → ℕ → TableOut
reinstate_out es n = decide reinstate_at es n

abbrev pub hold_out : List Entry → ℕ → TableOut
hold_out es n = decide hold_at es n

abbrev pub release_out : List Entry → ℕ → TableOut
release_out es n = decide release_at es n

-- ---- A call by its kind

abbrev pub call_as : Kind → List Entry → ℕ → TableOut
call_as opening es n = open_out es n
call_as cancelling es n = cancel_out es n
call_as finishing es n = finish_out es n
call_as reinstating es n = reinstate_out es n
call_as holding es n = hold_out es n
call_as releasing es n = release_out es n

-- ---- Taking a call back

-- document 02, ticket 7: "Reinstating restores the book to what it was for that number before its cancellation", slot for slot; its proof is `restores` of
-- proofs/Restoring.antt
abbrev pub Restores : Type 0
Restores = (es : List Entry) (n : ℕ) → (cancel_out es n).answer ≡ served → reinstate_out (cancel_out es n).table n ≡ accept es

-- document 02, ticket 10: "Hold turns open into held .. and release turns it back", slot for slot
abbrev pub TurnsBack : Type 0
TurnsBack = (es : List Entry) (n : ℕ) → (hold_out es n).answer ≡ served → release_out (hold_out es n).table n ≡ accept es
