-- The ledger of 'Demand 3 in these terms': the accepted calls, newest first, and what they say of a number. It knows nothing of slots. Assumes nothing.
use Rattle.std.specs.Prelude.{◌≡◌, Bool, true, false, not, cond, ◌&&◌, ◌||◌, List, [], ◌∷◌, ◌++◌, ℕ, ◌+◌, ◌-◌, ltb, eqb, length}
use Rattle.std.proofs.Math.Option.{Option, none, some}
use Rattle.refusals.specs.Refusals.{served, job_cancelled, already_open, not_open, table_full, number_zero, not_cancelled, job_held, not_held, must}
use Rattle.combinatorics.specs.Lists.{any}
use Rattle.combinatorics.specs.Stretch.{bit}
use Rattle.jobs.specs.Jobs.{slot_count, Kind, opening, cancelling, finishing, reinstating, holding, releasing, Call, is_job, Status, unknown, opened, on_hold}
use Rattle.jobs.specs.Jobs.{cancelled, takes_slot, needs_open}

-- the kinds of the accepted calls on a number, newest first
unfoldable pub history_of : List Call → ℕ → List Kind
history_of [] n = []
history_of (c ∷ h) n = cond (eqb c.number n) (c.kind ∷ history_of h n) (history_of h n)

-- ".. and the number is open", ".. cancelled", ".. unknown"
-- document 02, ticket 7: "what it was for that number before its cancellation"; ticket 10: "Hold turns open into held .. and release turns it back."
-- A reinstatement of a number that isn't cancelled is never accepted.
abbrev pub after : Kind → Status → Status
after opening s = opened
after cancelling s = cancelled s
after finishing s = unknown
after reinstating (cancelled s) = s
after reinstating unknown = unknown
after reinstating opened = opened
after reinstating on_hold = on_hold
after holding s = on_hold
after releasing s = opened

-- "a ledger that begins with every number unknown"
unfoldable pub status_of : List Kind → Status
status_of [] = unknown
status_of (k ∷ ks) = after k (status_of ks)

unfoldable pub status : List Call → ℕ → Status
status h n = status_of (history_of h n)

-- ---- document 02, ticket 7: "once each cancellation followed by its reinstatement is struck out"; ticket 10: "a hold followed by its release is struck from
-- the number's history like a cancellation followed by its reinstatement, inner pairs first"

abbrev pub takes_back : Kind → Kind → Bool
takes_back reinstating cancelling = true
takes_back reinstating opening = false
takes_back reinstating finishing = false
takes_back reinstating reinstating = false
takes_back reinstating holding = false
takes_back reinstating releasing = false
takes_back releasing holding = true
takes_back releasing opening = false
takes_back releasing cancelling = false
takes_back releasing finishing = false
takes_back releasing reinstating = false
takes_back releasing releasing = false
takes_back opening k = false
takes_back cancelling k = false
takes_back finishing k = false
takes_back holding k = false

-- a call after what is left of those before it, newest first: it is struck out with the call that it takes back
abbrev pub strike : Kind → List Kind → List Kind
strike k [] = k ∷ []
strike k (j ∷ ks) = cond (takes_back k j) ks (k ∷ j ∷ ks)

unfoldable pub what_is_left : List Kind → List Kind
what_is_left [] = []
what_is_left (k ∷ ks) = strike k (what_is_left ks)

-- two calls that stand together, a cancellation and then its reinstatement or a hold and then its release
unfoldable pub has_pair : List Kind → Bool
has_pair [] = false
has_pair (k ∷ []) = false
has_pair (k ∷ j ∷ ks) = takes_back k j || has_pair (j ∷ ks)

-- so that pairs may be struck out in any order, until there is none; its proof is `strikes-pairs` of proofs/Striking.antt
pub record StrikesPairs : Type 0 where
  pub any-pair : (newer older : List Kind) (k j : Kind) → takes_back k j ≡ true → what_is_left (newer ++ k ∷ j ∷ older) ≡ what_is_left (newer ++ older)
  pub no-pair : (ks : List Kind) → has_pair ks ≡ false → what_is_left ks ≡ ks
  pub none_left : (ks : List Kind) → has_pair (what_is_left ks) ≡ false

abbrev pub newest_of : List Kind → Option Kind
newest_of [] = none
newest_of (k ∷ ks) = some k

-- "the job's last accepted call" of what is left
abbrev pub last_left : List Call → ℕ → Option Kind
last_left h n = newest_of (what_is_left (history_of h n))

-- what a call that needs the number open answers: "12 and 14 go by what is left", and 23 where that ends in a hold. No reinstatement and no release of an
-- accepted list is left.
abbrev pub answer_after : Option Kind → ℕ
answer_after none = not_open
answer_after (some opening) = served
answer_after (some cancelling) = job_cancelled
answer_after (some finishing) = not_open
answer_after (some holding) = job_held
answer_after (some reinstating) = not_open
answer_after (some releasing) = not_open

-- how many numbers are open, on hold or cancelled: with each call, its number's share before it goes and its share after it comes
unfoldable pub slots_taken : List Call → ℕ
slots_taken [] = 0
slots_taken (c ∷ h) = slots_taken h - bit (takes_slot (status h c.number)) + bit (takes_slot (status (c ∷ h) c.number))

-- "unknown while 64 are open or cancelled": there is room for one more otherwise
abbrev pub room : List Call → Bool
room h = ltb (slots_taken h) slot_count

-- "An opening that finds its number cancelled is refused with 12, open with 13, unknown while 64 are open or cancelled with 15; else it is accepted"
-- document 02, ticket 10: "Opening a held number is 13."
abbrev pub judge_opening : Status → Bool → ℕ
judge_opening (cancelled s) has_room = job_cancelled
judge_opening opened has_room = already_open
judge_opening on_hold has_room = already_open
judge_opening unknown has_room = must has_room table_full served

-- "A cancellation that finds it cancelled gets 12, unknown while 64 are open or cancelled 15; else it is accepted"
-- "A finishing that finds it cancelled gets 12, unknown 14; else it is accepted"
-- document 02, ticket 3: "demand 3's ledger knows 17", "ahead of the others, the opening .. of 0 and the cancelling of a 0 that the book doesn't hold."
-- document 02, ticket 7: "It refuses with 20 .. a number that isn't cancelled."
-- document 02, ticket 10: "Holding a cancelled number is 12, an unknown one 14. It refuses with 23, after 12 and before 14, .. finishing or holding a held
-- job, and with 24, after 12, releasing one that isn't held."
abbrev pub judge : Kind → Bool → Status → Bool → ℕ
judge opening job found has_room = must job number_zero (judge_opening found has_room)
judge cancelling job (cancelled s) has_room = job_cancelled
judge cancelling job opened has_room = served
judge cancelling job on_hold has_room = served
judge cancelling job unknown has_room = must job number_zero (must has_room table_full served)
judge finishing job found has_room = needs_open found
judge reinstating job (cancelled s) has_room = served
judge reinstating job opened has_room = not_cancelled
judge reinstating job on_hold has_room = not_cancelled
judge reinstating job unknown has_room = not_cancelled
judge holding job found has_room = needs_open found
judge releasing job (cancelled s) has_room = job_cancelled
judge releasing job on_hold has_room = served
judge releasing job opened has_room = not_held
judge releasing job unknown has_room = not_held

unfoldable pub verdict : List Call → Call → ℕ
verdict h c = judge c.kind (is_job c.number) (status h c.number) (room h)

-- "A refused call leaves the ledger alone."
unfoldable pub enter : List Call → Call → List Call
enter h c = cond (eqb (verdict h c) served) (c ∷ h) h

-- the judgements of a list of calls, and the ledger after it
unfoldable pub verdicts_from : List Call → List Call → List ℕ
verdicts_from h [] = []
verdicts_from h (c ∷ cs) = verdict h c ∷ verdicts_from (enter h c) cs

unfoldable pub ledger_from : List Call → List Call → List Call
ledger_from h [] = h
ledger_from h (c ∷ cs) = ledger_from (enter h c) cs

-- the calls that were answered with 0, newest first, before those of h
unfoldable pub accepted_by : List Call → List ℕ → List Call → List Call
accepted_by [] vs h = h
accepted_by (c ∷ cs) [] h = h
accepted_by (c ∷ cs) (v ∷ vs) h = accepted_by cs vs (cond (eqb v served) (c ∷ h) h)

-- ---- Histories of accepted calls

-- accepted as far as its number's own history decides: of a job, while there is room
abbrev pub accepts : Kind → Status → Bool
accepts k found = eqb (judge k true found true) served

-- each call was accepted when it came
unfoldable pub lawful : List Kind → Bool
lawful [] = true
lawful (k ∷ ks) = accepts k (status_of ks) && lawful ks

-- what is left says what the number is, and document 02, ticket 7: "12 and 14 go by what is left"
pub record GoesByLeft (ks : List Kind) : Type 0 where
  pub accepted : lawful (what_is_left ks) ≡ true
  pub same : status_of (what_is_left ks) ≡ status_of ks
  pub answers : needs_open (status_of ks) ≡ answer_after (newest_of (what_is_left ks))

abbrev pub LeftDecides : Type 0
LeftDecides = (ks : List Kind) → lawful ks ≡ true → GoesByLeft ks

-- ---- What the count counts

-- no number stands twice in the list
unfoldable pub distinct : List ℕ → Bool
distinct [] = true
distinct (n ∷ ns) = not (any (eqb n) ns) && distinct ns

-- a list without repetition of exactly the numbers that count, as long as the count says
pub record CountsSlots (h : List Call) (numbers : List ℕ) : Type 0 where
  pub once : distinct numbers ≡ true
  pub exactly : (n : ℕ) → any (eqb n) numbers ≡ takes_slot (status h n)
  pub count : length numbers ≡ slots_taken h

abbrev pub SlotsCounted : Type 0
SlotsCounted = (h : List Call) → (numbers : List ℕ) × CountsSlots h numbers
