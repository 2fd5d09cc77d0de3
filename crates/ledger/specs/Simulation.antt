-- 'Demand 3 in these terms', the part about the list of calls: the table answers as the ledger does, and stands for it. Assumes nothing.
use Rattle.std.specs.Prelude.{◌≡◌, true, false, List, [], ◌∷◌, ℕ, ◌<◌, length, set}
use Rattle.jobs.specs.declared.Entry.{Entry}
use Rattle.jobs.specs.declared.Entry.TheVariants.{Open, Cancelled}
use Rattle.jobs.specs.declared.Before.TheVariants.{WasAbsent, WasOpen, WasOnHold}
use Rattle.jobs.specs.Jobs.{slot_count, opening, cancelling, holding, Call, on}
use Rattle.jobs.specs.Table.{standing, lookup, used, twice, empty_table}
use Rattle.ledger.specs.Calls.{answers_from, table_from}
use Rattle.ledger.specs.Ledger.{history_of, status, lawful, slots_taken, verdicts_from, ledger_from}

-- The table holds exactly the numbers that the ledger has open, on hold or cancelled, each once, in that state.
pub record Agrees (es : List Entry) (h : List Call) : Type 0 where
  -- "It has 64 places"
  pub slots : length es ≡ slot_count
  -- what the table has of a number is what the accepted calls made of it
  pub same : (n : ℕ) → standing (lookup es n) ≡ status h n
  -- none is there twice
  pub once : twice es ≡ false
  -- they are as many
  pub count : used es ≡ slots_taken h
  -- and every number's calls were accepted
  pub accepted : (n : ℕ) → lawful (history_of h n) ≡ true

-- What was seen of a list of calls, its answers and the table that the last one handed back, is what the ledger says.
pub record Follows (h calls : List Call) (answers : List ℕ) (es : List Entry) : Type 0 where
  -- "Each call answers as the ledger does, 0 for accepted."
  pub judged : answers ≡ verdicts_from h calls
  -- the table stands for the ledger after the list: "A refused call leaves the ledger alone."
  pub agrees : Agrees es (ledger_from h calls)

-- from any table that stands for a ledger, and for every list
abbrev pub Simulation : Type 0
Simulation = (es : List Entry) (h : List Call) → Agrees es h → (calls : List Call) → Follows h calls (answers_from es calls) (table_from es calls)

-- ---- Where a list may start: a table, and the calls accepted before, newest first

pub data Start : List Entry → List Call → Type 0 where
  -- "in a ledger that begins with every number unknown"
  empty : Start empty_table []
  -- document 02, ticket 3: "its list may also start from a book that holds 0 alone, in any place, open or cancelled, as if former accepted calls had put
  -- it there": an opening; a cancellation, alone, after an opening, or after an opening and a hold
  zero-open : (i : ℕ) → i < slot_count → Start (set empty_table i (Open 0)) (on opening 0 ∷ [])
  zero-cancelled : (i : ℕ) → i < slot_count → Start (set empty_table i (Cancelled 0 WasAbsent)) (on cancelling 0 ∷ [])
  zero-opened-cancelled : (i : ℕ) → i < slot_count → Start (set empty_table i (Cancelled 0 WasOpen)) (on cancelling 0 ∷ on opening 0 ∷ [])
  zero-on-hold-cancelled : (i : ℕ) → i < slot_count → Start (set empty_table i (Cancelled 0 WasOnHold)) (on cancelling 0 ∷ on holding 0 ∷ on opening 0 ∷ [])

abbrev pub SimulationFromStart : Type 0
SimulationFromStart =
    (es : List Entry) (before : List Call) → Start es before → (calls : List Call) → Follows before calls (answers_from es calls) (table_from es calls)
