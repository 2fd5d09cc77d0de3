-- What the table and the ledger both speak of: calls on job numbers, and what a number can be. Assumes nothing.
use Rattle.std.specs.Prelude.{Bool, true, false, not, ℕ, eqb}
use Rattle.refusals.specs.Refusals.{served, job_cancelled, not_open, job_held}

-- "The book holds at most 64 job numbers .. It has 64 places"
abbrev pub slot_count : ℕ
slot_count = 64

-- "Opening adds one. Finishing removes an open one .. Cancelling turns open into cancelled, or adds an unknown number as cancelled"
-- document 02, ticket 7: "Reinstatements join the list of demand 3"; ticket 10: "Holds and releases join the list of demand 3"
pub data Kind : Type 0 where
  opening cancelling finishing reinstating holding releasing : Kind

-- "The calls are judged by their kinds and numbers alone"
pub record Call : Type 0 where
  pub kind : Kind
  pub number : ℕ

abbrev pub on : Kind → ℕ → Call
on k n = record { kind = k; number = n }

-- document 02, ticket 3: "The tray maker uses 0 for test trays .. From now on it is no job."
abbrev pub is_job : ℕ → Bool
is_job n = not (eqb n 0)

-- "each open or cancelled"; every other number is unknown
-- document 02, ticket 7: "Reinstating restores the book to what it was for that number before its cancellation .. The entry must remember which."
-- document 02, ticket 10: "A book entry may also be held."
pub data Status : Type 0 where
  unknown opened on_hold : Status
  cancelled : Status → Status

-- "open or cancelled"; document 02, ticket 10: "a held number counts among the 64 as an open one does": what counts among the 64
abbrev pub takes_slot : Status → Bool
takes_slot unknown = false
takes_slot opened = true
takes_slot on_hold = true
takes_slot (cancelled s) = true

-- "Writing or reading a job requires it open", and finishing does too. "12: number cancelled. .. 14: not open."
-- document 02, ticket 10: "It refuses with 23, after 12 and before 14, reading, writing, finishing or holding a held job"
abbrev pub needs_open : Status → ℕ
needs_open (cancelled s) = job_cancelled
needs_open opened = served
needs_open on_hold = job_held
needs_open unknown = not_open
