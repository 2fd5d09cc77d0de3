-- The number of each refusal, and what a call answers: 0, or the number of its refusal. Assumes nothing.
use Rattle.std.specs.Prelude.{Result, Ok, Err, ℕ}
use Rattle.refusals.specs.declared.Refusal.{Refusal}
use Rattle.refusals.specs.declared.Refusal.TheVariants.{Invalid, Unfit, Length, Symbol, Starts, Uncovered, Pattern, Value, Disagrees, Payload, Record, Prescription, Depth, Erased, Majority, Surplus, Cancelled, AlreadyOpen, NotOpen, Full, NumberZero, NotCancelled, Held, NotHeld}
use Rattle.refusals.specs.Refusals.{served, invalid, unfit, wrong_length, bad_symbol, bad_starts, uncovered, no_pattern, value_too_large, disagrees, bad_payload, bad_record, bad_prescription, bad_depth, erased, no_majority, surplus_bytes, job_cancelled, already_open, not_open, table_full, number_zero, not_cancelled, job_held, not_held}

abbrev pub number_of : Refusal → ℕ
number_of Invalid = invalid
number_of Unfit = unfit
number_of Length = wrong_length
number_of Symbol = bad_symbol
number_of Starts = bad_starts
number_of Uncovered = uncovered
number_of Pattern = no_pattern
number_of Value = value_too_large
number_of Disagrees = disagrees
number_of Payload = bad_payload
number_of Record = bad_record
number_of Prescription = bad_prescription
number_of Depth = bad_depth
number_of Erased = erased
number_of Majority = no_majority
number_of Surplus = surplus_bytes
number_of Cancelled = job_cancelled
number_of AlreadyOpen = already_open
number_of NotOpen = not_open
number_of Full = table_full
number_of NumberZero = number_zero
number_of NotCancelled = not_cancelled
number_of Held = job_held
number_of NotHeld = not_held

-- "0 for accepted"
abbrev pub answer_of : {A : Type 0} → Result A Refusal → ℕ
answer_of (Ok x) = served
answer_of (Err r) = number_of r
