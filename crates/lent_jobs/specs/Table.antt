-- The job table in lent bytes: 64 slots of 5 bytes each. Assumes nothing.
use Rattle.std.specs.Prelude.{◌≡◌, Bool, true, cond, ℕ, ◌+◌, ◌*◌, ◌^◌, ltb, eqb, length, get_or, drop, replicate}
use mathlib.Core.List.{List, ◌∷◌, flat_map}
use Rattle.std.specs.List.{list_all, range_with_len}
use Rattle.combinatorics.specs.Lists.{all}
use Rattle.combinatorics.specs.Stretch.{tabulate}
use Rattle.cells.specs.Bytes.{byte_values}
use Rattle.cells.specs.Digits.{plain, spell}
use Rattle.jobs.specs.declared.Entry.{Entry}
use Rattle.jobs.specs.declared.Entry.TheVariants.{Free, Open, OnHold, Cancelled}
use Rattle.jobs.specs.declared.Before.{Before}
use Rattle.jobs.specs.declared.Before.TheVariants.{WasAbsent, WasOpen, WasOnHold}
use Rattle.jobs.specs.Jobs.{slot_count}
use Rattle.payloads.specs.Payload.{job_number}

-- a slot: its state and a job number of 4 bytes
abbrev pub slot_len : ℕ
slot_len = 5

-- "It has 64 places"
abbrev pub table_len : ℕ
table_len = slot_count * slot_len

-- ---- Read

-- the states: 0 free, 1 open, 2 cancelled and before that open, 3 cancelled and before that absent, 4 on hold, 5 cancelled and before that on hold. A table
-- with any other is refused before its slots are read.
abbrev pub state_count : ℕ
state_count = 6

abbrev pub entry_of : ℕ → ℕ → Entry
entry_of state number =
    cond (eqb state 1) (Open number)
    (cond (eqb state 2) (Cancelled number WasOpen)
    (cond (eqb state 3) (Cancelled number WasAbsent)
    (cond (eqb state 4) (OnHold number)
    (cond (eqb state 5) (Cancelled number WasOnHold)
    Free))))

-- slot i; "job number, high byte first"
abbrev pub state_at : List ℕ → ℕ → ℕ
state_at bytes i = get_or bytes (i * slot_len) 0

abbrev pub entry_at : List ℕ → ℕ → Entry
entry_at bytes i = entry_of (state_at bytes i) (job_number (drop (i * slot_len + 1) bytes))

unfoldable pub states_known : List ℕ → Bool
states_known bytes = list_all (λ i. ltb (state_at bytes i) state_count) (range_with_len 0 slot_count)

unfoldable pub table_in : List ℕ → List Entry
table_in bytes = tabulate slot_count 0 (entry_at bytes)

-- ---- Written

abbrev pub slot_bytes : ℕ → ℕ → List ℕ
slot_bytes state number = state ∷ spell byte_values (replicate 4 plain) number

-- "The entry must remember which."
abbrev pub cancelled_state : Before → ℕ
cancelled_state WasOpen = 2
cancelled_state WasAbsent = 3
cancelled_state WasOnHold = 5

-- a free slot's number is 0
abbrev pub entry_bytes : Entry → List ℕ
entry_bytes Free = slot_bytes 0 0
entry_bytes (Open x) = slot_bytes 1 x
entry_bytes (OnHold x) = slot_bytes 4 x
entry_bytes (Cancelled x was) = slot_bytes (cancelled_state was) x

unfoldable pub table_bytes : List Entry → List ℕ
table_bytes es = flat_map entry_bytes es

-- ---- Bytes that hold a table; written and read back it is the same

-- 320 bytes with known states, whose slots are these entries; what the number bytes of a free slot are doesn't matter
pub record TableOf (bytes : List ℕ) (es : List Entry) : Type 0 where
  pub size : length bytes ≡ table_len
  pub known : states_known bytes ≡ true
  pub same : table_in bytes ≡ es

-- a number of 32 bits, as every job number is
abbrev pub number_fits : Entry → Bool
number_fits Free = true
number_fits (Open x) = ltb x (byte_values ^ 4)
number_fits (OnHold x) = ltb x (byte_values ^ 4)
number_fits (Cancelled x was) = ltb x (byte_values ^ 4)

pub record IsTable (es : List Entry) : Type 0 where
  pub many : length es ≡ slot_count
  pub numbers : all number_fits es ≡ true

abbrev pub ReadsBack : Type 0
ReadsBack = (es : List Entry) → IsTable es → TableOf (table_bytes es) es
