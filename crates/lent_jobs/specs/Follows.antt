-- 'Demand 3 in these terms', the part about the list of calls, for a table in bytes: made one after the other on the bytes of a table that a list may start
-- from, the calls answer as the ledger does. Assumes nothing.
use Rattle.std.specs.Prelude.{◌≡◌, Bool, true, List, [], ◌∷◌, ℕ, ◌^◌, ltb, replicate}
use Rattle.combinatorics.specs.Lists.{all}
use Rattle.cells.specs.Bytes.{byte_values}
use Rattle.jobs.specs.declared.Entry.{Entry}
use Rattle.jobs.specs.Jobs.{Call}
use Rattle.ledger.specs.Simulation.{Start, Follows}
use Rattle.jobs.specs.Table.{empty_table, call_as}
use Rattle.lent_jobs.specs.Table.{table_len, table_in, TableOf}
use Rattle.lent_jobs.specs.Calls.{CallLent, call_bytes_out}

-- `burgzemi_open`, `_cancel`, `_finish`, `_reinstate`, `_hold` or `_release`, by the kind of the call
abbrev pub call_on : List ℕ → Call → CallLent
call_on bytes c = call_bytes_out (call_as c.kind) bytes c.number

-- the answers of the calls, each given the bytes that the one before left
unfoldable pub answers_on : List ℕ → List Call → List ℕ
answers_on bytes [] = []
answers_on bytes (c ∷ cs) = (call_on bytes c).answer ∷ answers_on (call_on bytes c).table cs

-- the bytes that the last one leaves
unfoldable pub bytes_after : List ℕ → List Call → List ℕ
bytes_after bytes [] = bytes
bytes_after bytes (c ∷ cs) = bytes_after (call_on bytes c).table cs

-- the empty table: 320 bytes of 0
abbrev pub EmptyBytes : Type 0
EmptyBytes = TableOf (replicate table_len 0) empty_table

-- a job number has 32 bits
abbrev pub has32_bits : Call → Bool
has32_bits c = ltb c.number (byte_values ^ 4)

-- from every start: "a ledger that begins with every number unknown", or document 02, ticket 3: "a book that holds 0 alone, in any place, open or cancelled"
abbrev pub BytesFollow : Type 0
BytesFollow =
    (bytes : List ℕ) (es : List Entry) (before : List Call) → TableOf bytes es → Start es before → (calls : List Call) → all has32_bits calls ≡ true
    → Follows before calls (answers_on bytes calls) (table_in (bytes_after bytes calls))
