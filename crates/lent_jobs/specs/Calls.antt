-- What a call on a job table in bytes answers a program in another language, and what the lent table holds afterwards, for every input. Assumes nothing.
use Rattle.std.specs.Prelude.{List, ℕ, eqb, length}
use Rattle.refusals.specs.Refusals.{must, served, invalid, wrong_length}
use Rattle.jobs.specs.declared.Entry.{Entry}
use Rattle.jobs.specs.Table.{TableOut}
use Rattle.lent_jobs.specs.Table.{table_len, states_known, table_in, table_bytes}

pub record CallLent : Type 0 where
  pub answer : ℕ
  pub table : List ℕ

abbrev pub called : ℕ → List ℕ → CallLent
called a bytes = record { answer = a; table = bytes }

-- "Each call on the book hands back the book that holds afterwards."; a refused one leaves the bytes alone
abbrev pub called_as : List ℕ → TableOut → CallLent
called_as bytes out = must (eqb out.answer served) (called out.answer bytes) (called served (table_bytes out.table))

-- 3 for the table's length, then the call's own order, as "open 1 12 13 15", where 1 stands for an unknown state too
unfoldable pub call_bytes_out : (List Entry → ℕ → TableOut) → List ℕ → ℕ → CallLent
call_bytes_out call bytes number =
    must (eqb (length bytes) table_len) (called wrong_length bytes)
    (must (states_known bytes) (called invalid bytes)
    (called_as bytes (call (table_in bytes) number)))
