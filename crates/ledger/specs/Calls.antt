-- A list of calls on the table. Assumes nothing.
use Rattle.std.specs.Prelude.{List, [], ◌∷◌, ℕ}
use Rattle.jobs.specs.declared.Entry.{Entry}
use Rattle.jobs.specs.Jobs.{Call}
use Rattle.jobs.specs.Table.{TableOut, call_as}

abbrev pub call_out : List Entry → Call → TableOut
call_out es c = call_as c.kind es c.number

-- the answers of the calls, each given the table that the one before handed back
unfoldable pub answers_from : List Entry → List Call → List ℕ
answers_from es [] = []
answers_from es (c ∷ cs) = (call_out es c).answer ∷ answers_from (call_out es c).table cs

-- the table that the last one hands back
unfoldable pub table_from : List Entry → List Call → List Entry
table_from es [] = es
table_from es (c ∷ cs) = table_from (call_out es c).table cs
