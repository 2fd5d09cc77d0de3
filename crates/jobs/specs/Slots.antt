-- The declared table as the list of its entries. Assumes nothing.
use Rattle.std.specs.Prelude.{Result, List, ℕ, ◌%◌}
use Rattle.refusals.specs.declared.Refusal.{Refusal}
use Rattle.refusals.specs.Numbers.{answer_of}
use Rattle.jobs.specs.declared.Entry.{Entry}
use Rattle.jobs.specs.declared.Entry.TheVariants.{Free, Open, OnHold, Cancelled}
use Rattle.jobs.specs.declared.JobTable.{JobTable}
use Rattle.jobs.specs.declared.TableAnswer.{TableAnswer}
use Rattle.jobs.specs.Table.{TableOut}

abbrev pub entries : JobTable → List Entry
entries t = t.slots

-- the answer by its number, and the table slot for slot
abbrev pub outcome_by : {A : Type 0} → (A → ℕ) → TableAnswer A → TableOut
outcome_by number r = record { answer = number r.answer; table = entries r.table }

-- what a call answers: "0 for accepted", or its refusal
abbrev pub CallAnswer : Type 0
CallAnswer = TableAnswer (Result (Unit {0}) Refusal)

abbrev pub outcome : CallAnswer → TableOut
outcome = outcome_by answer_of

-- the place of an entry's mark, by its number's remainder
abbrev pub mark_count : ℕ
mark_count = 1024

abbrev pub mark_of : Entry → ℕ
mark_of Free = 0
mark_of (Open x) = x % mark_count
mark_of (OnHold x) = x % mark_count
mark_of (Cancelled x was) = x % mark_count
