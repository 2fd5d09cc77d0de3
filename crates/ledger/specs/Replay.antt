-- A list of calls in lent memory: the letters of their kinds, their numbers, and room for their answers. Assumes nothing.
use Rattle.std.specs.Prelude.{◌≡◌, Bool, true, ◌&&◌, List, [], ◌∷◌, ℕ, eqb, length}
use Rattle.std.proofs.Math.Option.{Option, none, some}
use Rattle.refusals.specs.Refusals.{served, wrong_length, bad_record, must}
use Rattle.refusals.specs.Numbers.{answer_of}
use Rattle.combinatorics.specs.Lists.{all}
use Rattle.jobs.specs.declared.Entry.{Entry}
use Rattle.jobs.specs.Jobs.{Kind, Call, on}
use Rattle.ledger.specs.Calls.{answers_from, table_from}
use Rattle.jobs.specs.Slots.{CallAnswer, entries}
use Rattle.jobs.specs.Letters.{list_kind, is_list_letter}

abbrev pub call_before : Option Kind → ℕ → List Call → List Call
call_before none n cs = cs
call_before (some k) n cs = on k n ∷ cs

-- the calls that letters and numbers spell; a letter that is none of theirs spells none
unfoldable pub calls_of : List ℕ → List ℕ → List Call
calls_of [] ns = []
calls_of (k ∷ ks) [] = []
calls_of (k ∷ ks) (n ∷ ns) = call_before (list_kind k) n (calls_of ks ns)

-- The numbers and the answers are as many as the letters: 3 as for any lent list of another length (docs/DECISIONS.md).
unfoldable pub lengths_fit : List ℕ → List ℕ → List ℕ → Bool
lengths_fit letters numbers answers = eqb (length numbers) (length letters) && eqb (length answers) (length letters)

-- the answer to the whole list, the table after it, and the lent answers
pub record ReplayOut : Type 0 where
  pub answer : ℕ
  pub table : List Entry
  pub answers : List ℕ

abbrev pub replayed : CallAnswer → List ℕ → ReplayOut
replayed r answers = record { answer = answer_of r.answer; table = entries r.table; answers = answers }

-- no call is made: "output buffers and book keep their contents"
abbrev pub turn_away : List Entry → List ℕ → ℕ → ReplayOut
turn_away es answers a = record { answer = a; table = es; answers = answers }

-- the calls, one after the other from a table
abbrev pub made : List Entry → List Call → ReplayOut
made es calls = record { answer = served; table = table_from es calls; answers = answers_from es calls }

-- 3 for lists of other lengths, 11 for a letter that is none of theirs; then the calls
unfoldable pub replay_out : List Entry → List ℕ → List ℕ → List ℕ → ReplayOut
replay_out es letters numbers answers =
    must (lengths_fit letters numbers answers) (turn_away es answers wrong_length)
    (must (all is_list_letter letters) (turn_away es answers bad_record)
    (made es (calls_of letters numbers)))

-- what is known once nothing is refused
pub record AreCalls (letters numbers answers : List ℕ) : Type 0 where
  pub numbers_fit : length numbers ≡ length letters
  pub answers-fit : length answers ≡ length letters
  pub known-letters : all is_list_letter letters ≡ true
