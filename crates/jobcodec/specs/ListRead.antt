-- A list of calls and the job reading after it: what they answer and what the lent buffers hold afterwards, for every input, and demand 3's
-- claim about what was seen. Assumes nothing.
use Rattle.std.specs.Prelude.{Result, Ok, Err, List, ℕ, eqb}
use Rattle.refusals.specs.declared.Refusal.{Refusal}
use Rattle.refusals.specs.Numbers.{number_of, answer_of}
use Rattle.refusals.specs.Refusals.{must, served}
use Rattle.cells.specs.Outcomes.{Coding}
use Rattle.jobs.specs.declared.Entry.{Entry}
use Rattle.jobs.specs.Jobs.{Call}
use Rattle.ledger.specs.Replay.{ReplayOut, replay_out}
use Rattle.jobcodec.specs.JobRead.{JobRead, job_read_under}
use Rattle.jobcodec.specs.DemandThree.{Claim}
use Rattle.jobcodec.specs.Given.{seen}

-- the refusal of the whole list, or what the reading answers
pub data ListSaid : Type 0 where
  list_refused job_answer : ℕ → ListSaid

pub record ListOut : Type 0 where
  pub answer : ListSaid
  pub answers : List ℕ
  pub payload : List ℕ

-- no job is read
abbrev pub list_unread : ReplayOut → List ℕ → ListOut
list_unread r out = record { answer = list_refused r.answer; answers = r.answers; payload = out }

abbrev pub list_read : ReplayOut → JobRead → ListOut
list_read r j = record { answer = job_answer j.answer; answers = r.answers; payload = j.payload }

-- the calls from a table, then "the job reading after it"
unfoldable pub list_out : Coding → List Entry → List ℕ → List ℕ → List ℕ → List ℕ → List ℕ → ListOut
list_out d es letters numbers answers w out =
    let r = replay_out es letters numbers answers in
    must (eqb r.answer served) (list_unread r out)
    (list_read r (job_read_under d r.table w out))

-- what was seen: the answer case by case, and both buffers
abbrev pub list_seen : Result (Result (Unit {0}) Refusal) Refusal → List ℕ → List ℕ → ListOut
list_seen (Err r) answers out = record { answer = list_refused (number_of r); answers = answers; payload = out }
list_seen (Ok a) answers out = record { answer = job_answer (answer_of a); answers = answers; payload = out }

-- "It is a single claim about the whole list and the job reading after it": where the list is not refused, of the answers and the buffer out'
-- that were then seen. `before` are the calls accepted earlier.
abbrev pub Claimed : Result (Result (Unit {0}) Refusal) Refusal → Coding → List Call → List Call → List ℕ → List ℕ → List ℕ → List ℕ → Type 0
Claimed (Err r) d before calls w out answers out' = Unit {0}
Claimed (Ok a) d before calls w out answers out' = Claim d before calls w out answers (seen (answer_of a) out')
