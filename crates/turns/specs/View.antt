-- The transfer program between two system calls, over lists: what is kept, what is wanted next, and what is done until then. Assumes nothing.
use Rattle.std.specs.Prelude.{Bool, true, false, cond, ◌&&◌, List, [], ◌++◌, ℕ, zero, suc, ◌-◌, leb, eqb, length, take, drop}
use Rattle.records.specs.Session.{Session, at_start}
use Rattle.lines.specs.Lines.{max_line}
use Rattle.transfer.specs.Steps.{Step, stopped, step_out}
use Rattle.records.specs.Records.{needed_for}
use Rattle.turns.specs.declared.Phase.{Phase}
use Rattle.turns.specs.declared.Phase.TheVariants.{Open, Ended, Failed, Done}
use Rattle.turns.specs.declared.Wants.{Wants}
use Rattle.turns.specs.declared.Wants.TheVariants.{Read, Write, Stop}

-- the bytes of a buffer
abbrev pub buffer_len : ℕ
buffer_len = 65536

-- the session, the bytes that were read and not served yet, those that were put and not written yet, and how the input stands
pub record View : Type 0 where
  pub session : Session
  pub waiting : List ℕ
  pub gathered : List ℕ
  pub phase : Phase

abbrev pub at_begin : View
at_begin = record { session = at_start; waiting = []; gathered = []; phase = Open }

-- ---- What is wanted of the system

-- all that is gathered is written before a read, which may wait
abbrev pub wants_none : Phase → Wants
wants_none Open = Read
wants_none Ended = Read
wants_none Failed = Read
wants_none Done = Stop

abbrev pub wants_at : ℕ → Phase → Wants
wants_at gathered phase = cond (eqb gathered 0) (wants_none phase) Write

abbrev pub wants_of : View → Wants
wants_of v = wants_at (length v.gathered) v.phase

-- ---- Until then records are served

-- the bytes that the next record takes
abbrev pub needs : View → ℕ
needs v = needed_for v.session v.waiting

-- the next record is there as a whole, or no more of it will come
abbrev pub ready_at : Phase → ℕ → ℕ → Bool
ready_at Open needed there = leb needed there
ready_at Ended needed there = true
ready_at Failed needed there = true
ready_at Done needed there = false

-- any line has room behind what is gathered
abbrev pub room_at : ℕ → Bool
room_at gathered = leb gathered (buffer_len - max_line)

abbrev pub is_servable : View → Bool
is_servable v = room_at (length v.gathered) && ready_at v.phase (needs v) (length v.waiting)

-- the step of the next record: where a read failed it can't be read
abbrev pub step_at : Phase → Session → List ℕ → Step
step_at Open s bytes = step_out s bytes
step_at Ended s bytes = step_out s bytes
step_at Failed s bytes = stopped s
step_at Done s bytes = step_out s bytes

abbrev pub step_for : View → Step
step_for v = step_at v.phase v.session (take (needs v) v.waiting)

abbrev pub phase_after : Phase → Bool → Phase
phase_after phase stops = cond stops Done phase

-- its session, its line behind what was gathered, and the bytes behind it
abbrev pub served_out : View → View
served_out v =
    record {
      session = (step_for v).next;
      waiting = drop (needs v) v.waiting;
      gathered = v.gathered ++ (step_for v).line;
      phase = phase_after v.phase (step_for v).stops;
    }

-- so many records at most
unfoldable pub served_view : ℕ → View → View
served_view zero v = v
served_view (suc most) v = cond (is_servable v) (served_view most (served_out v)) v

-- a record that does not stop has a byte, so that there are no more of them
abbrev pub advance_out : View → View
advance_out v = served_view (suc (length v.waiting)) v
