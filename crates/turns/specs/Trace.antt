-- A trace of the program: what the system answered, what was read and handed over by then, and that this is what document 01 has printed. Assumes nothing.
use Rattle.std.specs.Prelude.{◌≡◌, Bool, true, false, List, [], ◌∷◌, ◌++◌, ℕ, ◌-◌, ◌<◌, length}
use Rattle.records.specs.Session.{at_start, max_records}
use Rattle.lines.specs.Lines.{stop_line, end_line}
use Rattle.transfer.specs.Program.{printed_from, printed, printed_unread}
use Rattle.turns.specs.declared.Phase.TheVariants.{Ended, Failed, Done}
use Rattle.turns.specs.declared.Wants.{Wants}
use Rattle.turns.specs.declared.Wants.TheVariants.{Read, Write, Stop}
use Rattle.turns.specs.View.{View, at_begin, wants_of, needs, advance_out}

-- ---- What the system answers

-- a read brought bytes, came to the end of input, was interrupted before it brought any, or failed; a write took all that it was handed, or failed
pub data Event : Type 0 where
  came : List ℕ → Event
  ended : Event
  interrupted : Event
  failed : Event
  written : Event
  unwritten : Event

-- only what is wanted is done; a read that brings no byte is the end of input
abbrev pub Answers : Wants → Event → Type 0
Answers Read (came bytes) = 0 < length bytes
Answers Read ended = Unit
Answers Read interrupted = Unit
Answers Read failed = Unit
Answers Read written = ⊥
Answers Read unwritten = ⊥
Answers Write (came bytes) = ⊥
Answers Write ended = ⊥
Answers Write interrupted = ⊥
Answers Write failed = ⊥
Answers Write written = Unit
Answers Write unwritten = Unit
Answers Stop e = ⊥

-- what it changes: nothing where a read was interrupted, so that it is made again
abbrev pub after_event : View → Event → View
after_event v (came bytes) = record { session = v.session; waiting = v.waiting ++ bytes; gathered = v.gathered; phase = v.phase }
after_event v ended = record { session = v.session; waiting = v.waiting; gathered = v.gathered; phase = Ended }
after_event v interrupted = v
after_event v failed = record { session = v.session; waiting = v.waiting; gathered = v.gathered; phase = Failed }
after_event v written = record { session = v.session; waiting = v.waiting; gathered = []; phase = v.phase }
after_event v unwritten = record { session = v.session; waiting = v.waiting; gathered = []; phase = Done }

-- ---- A trace: its events, the newest first

abbrev pub view_after : List Event → View
view_after [] = at_begin
view_after (e ∷ es) = advance_out (after_event (view_after es) e)

-- each answers what was wanted then
abbrev pub IsTrace : List Event → Type 0
IsTrace [] = Unit
IsTrace (e ∷ es) = IsTrace es × Answers (wants_of (view_after es)) e

-- the bytes that the reads brought, in a row
abbrev pub brought_by : Event → List ℕ
brought_by (came bytes) = bytes
brought_by ended = []
brought_by interrupted = []
brought_by failed = []
brought_by written = []
brought_by unwritten = []

abbrev pub brought : List Event → List ℕ
brought [] = []
brought (e ∷ es) = brought es ++ brought_by e

-- the bytes that were handed to the writes, in a row
abbrev pub handed_by : View → Event → List ℕ
handed_by v (came bytes) = []
handed_by v ended = []
handed_by v interrupted = []
handed_by v failed = []
handed_by v written = v.gathered
handed_by v unwritten = v.gathered

abbrev pub handed : List Event → List ℕ
handed [] = []
handed (e ∷ es) = handed es ++ handed_by (view_after es) e

-- whether every write took what it was handed
abbrev pub all_taken : List Event → Bool
all_taken [] = true
all_taken (unwritten ∷ es) = false
all_taken (came bytes ∷ es) = all_taken es
all_taken (ended ∷ es) = all_taken es
all_taken (interrupted ∷ es) = all_taken es
all_taken (failed ∷ es) = all_taken es
all_taken (written ∷ es) = all_taken es

-- ---- What is printed

-- What may still come behind what was brought, and the line that an input without any more bytes ends with: nothing and "end" after the end of input,
-- nothing and "stop 11" after a read that failed, and anything else before.
abbrev pub MayCome : List Event → List ℕ → List ℕ → Type 0
MayCome [] rest last = Unit
MayCome (ended ∷ es) rest last = (rest ≡ []) × (last ≡ end_line)
MayCome (failed ∷ es) rest last = (rest ≡ []) × (last ≡ stop_line)
MayCome (came bytes ∷ es) rest last = MayCome es rest last
MayCome (interrupted ∷ es) rest last = MayCome es rest last
MayCome (written ∷ es) rest last = MayCome es rest last
MayCome (unwritten ∷ es) rest last = MayCome es rest last

abbrev pub printed_to : List ℕ → List ℕ → List ℕ
printed_to last input = printed_from last max_records at_start input

pub record Prints (es : List Event) (rest last : List ℕ) : Type 0 where
  -- never anything else than the beginning of what is to be printed
  pub before : (out : List ℕ) × (printed_to last (brought es ++ rest) ≡ handed es ++ out)
  -- all of it at a stop, unless a write failed
  pub whole : wants_of (view_after es) ≡ Stop → all_taken es ≡ true → handed es ≡ printed_to last (brought es ++ rest)
  -- A read is wanted only where the lines of all records that were brought as a whole are written, and no more than a part of a record is left.
  pub reading : wants_of (view_after es) ≡ Read
      → (printed_to last (brought es ++ rest)
      ≡ handed es ++ printed_from last (max_records - (view_after es).session.count) (view_after es).session ((view_after es).waiting ++ rest))
      × (length (view_after es).waiting < needs (view_after es))

-- for every trace, however the input is cut into reads
abbrev pub TracePrints : Type 0
TracePrints = (es : List Event) → IsTrace es → (rest last : List ℕ) → MayCome es rest last → Prints es rest last

-- ---- From the input's side

-- how an input ends behind its last byte: at its end, or at a read that fails
pub data Close : Type 0 where
  at_end : Close
  broken : Close

abbrev pub closing : Close → Event
closing at_end = ended
closing broken = failed

abbrev pub printed_by : Close → List ℕ → List ℕ
printed_by at_end input = printed input
printed_by broken input = printed_unread input

-- the bytes of reads in a row
abbrev pub joined : List (List ℕ) → List ℕ
joined [] = []
joined (r ∷ reads) = r ++ joined reads

-- A trace over these reads: it makes them in their order, then the last, as far as it reads at all, and its writes all take what they are handed.
-- Second, the reads that are still to come.
pub data TraceOver (close : Close) (reads : List (List ℕ)) : List (List ℕ) → List Event → Type 0 where
  begins : TraceOver close reads reads []
  reading : {left : List (List ℕ)} {es : List Event} (r : List ℕ) → TraceOver close reads (r ∷ left) es → TraceOver close reads left (came r ∷ es)
  closed : {es : List Event} → TraceOver close reads [] es → TraceOver close reads [] (closing close ∷ es)
  writing : {left : List (List ℕ)} {es : List Event} → TraceOver close reads left es → TraceOver close reads left (written ∷ es)

-- each read brings a byte
abbrev pub AllSome : List (List ℕ) → Type 0
AllSome [] = Unit
AllSome (r ∷ reads) = (0 < length r) × AllSome reads

-- a trace over these reads that stops, having handed over exactly that
pub record WholeTrace (close : Close) (reads : List (List ℕ)) (out : List ℕ) : Type 0 where
  pub events : List Event
  pub left : List (List ℕ)
  pub trace : IsTrace events
  pub over : TraceOver close reads left events
  pub stops : wants_of (view_after events) ≡ Stop
  pub hands : handed events ≡ out

-- Every input, however it is cut into reads, has such a trace, and what it prints is the definition's.
abbrev pub InputPrints : Type 0
InputPrints = (reads : List (List ℕ)) → AllSome reads → (close : Close) → WholeTrace close reads (printed_by close (joined reads))
