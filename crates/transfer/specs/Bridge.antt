-- The declared session as the definitions hold it, and what the functions on it ask for and answer. Assumes nothing.
use Rattle.std.specs.Prelude.{◌≡◌, Bool, true, List, ℕ, ◌≤◌, ◌<◌, length}
use Rattle.std.proofs.Math.Option.{Option}
use Rattle.codes.specs.Given.{HasNumbers, coding_in, Serves}
use Rattle.params.specs.Answer.{Small}
use Rattle.codes.specs.Bridge.{coding_of}
use Rattle.codes.specs.declared.Figures.{Figures}
use Rattle.codes.specs.declared.WordLayout.{WordLayout}
use Rattle.jobs.specs.Table.{twice}
use Rattle.jobs.specs.declared.Entry.{Entry}
use Rattle.records.specs.declared.Known.{Known}
use Rattle.records.specs.declared.Session.{Session as Given}
use Rattle.transfer.specs.declared.StepAnswer.{StepAnswer}
use Rattle.text.specs.Text.{overwrite}
use Rattle.records.specs.Bridge.{session_of, Knows}
use Rattle.records.specs.Session.{Session, max_records}
use Rattle.lines.specs.Lines.{max_line}
use Rattle.records.specs.Records.{is_whole}
use Rattle.transfer.specs.Steps.{Step}

-- ---- A step

-- a record may still be served, and the lent line has room for any line
pub record Ready (s : Given) (line : List ℕ) : Type 0 where
  pub fewer : s.records < max_records
  pub room : max_line ≤ length line

-- a step is as the definition says, and the lent line begins with its line and keeps what stood behind
pub record Shown (r : StepAnswer) (before line : List ℕ) (o : Step) : Type 0 where
  pub next : session_of r.next ≡ o.next
  pub printed : line ≡ overwrite 0 o.line before
  pub len : r.len ≡ length o.line
  pub stops : r.stops ≡ o.stops

-- the lent line begins with that of a step, whatever session is kept, and keeps what stood behind
pub record Put (len : ℕ) (before line : List ℕ) (step : Session → Step) : Type 0 where
  pub printed : (s : Session) → line ≡ overwrite 0 (step s).line before
  pub length-is : (s : Session) → len ≡ length (step s).line

-- a layout of figures that fit, and whether the table holds a number twice
pub record ServesTold (l : WordLayout) (is_twice : Bool) (es : List Entry) : Type 0 where
  pub serves : Serves l
  pub told : is_twice ≡ twice es

-- the figures that a W or R record is read by with their layout and its numbers, what is told of the table, and a record as long as it needs at least
pub record RecordLaid (es : List Entry) (line : List ℕ) (f : Figures) (l : WordLayout) (is_twice : Bool) (long : ℕ) (bytes : List ℕ) : Type 0 where
  pub room : max_line ≤ length line
  pub same : coding_in l ≡ coding_of f
  pub table : ServesTold l is_twice es
  pub numbers : HasNumbers (coding_of f) l
  pub small : Small (coding_of f)
  pub long-enough : long ≤ length bytes

-- a record that has its letter's length, and what is known of the session
pub record Whole (s : Given) (known : Known) (line bytes : List ℕ) (k : Option ℕ) : Type 0 where
  pub ready : Ready s line
  pub knows : Knows (session_of s) known
  pub whole : is_whole bytes k ≡ true
