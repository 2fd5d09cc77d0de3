-- The declared session as the definitions hold it, and what the functions on it answer. Assumes nothing.
use Rattle.std.specs.Prelude.{◌≡◌, ◌≢◌, Option, Some, None, Ok, List, ℕ, ◌+◌, ◌*◌, ◌≤◌, length}
use Rattle.std.proofs.Math.Option.{Option as Maybe, none, some}
use Rattle.cells.specs.Figures.{max_bursts}
use Rattle.codes.specs.Answer.{LaidAs}
use Rattle.codes.specs.Given.{HasNumbers}
use Rattle.params.specs.Answer.{Small}
use Rattle.codes.specs.Bridge.{coding_of}
use Rattle.codes.specs.declared.Figures.{Figures}
use Rattle.codes.specs.declared.WordLayout.{WordLayout}
use Rattle.jobs.specs.Slots.{entries}
use Rattle.jobs.specs.Table.{twice}
use Rattle.lines.specs.Lines.{letter_s, letter_l}
use Rattle.records.specs.declared.Known.{Known}
use Rattle.records.specs.declared.LaidFigures.{LaidFigures}
use Rattle.records.specs.declared.Session.{Session as Given}
use Rattle.records.specs.Session.{Session}
use Rattle.records.specs.Records.{record_head_len, current}

abbrev pub last_figures : Option Figures → Maybe Figures
last_figures None = none
last_figures (Some f) = some f

abbrev pub session_of : Given → Session
session_of s = record { figures = last_figures s.figures; table = entries s.table; count = s.records }

-- these are the last accepted figures, and this is their layout
pub record IsCurrent (last : Maybe Figures) (f : Figures) (l : WordLayout) : Type 0 where
  pub are : current last ≡ some f
  pub laid : LaidAs f (Ok l)
  pub numbers : HasNumbers (coding_of f) l
  pub small : Small (coding_of f)

-- the last accepted figures with their layout, or that there are none
abbrev pub Current : Maybe Figures → Option LaidFigures → Type 0
Current last (Some laid) = IsCurrent last laid.figures laid.layout
Current last None = current last ≡ none

-- what is known of a session is so
pub record Knows (s : Session) (k : Known) : Type 0 where
  pub figures : Current s.figures k.current
  pub table : k.twice ≡ twice s.table

-- .. and is still so of the next session, but for figures that came with this letter
pub record StillKnown (next : Session) (letter : ℕ) (k : Known) : Type 0 where
  pub figures : letter ≢ letter_s → letter ≢ letter_l → Current next.figures k.current
  pub table : k.twice ≡ twice next.table

-- a length, or none
abbrev pub length_as : Option ℕ → Maybe ℕ
length_as (Some k) = some k
length_as None = none

-- a record that has room for the starts of a placement
pub record HasStarts (m : ℕ) (bytes : List ℕ) : Type 0 where
  pub few : m ≤ max_bursts
  pub room : record_head_len + 2 * m ≤ length bytes
