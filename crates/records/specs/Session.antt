-- What the transfer program keeps between two records. Assumes nothing.
use Rattle.std.specs.Prelude.{List, ℕ, suc}
use Rattle.std.proofs.Math.Option.{Option, none}
use Rattle.codes.specs.declared.Figures.{Figures}
use Rattle.jobs.specs.declared.Entry.{Entry}
use Rattle.jobs.specs.Table.{empty_table}

-- the figures of the last accepted S or L, the job table, and how many records were served
pub record Session : Type 0 where
  pub figures : Option Figures
  pub table : List Entry
  pub count : ℕ

-- "The book starts empty": no figures, no number held, no record yet
abbrev pub at_start : Session
at_start = record { figures = none; table = empty_table; count = 0 }

-- "any record after the 4294967295th"
abbrev pub max_records : ℕ
max_records = 4294967295

-- after one record more, with these figures and this table
abbrev pub next_session : Session → Option Figures → List Entry → Session
next_session s f es = record { figures = f; table = es; count = suc s.count }
