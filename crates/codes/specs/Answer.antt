-- What an answer of "figures alone" says: its number and values case by case, and what its layout serves. Assumes nothing.
use Rattle.cells.specs.Outcomes.{Coding, FiguresOut, figured, unserved}
use Rattle.std.specs.Prelude.{Result, Ok, Err}
use Rattle.refusals.specs.declared.Refusal.{Refusal}
use Rattle.refusals.specs.Numbers.{number_of}
use Rattle.codes.specs.declared.Figures.{Figures}
use Rattle.codes.specs.declared.WordLayout.{WordLayout}
use Rattle.codes.specs.Bridge.{coding_of}
use Rattle.codes.specs.Given.{count_by, tail_by, ServesUnder}

-- T, r and k of figures that fit, or the refusal's number
abbrev pub figured_as : Result WordLayout Refusal → FiguresOut
figured_as (Ok l) = figured (count_by l.laid) (tail_by l.laid) l.message_len
figured_as (Err r) = unserved (number_of r)

-- a layout that is answered is that of the figures
abbrev pub LaidUnder : Coding → Result WordLayout Refusal → Type 0
LaidUnder d (Ok l) = ServesUnder d l
LaidUnder d (Err r) = Unit {0}

abbrev pub LaidAs : Figures → Result WordLayout Refusal → Type 0
LaidAs f = LaidUnder (coding_of f)

abbrev pub ServesAs : Figures → WordLayout → Type 0
ServesAs f = ServesUnder (coding_of f)
