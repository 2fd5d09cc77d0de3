-- What an answer of the Larsson code's "figures alone" says: its values case by case, and what each field of a layout is. Assumes nothing.
use Rattle.std.specs.Prelude.{◌≡◌, Result, Ok, Err}
use Rattle.refusals.specs.declared.Refusal.{Refusal}
use Rattle.refusals.specs.Numbers.{number_of}
use Rattle.cells.specs.Outcomes.{FiguresOut, figured, unserved}
use Rattle.cells.specs.Figures.{Params, placement_count_of}
use Rattle.larsson.specs.Figures.{sub_len_of, gap_total_of, message_len_of}
use Rattle.larsson_params.specs.declared.LarssonLayout.{LarssonLayout}

-- T, R and k of figures that fit, or the refusal's number
abbrev pub larsson_figured_as : Result LarssonLayout Refusal → FiguresOut
larsson_figured_as (Ok l) = figured l.placement_count l.sub_len l.message_len
larsson_figured_as (Err r) = unserved (number_of r)

-- the layout has the figures, and each number that follows from them
pub record LarssonLaidOut (f : Params) (l : LarssonLayout) : Type 0 where
  pub n-is : l.n ≡ f.n
  pub q-is : l.q ≡ f.q
  pub m-is : l.m ≡ f.m
  pub b-is : l.b ≡ f.b
  pub count-is : l.placement_count ≡ placement_count_of f
  pub sub_is : l.sub_len ≡ sub_len_of f
  pub gaps-is : l.gap_total ≡ gap_total_of f
  pub len_is : l.message_len ≡ message_len_of f

-- a layout that is answered is that of the figures
abbrev pub LarssonLaidIn : Params → Result LarssonLayout Refusal → Type 0
LarssonLaidIn f (Ok l) = LarssonLaidOut f l
LarssonLaidIn f (Err r) = Unit {0}
