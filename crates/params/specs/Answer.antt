-- What an answer of "figures alone" says: its number and values case by case, and what each field of a layout is. Assumes nothing.
use Rattle.std.specs.Prelude.{◌≡◌, Result, Ok, Err, ◌≤◌}
use Rattle.refusals.specs.declared.Refusal.{Refusal}
use Rattle.refusals.specs.Numbers.{number_of}
use Rattle.cells.specs.Outcomes.{Coding}
use Rattle.cells.specs.Figures.{Params, max_word, max_alphabet, max_bursts, placement_count_of}
use Rattle.construction_a.specs.Figures.{parts, index_tail_of, message_len_of}
use Rattle.construction_a.specs.Outcomes.{FiguresOut, figured, unserved}
use Rattle.construction_b.specs.Figures.{LongParams}
use Rattle.construction_b.specs.Figures as B
use Rattle.params.specs.declared.Layout.{Layout}
use Rattle.params.specs.declared.Spells.TheVariants.{Rank, EndOffset}

-- T, r and k of figures that fit, or the refusal's number
abbrev pub blocks_figured : Result Layout Refusal → FiguresOut
blocks_figured (Ok l) = figured l.placement_count l.index_tail l.message_len
blocks_figured (Err r) = unserved (number_of r)

-- the layout has the figures, and each number that follows from them
pub record LaidOut (f : Params) (l : Layout) : Type 0 where
  pub n-is : l.n ≡ f.n
  pub q-is : l.q ≡ f.q
  pub m-is : l.m ≡ f.m
  pub b-is : l.b ≡ f.b
  pub parts_is : l.parts ≡ parts f
  pub count-is : l.placement_count ≡ placement_count_of f
  pub tail-is : l.index_tail ≡ index_tail_of f
  pub len_is : l.message_len ≡ message_len_of f
  pub spells-is : l.spells ≡ Rank

-- a layout that is answered is that of the figures
abbrev pub LaidIn : Params → Result Layout Refusal → Type 0
LaidIn f (Ok l) = LaidOut f l
LaidIn f (Err r) = Unit {0}

-- ---- Construction B

-- the layout has the figures, and each number that follows from them: one burst, and a part is a block
pub record LongLaidOut (f : LongParams) (l : Layout) : Type 0 where
  pub n-is : l.n ≡ f.n
  pub q-is : l.q ≡ f.q
  pub m-is : l.m ≡ 1
  pub b-is : l.b ≡ f.b
  pub parts_is : l.parts ≡ B.parts
  pub count-is : l.placement_count ≡ B.placement_count_of f
  pub tail-is : l.index_tail ≡ B.index_tail_of f
  pub len_is : l.message_len ≡ B.message_len_of f
  pub spells-is : l.spells ≡ EndOffset

-- a layout that is answered is that of the figures
abbrev pub LongLaidIn : LongParams → Result Layout Refusal → Type 0
LongLaidIn f (Ok l) = LongLaidOut f l
LongLaidIn f (Err r) = Unit {0}

-- ---- Either construction

-- what every layout by blocks has of its figures' code
pub record BlocksHaveNumbers (d : Coding) (l : Layout) : Type 0 where
  pub word-is : l.n ≡ d.codec.word_len
  pub alphabet-is : l.q ≡ d.codec.alphabet
  pub bursts-is : l.m ≡ d.bursts
  pub burst-is : l.b ≡ d.burst_len
  pub count-is : l.placement_count ≡ d.placement_count_of
  pub tail-is : l.index_tail ≡ d.index_tail_of
  pub len_is : l.message_len ≡ d.codec.message_len_of

-- and no word, message, alphabet or placement is larger than the limits
pub record Small (d : Coding) : Type 0 where
  pub word-most : d.codec.word_len ≤ max_word
  pub message-most : d.codec.message_len_of ≤ d.codec.word_len
  pub alphabet-least : 2 ≤ d.codec.alphabet
  pub alphabet-most : d.codec.alphabet ≤ max_alphabet
  pub bursts-most : d.bursts ≤ max_bursts
