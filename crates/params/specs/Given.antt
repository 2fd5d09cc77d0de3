-- What inner functions of the layers above may count on: a layout of figures that fit, or the shape of its words alone. Assumes nothing.
use Rattle.std.specs.Prelude.{◌≡◌, true, List, ℕ, ◌+◌, ◌-◌, ◌*◌, ◌≤◌, ◌<◌, get_or}
use Rattle.cells.specs.Plan.{Frame, Spares}
use Rattle.cells.specs.Figures.{Params, params, max_bursts, in_range, is_placement, rank}
use Rattle.construction_a.specs.Figures.{parts, blocks, head_of, block_min, fits}
use Rattle.construction_a.specs.Writing.{frame_with}
use Rattle.cells.specs.Outcomes.{Coding}
use Rattle.construction_a.specs.Outcomes.{coding as coding_a}
use Rattle.construction_b.specs.Figures.{LongParams, long_params}
use Rattle.construction_b.specs.Figures as B
use Rattle.construction_b.specs.Outcomes.{coding as coding_b}
use Rattle.construction_b.specs.Writing.{start_in, end_offset}
use Rattle.params.specs.declared.Spells.{Spells}
use Rattle.params.specs.declared.Spells.TheVariants.{Rank, EndOffset}
use Rattle.params.specs.Answer.{LaidOut, LongLaidOut}
use Rattle.params.specs.declared.Layout.{Layout}

-- the most blocks that a word can have: p × m where m is the largest
abbrev pub max_blocks : ℕ
max_blocks = max_bursts * max_bursts

-- the symbols of a short word, for which a shorter array is lent
abbrev pub short_word : ℕ
short_word = 1024

-- the figures of a layout
abbrev pub figures_of : Layout → Params
figures_of l = params l.n l.q l.m l.b

-- they fit, and the layout is theirs
pub record LayoutFits (l : Layout) : Type 0 where
  pub range : in_range (figures_of l) ≡ true
  pub fit : fits (figures_of l) ≡ true
  pub laid : LaidOut (figures_of l) l

-- ---- Construction B, and either

-- one burst's figures
abbrev pub long_of : Params → LongParams
long_of f = long_params f.n f.q f.b

-- the same of Construction B
pub record LongLayoutFits (l : Layout) : Type 0 where
  pub range : B.in_range (long_of (figures_of l)) ≡ true
  pub fit : B.fits (long_of (figures_of l)) ≡ true
  pub laid : LongLaidOut (long_of (figures_of l)) l

-- what figures give, of the construction whose index blocks spell this
abbrev pub coding_with : Spells → Params → Coding
coding_with Rank f = coding_a f
coding_with EndOffset f = coding_b (long_of f)

abbrev pub blocks_coding : Layout → Coding
blocks_coding l = coding_with l.spells (figures_of l)

abbrev pub LayoutFitsWith : Spells → Layout → Type 0
LayoutFitsWith Rank l = LayoutFits l
LayoutFitsWith EndOffset l = LongLayoutFits l

-- the figures of its construction fit, and the layout is theirs
abbrev pub BlocksServe : Layout → Type 0
BlocksServe l = LayoutFitsWith l.spells l

-- what the index blocks spell of a placement: its rank, or how far into its part the burst ends
abbrev pub spelled_with : Spells → Params → List ℕ → ℕ
spelled_with Rank f ss = rank f ss
spelled_with EndOffset f ss = end_offset (long_of f) (start_in ss)

abbrev pub spelled_in : Layout → List ℕ → ℕ
spelled_in l ss = spelled_with l.spells (figures_of l) ss

-- ---- The shape of its words

-- the blocks of a placement's word and its bursts, by the layout's own r
abbrev pub frame_of : Layout → List ℕ → Frame
frame_of l ss = frame_with l.index_tail (figures_of l) ss

-- a layout whose words have this shape, whichever construction laid it out: figures in range; a word cut into as many parts as they say; blocks with room
-- for 1 + r symbols, and for a burst; k symbols left for the message; bursts that spare the heads of I- and F-blocks
pub record Shaped (l : Layout) : Type 0 where
  pub range : in_range (figures_of l) ≡ true
  pub parts_is : l.parts ≡ parts (figures_of l)
  pub total : l.m * l.b ≤ l.n
  pub room : l.index_tail < block_min (figures_of l)
  pub short : l.b ≤ block_min (figures_of l)
  pub len_is : l.message_len + l.m * (l.b + l.parts + l.index_tail - 1) ≡ l.n
  pub spares : (ss : List ℕ) → is_placement (figures_of l) ss ≡ true → Spares (frame_of l ss)

-- the first position of each block, and behind them the word's length
abbrev pub HeadsOf : Params → List ℕ → Type 0
HeadsOf f heads = (k : ℕ) → k ≤ blocks f → get_or heads k 0 ≡ head_of f k
