-- What the layers above may count on: a layout of figures that fit, whichever code's they are. Assumes nothing.
use Rattle.std.specs.Prelude.{◌≡◌, ℕ}
use Rattle.cells.specs.Outcomes.{Coding}
use Rattle.larsson.specs.Outcomes.{coding as coding_larsson}
use Rattle.params.specs.declared.Layout.{Layout}
use Rattle.params.specs.Given.{blocks_coding, BlocksServe}
use Rattle.larsson_params.specs.declared.LarssonLayout.{LarssonLayout}
use Rattle.larsson_params.specs.Given.{larsson_figures_of, LarssonLayoutFits}
use Rattle.codes.specs.declared.Laid.{Laid}
use Rattle.codes.specs.declared.Laid.TheVariants.{Blocks, SubBlocks}
use Rattle.codes.specs.declared.WordLayout.{WordLayout}

-- what a code's own layout gives
abbrev pub coding_by : Laid → Coding
coding_by (Blocks l) = blocks_coding l
coding_by (SubBlocks l) = coding_larsson (larsson_figures_of l)

abbrev pub coding_in : WordLayout → Coding
coding_in l = coding_by l.laid

-- T, and r or R
abbrev pub count_by : Laid → ℕ
count_by (Blocks l) = l.placement_count
count_by (SubBlocks l) = l.placement_count

abbrev pub tail_by : Laid → ℕ
tail_by (Blocks l) = l.index_tail
tail_by (SubBlocks l) = l.sub_len

-- its figures fit, and it is theirs
abbrev pub FitsBy : Laid → Type 0
FitsBy (Blocks l) = BlocksServe l
FitsBy (SubBlocks l) = LarssonLayoutFits l

-- what every layout has of its figures' code
pub record HasNumbers (d : Coding) (l : WordLayout) : Type 0 where
  pub word-is : l.n ≡ d.codec.word_len
  pub alphabet-is : l.q ≡ d.codec.alphabet
  pub bursts-is : l.m ≡ d.bursts
  pub burst-is : l.b ≡ d.burst_len
  pub count-is : count_by l.laid ≡ d.placement_count_of
  pub tail-is : tail_by l.laid ≡ d.index_tail_of
  pub len_is : l.message_len ≡ d.codec.message_len_of

-- the figures of its code fit, and the layout is theirs
pub record Serves (l : WordLayout) : Type 0 where
  pub fitting : FitsBy l.laid
  pub numbers : HasNumbers (coding_in l) l

-- what the layout gives is what is given, and it serves
abbrev pub ServesUnder : Coding → WordLayout → Type 0
ServesUnder d l = (coding_in l ≡ d) × Serves l

-- ---- From a code's own layout

abbrev pub of_blocks : Layout → WordLayout
of_blocks l =
    record {
      n = l.n;
      q = l.q;
      m = l.m;
      b = l.b;
      message_len = l.message_len;
      laid = Blocks l;
    }

abbrev pub of_sub_blocks : LarssonLayout → WordLayout
of_sub_blocks l =
    record {
      n = l.n;
      q = l.q;
      m = l.m;
      b = l.b;
      message_len = l.message_len;
      laid = SubBlocks l;
    }
