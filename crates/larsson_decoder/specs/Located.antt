-- What the reader has found where it knows a word's placement, before it looks at the message. Assumes nothing.
use Rattle.std.specs.Prelude.{◌≡◌, Result, Ok, Err, true, not, List, ℕ, ◌<◌, length}
use Rattle.std.proofs.Math.Option.{some}
use Rattle.refusals.specs.declared.Refusal.{Refusal}
use Rattle.refusals.specs.Numbers.{number_of}
use Rattle.refusals.specs.Refusals.{must, erased}
use Rattle.combinatorics.specs.Bursts.{rank_of}
use Rattle.cells.specs.Cells.{message, pick}
use Rattle.cells.specs.Codec.{Reading, accepted, refused}
use Rattle.cells.specs.Erasures.{has_erasure}
use Rattle.cells.specs.Outcomes.{held}
use Rattle.cells.specs.Figures.{Params, is_placement, placement_count_of}
use Rattle.larsson.specs.Reading.{found, read}
use Rattle.larsson.specs.Writing.{plan}
use Rattle.placements.specs.declared.Placement.{Placement}
use Rattle.placements.specs.Bridge.{held_as, starts_in}
use Rattle.blocks.specs.Numbers.{kind_numbers}
use Rattle.larsson_params.specs.declared.LarssonLayout.{LarssonLayout}
use Rattle.larsson_params.specs.Given.{larsson_figures_of}
use Rattle.sub_blocks.specs.Given.{BearersOf}
use Rattle.sub_blocks.specs.Found.{FoundWord, SubBlockValued, spelled_at}
use Rattle.larsson_decoder.specs.declared.locate.Located.{Located}

-- "a silent cell in the message is 19": what is left to refuse once the placement is known; otherwise its message is taken
abbrev pub read_larsson_message : Params → List ℕ → List ℕ → Reading
read_larsson_message f w ss =
    let ms = pick message (plan f ss) w in
    must (not (has_erasure f.q ms)) (refused erased) (accepted ss ms)

-- a sub-block that has the majority's value, which is a rank
pub record MajorityValued (l : LarssonLayout) (w : List ℕ) (i v : ℕ) : Type 0 where
  pub finding : FoundWord l w
  pub some-symbol : 0 < l.sub_len
  pub holding : SubBlockValued (larsson_figures_of l) w i
  pub taken : found (larsson_figures_of l) w ≡ some v
  pub spelled : v ≡ spelled_at (larsson_figures_of l) w i
  pub below : v < placement_count_of (larsson_figures_of l)

-- a placement and its rank, with the kinds of its sub-blocks; the message alone is left to read
pub record LocatedAt (f : Params) (w : List ℕ) (v : ℕ) (at : Placement) (kinds : List ℕ) : Type 0 where
  pub placed : is_placement f (starts_in at) ≡ true
  pub is_held : held_as at ≡ held (starts_in at)
  pub ranked : v ≡ rank_of f.b (starts_in at)
  pub bearers : BearersOf f (starts_in at) kinds
  pub read-as : read f w ≡ read_larsson_message f w (starts_in at)

-- or the refusal of the word
abbrev pub LocatedIn : Params → List ℕ → Result Located Refusal → Type 0
LocatedIn f w (Ok found) = LocatedAt f w found.rank found.placement (kind_numbers found.kinds)
LocatedIn f w (Err r) = read f w ≡ refused (number_of r)

-- a complete word without values above q, of sub-blocks that have a symbol, and a buffer of k symbols
pub record LarssonWordLent (l : LarssonLayout) (w out : List ℕ) : Type 0 where
  pub finding : FoundWord l w
  pub some-symbol : 0 < l.sub_len
  pub room : length out ≡ l.message_len
