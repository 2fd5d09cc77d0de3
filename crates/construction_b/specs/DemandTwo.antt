-- Demand 2 for Construction B: a written word is exactly Construction B's; damaged inside its burst it reads back; any other word is refused with the
-- number listed. The statement; its proof is `demand-two` of proofs/DemandTwo.antt. Assumes nothing.
use Rattle.std.specs.Prelude.{◌≡◌, true, false, List, ℕ, ◌-◌, ◌≤◌, ◌<◌}
use Rattle.std.proofs.Math.Option.{Option, none, some}
use Rattle.refusals.specs.Refusals.{no_pattern, value_too_large, disagrees, erased, pattern_refusals}
use Rattle.cells.specs.Cells.{message, pick}
use Rattle.cells.specs.Codec.{Codec, burst_codec}
use Rattle.cells.specs.Codec as AnyCodec
use Rattle.cells.specs.Erasures.{has_erasure}
use Rattle.construction_b.specs.Figures.{LongParams, in_range, fits, is_placement, part_len, message_len_of}
use Rattle.construction_b.specs.Writing.{plan, word}
use Rattle.construction_b.specs.Reading.{looks_fixed, index_found, before, first_symbols, written, end_at, read}

abbrev pub construction_b : LongParams → Codec
construction_b f = burst_codec f.n f.q f.b (message_len_of f) (is_placement f) (word f) (read f) pattern_refusals

-- the I part that the listed patterns give
abbrev pub found : LongParams → List ℕ → Option ℕ
found f w = index_found (looks_fixed f w)

-- an I part was found, and none of its first r + 1 symbols is q
pub record IndexRead (f : LongParams) (w : List ℕ) (i : ℕ) : Type 0 where
  pub pattern : found f w ≡ some i
  pub whole : has_erasure f.q (first_symbols f w i) ≡ false

-- the value that it spells is below the B part's length, and its run starts at s
pub record StartRead (f : LongParams) (w : List ℕ) (i s : ℕ) : Type 0 where
  pub index : IndexRead f w i
  pub below : written f w i < part_len f (before i)
  pub from : f.b ≤ end_at f (before i) (written f w i)
  pub start : end_at f (before i) (written f w i) - f.b ≡ s

-- the listed condition of each refusal of a word
pub data Listed (f : LongParams) (w : List ℕ) : ℕ → Type 0 where
  no-pattern : found f w ≡ none → Listed f w no_pattern
  -- "a q in an I-block's first r + 1 symbols"
  erased-index : (i : ℕ) → found f w ≡ some i → has_erasure f.q (first_symbols f w i) ≡ true → Listed f w erased
  too_large : (i : ℕ) → IndexRead f w i → part_len f (before i) ≤ written f w i → Listed f w value_too_large
  before-word : (i : ℕ) → IndexRead f w i → written f w i < part_len f (before i) → end_at f (before i) (written f w i) < f.b → Listed f w disagrees
  -- "a q among message symbols"
  erased-message : (i s : ℕ) → StartRead f w i s → has_erasure f.q (pick message (plan f s) w) ≡ true → Listed f w erased

abbrev pub ReadsExactly : LongParams → Type 0
ReadsExactly f = AnyCodec.ReadsExactly (construction_b f) (Listed f)

-- for all figures that fit
abbrev pub DemandTwo : Type 0
DemandTwo = (f : LongParams) → in_range f ≡ true → fits f ≡ true → ReadsExactly f
