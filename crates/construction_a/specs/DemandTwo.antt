-- Demand 2: a written word is exactly Construction A's; damaged inside its bursts it reads back; any other word is refused with the number
-- listed. The statement; its proof is `demand-two` of proofs/DemandTwo.antt. Assumes nothing.
use Rattle.std.specs.Prelude.{◌≡◌, true, false, List, ℕ, ◌≤◌, ◌<◌}
use Rattle.std.proofs.Math.Option.{Option, none, some}
use Rattle.refusals.specs.Refusals.{no_pattern, value_too_large, disagrees, erased, pattern_refusals}
use Rattle.cells.specs.Cells.{message, pick}
use Rattle.cells.specs.Codec.{Codec, burst_codec}
use Rattle.cells.specs.Codec as AnyCodec
use Rattle.cells.specs.Erasures.{has_erasure}
use Rattle.cells.specs.Figures.{Params, in_range, is_placement, placement_count_of, placement_of}
use Rattle.construction_a.specs.Figures.{fits, parts, message_len_of}
use Rattle.construction_a.specs.Writing.{plan, word}
use Rattle.construction_a.specs.Reading.{looks_fixed, index_found, first_symbols, written, agrees, read}

abbrev pub construction_a : Params → Codec
construction_a f = burst_codec f.n f.q f.b (message_len_of f) (is_placement f) (word f) (read f) pattern_refusals

-- the I-blocks that the listed patterns give
abbrev pub found : Params → List ℕ → Option (List ℕ)
found f w = index_found (parts f) f.m (looks_fixed f w)

-- I-blocks were found, and none of their first r + 1 symbols is q
pub record IndexRead (f : Params) (w ks : List ℕ) : Type 0 where
  pub pattern : found f w ≡ some ks
  pub whole : has_erasure f.q (first_symbols f w ks) ≡ false

-- the value that they spell is below T, and its placement agrees
pub record PlacementRead (f : Params) (w ks ss : List ℕ) : Type 0 where
  pub index : IndexRead f w ks
  pub below : written f w ks < placement_count_of f
  pub starts : placement_of f (written f w ks) ≡ ss
  pub agreed : agrees f w ks ss ≡ true

-- the listed condition of each refusal of a word
pub data Listed (f : Params) (w : List ℕ) : ℕ → Type 0 where
  no-pattern : found f w ≡ none → Listed f w no_pattern
  -- "a q in an I-block's first r + 1 symbols"
  erased-index : (ks : List ℕ) → found f w ≡ some ks → has_erasure f.q (first_symbols f w ks) ≡ true → Listed f w erased
  too_large : (ks : List ℕ) → IndexRead f w ks → placement_count_of f ≤ written f w ks → Listed f w value_too_large
  disagreeing : (ks : List ℕ) → IndexRead f w ks → written f w ks < placement_count_of f
      → agrees f w ks (placement_of f (written f w ks)) ≡ false → Listed f w disagrees
  -- "a q among message symbols"
  erased-message : (ks ss : List ℕ) → PlacementRead f w ks ss → has_erasure f.q (pick message (plan f ss) w) ≡ true → Listed f w erased

abbrev pub ReadsExactly : Params → Type 0
ReadsExactly f = AnyCodec.ReadsExactly (construction_a f) (Listed f)

-- for all figures that fit
abbrev pub DemandTwo : Type 0
DemandTwo = (f : Params) → in_range f ≡ true → fits f ≡ true → ReadsExactly f
