-- Demand 2 for the Larsson code: a written word is exactly this code's; "A word is accepted exactly if one message and placement, spoilt inside the runs, lead
-- to it"; any other word is refused with the number listed. The statement; its proof is `demand-two` of proofs/DemandTwo.antt. Assumes nothing.
use Rattle.std.specs.Prelude.{◌≡◌, true, false, List, ℕ, ◌≤◌, ◌<◌}
use Rattle.refusals.specs.Refusals.{value_too_large, disagrees, erased, no_majority, majority_refusals}
use Rattle.cells.specs.Cells.{message, pick}
use Rattle.cells.specs.Codec.{Codec, burst_codec}
use Rattle.cells.specs.Codec as AnyCodec
use Rattle.cells.specs.Erasures.{has_erasure}
use Rattle.cells.specs.Figures.{Params, in_range, is_placement, placement_count_of, placement_of}
use Rattle.larsson.specs.Figures.{fits, message_len_of}
use Rattle.larsson.specs.Writing.{plan, word}
use Rattle.larsson.specs.Reading.{is_found, agrees, read}

abbrev pub larsson : Params → Codec
larsson f = burst_codec f.n f.q f.b (message_len_of f) (is_placement f) (word f) (read f) majority_refusals

-- the listed condition of each refusal of a word
pub data Listed (f : Params) (w : List ℕ) : ℕ → Type 0 where
  no-majority : ((v : ℕ) → is_found f w v ≡ false) → Listed f w no_majority
  too_large : (v : ℕ) → is_found f w v ≡ true → placement_count_of f ≤ v → Listed f w value_too_large
  disagreeing : (v : ℕ) → is_found f w v ≡ true → v < placement_count_of f → agrees f w v (placement_of f v) ≡ false → Listed f w disagrees
  erased-message : (v : ℕ) → is_found f w v ≡ true → v < placement_count_of f → agrees f w v (placement_of f v) ≡ true
      → has_erasure f.q (pick message (plan f (placement_of f v)) w) ≡ true → Listed f w erased

abbrev pub ReadsExactly : Params → Type 0
ReadsExactly f = AnyCodec.ReadsExactly (larsson f) (Listed f)

-- for all figures that fit
abbrev pub DemandTwo : Type 0
DemandTwo = (f : Params) → in_range f ≡ true → fits f ≡ true → ReadsExactly f
