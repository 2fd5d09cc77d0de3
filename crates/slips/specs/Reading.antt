-- What the word reader answers for a strip and for the same strip with altered message cells. Assumes nothing.
use Rattle.std.specs.Prelude.{◌≡◌, true, List, ℕ, length}
use Rattle.cells.specs.Codec.{accepted, Word, LeadsTo}
use Rattle.cells.specs.Outcomes.{Decoded, decoded_from}
use Rattle.codes.specs.Bridge.{coding_of}
use Rattle.codes.specs.declared.Figures.{Figures}
use Rattle.slips.specs.Slips.{Slips, Stays, kind_under}

-- "For a strip spoilt inside its runs, alter d further symbols at message positions": w and w', and buffers of k symbols
pub record Slipped (f : Figures) (starts ms w w' : List ℕ) (d : ℕ) (out out' : List ℕ) : Type 0 where
  pub range : (coding_of f).in_range ≡ true
  pub fit : (coding_of f).fits ≡ true
  pub found : Word (coding_of f).codec w
  pub spoilt : LeadsTo (coding_of f).codec w starts ms
  pub slips : Slips (coding_of f).codec (kind_under f starts) w w' d
  pub room : length out ≡ (coding_of f).codec.message_len_of
  pub room' : length out' ≡ (coding_of f).codec.message_len_of

-- both are accepted with the same placement, the first with its message, and the second with one that differs at those d positions
pub record ReadsBoth (f : Figures) (starts ms w w' : List ℕ) (d : ℕ) (out out' : List ℕ) (first second : Decoded) : Type 0 where
  pub read : first ≡ decoded_from (coding_of f).burst_len out (accepted starts ms)
  pub altered : second ≡ decoded_from (coding_of f).burst_len out' (accepted starts second.message)
  pub stays : Stays (coding_of f).codec (kind_under f starts) starts ms w w' d second.message

abbrev pub ReadsSlipped : Figures → List ℕ → List ℕ → List ℕ → List ℕ → Decoded → Decoded → Type 0
ReadsSlipped f w w' out out' first second =
    (starts ms : List ℕ) (d : ℕ) → Slipped f starts ms w w' d out out' → ReadsBoth f starts ms w w' d out out' first second
