-- What the inner functions ask and promise, lane by lane. Assumes nothing.
use Rattle.std.specs.Prelude.{◌≡◌, Bool, true, ℕ, ◌*◌, ◌<◌, eqb, length}
use mathlib.Core.List.{List, flat_map}
use Rattle.refusals.specs.Refusals.{served}
use Rattle.combinatorics.specs.Lists.{all}
use Rattle.combinatorics.specs.Stretch.{consecutive}
use Rattle.cells.specs.Codec.{accepted}
use Rattle.cells.specs.Outcomes.{Coding, encode_under, cover_under, decoded_from, decode_under}
use Rattle.codes.specs.declared.WordLayout.{WordLayout}
use Rattle.codes.specs.Given.{coding_in, Serves}
use Rattle.lanes.specs.Interleaving.{in_depth, lane}
use Rattle.lanes_roundtrip.specs.LanesRoundTrip.{lanes_sized, lanes_in_alphabet}

-- a layout that serves, and words of n symbols for d lanes
pub record LaneParts (l : WordLayout) (d : ℕ) (words : List ℕ) : Type 0 where
  pub serves : Serves l
  pub words-len : length words ≡ d * l.n

-- beside them a message for each, sent or to be read
pub record LaneMessages (l : WordLayout) (d : ℕ) (words messages : List ℕ) : Type 0 where
  pub parts : LaneParts l d words
  pub messages-len : length messages ≡ d * l.message_len

-- maps of n bytes one after another can all be covered
abbrev pub all_covered : Coding → ℕ → ℕ → List ℕ → Bool
all_covered k n d maps = all (λ j. eqb (cover_under k (lane n j maps)).answer served) (consecutive d 0)

-- the word of a message on the cover of a map, in the map's place
abbrev pub cover_word : Coding → List ℕ → List ℕ → List ℕ
cover_word k message map = (encode_under k (cover_under k map).placement message map).word

-- the same for each of d lanes: maps of n bytes, messages of so many symbols
abbrev pub cover_words : Coding → (n sent d : ℕ) → List ℕ → List ℕ → List ℕ
cover_words k n sent d messages maps = flat_map (λ j. cover_word k (lane sent j messages) (lane n j maps)) (consecutive d 0)

-- word j reads as a placement and message j
pub record ReadsLanes (k : Coding) (n sent d : ℕ) (words messages : List ℕ) : Type 0 where
  pub size : length messages ≡ d * sent
  pub starts : ℕ → List ℕ
  pub reads : (j : ℕ) → j < d → (out : List ℕ) → length out ≡ sent
      → decode_under k (lane n j words) out ≡ decoded_from k.burst_len out (accepted (starts j) (lane sent j messages))

-- a byte of the map and a symbol of damage for each cell
pub record DefectsLent (map damage interleaved : List ℕ) : Type 0 where
  pub map-len : length map ≡ length interleaved
  pub damage-len : length damage ≡ length interleaved

-- what has passed the tests 1 2 18 3 4
pub record LanesLent (l : WordLayout) (d : ℕ) (map messages damage words interleaved read : List ℕ) : Type 0 where
  pub serves : Serves l
  pub depth : in_depth d ≡ true
  pub sizes : lanes_sized (coding_in l) d map messages damage words interleaved read ≡ true
  pub symbols : lanes_in_alphabet (coding_in l) map messages damage ≡ true
