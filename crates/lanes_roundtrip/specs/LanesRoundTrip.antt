-- What the call that runs the law of lanes answers, and what the lent buffers hold afterwards, for every input. Assumes nothing.
use Rattle.std.specs.Prelude.{◌≡◌, ◌≢◌, Bool, ◌&&◌, List, ℕ, ◌*◌, eqb, length}
use Rattle.refusals.specs.Refusals.{must, served, invalid, unfit, wrong_length, bad_symbol, uncovered, bad_depth}
use Rattle.combinatorics.specs.Lists.{all, all_below}
use Rattle.combinatorics.specs.Stretch.{consecutive}
use Rattle.cells.specs.Outcomes.{Coding, defect_at, cover_under}
use Rattle.lanes.specs.Interleaving.{in_depth, deinterleaved, lane}
use Rattle.lanes.specs.Lanes.{Wear, Worn, strip_map, word_map, written_strip}
use Rattle.roundtrip.specs.Damage.{damaged}

-- 0 or the refusal, and the lent buffers: the words one after another, the interleaved word (the papers' strip), and the messages that are read
pub record LanesRoundTrip : Type 0 where
  pub answer : ℕ
  pub words : List ℕ
  pub interleaved : List ℕ
  pub read : List ℕ

abbrev pub lanes_round_trip_as : List ℕ → List ℕ → List ℕ → ℕ → LanesRoundTrip
lanes_round_trip_as words interleaved read a = record { answer = a; words = words; interleaved = interleaved; read = read }

-- a byte of the map and one of damage for each cell, k message symbols for each word, and room for the same
abbrev pub lanes_sized : Coding → ℕ → (map messages damage words interleaved read : List ℕ) → Bool
lanes_sized k d map messages damage words interleaved read =
    let cells = d * k.codec.word_len in
    let symbols = d * k.codec.message_len_of in
    eqb (length map) cells && eqb (length messages) symbols && eqb (length damage) cells
    && eqb (length words) cells && eqb (length interleaved) cells && eqb (length read) symbols

-- "a symbol of q or more, or a map byte above 1"; damage may be "any value up to q"
abbrev pub lanes_in_alphabet : Coding → (map messages damage : List ℕ) → Bool
lanes_in_alphabet k map messages damage = all_below 2 map && all_below k.codec.alphabet messages && all_below k.codec.found_bound damage

-- "each word's map can be covered"
unfoldable pub lanes_covered : Coding → ℕ → List ℕ → Bool
lanes_covered k d map = all (λ j. eqb (cover_under k (word_map d k.codec.word_len map j)).answer served) (consecutive d 0)

-- the words written on their covers, side by side, and then the damage wherever the map has a defect
unfoldable pub found_interleaved : Coding → ℕ → (map messages damage : List ℕ) → List ℕ
found_interleaved k d map messages damage =
    damaged (defect_at map) damage (written_strip k.codec k.bursts k.burst_len d map (λ j. lane k.codec.message_len_of j messages))

-- 1 2 18 3 4 6; otherwise "every word written on its cover reads back". Where the maps can't be covered, they are left in the room for the words.
unfoldable pub lanes_round_trip_under : Coding → ℕ → (map messages damage words interleaved read : List ℕ) → LanesRoundTrip
lanes_round_trip_under k d map messages damage words interleaved read =
    let n = k.codec.word_len in
    let found = found_interleaved k d map messages damage in
    let kept : ℕ → LanesRoundTrip = lanes_round_trip_as words interleaved read in
    must k.in_range (kept invalid)
    (must k.fits (kept unfit)
    (must (in_depth d) (kept bad_depth)
    (must (lanes_sized k d map messages damage words interleaved read) (kept wrong_length)
    (must (lanes_in_alphabet k map messages damage) (kept bad_symbol)
    (must (lanes_covered k d map) (lanes_round_trip_as (deinterleaved d n map) interleaved read uncovered)
    (lanes_round_trip_as (deinterleaved d n found) found messages served))))))

-- "If at most m disjoint stretches of the strip are worn, each at most d × b cells, then each word's map can be covered": such a map is never refused with 6
abbrev pub CoversDefects : Coding → ℕ → List ℕ → ℕ → Type 0
CoversDefects k d map answer = (ss : List Wear) → Worn k.bursts k.burst_len d ss → map ≡ strip_map d k.codec.word_len ss → answer ≢ uncovered
