-- The law of words side by side: at most m worn stretches of the strip, each of at most d × b cells, leave every word readable. The statement; its
-- proofs are `lanes-hold` and `lanes-read` of proofs/Lanes.antt. Assumes nothing.
use Rattle.std.specs.Prelude.{◌≡◌, Bool, true, false, ◌&&◌, ℕ, ◌+◌, ◌*◌, ◌≤◌, ◌<◌, leb, ltb, length, get_or}
use mathlib.Core.List.{List, flat_map}
use Rattle.refusals.specs.Refusals.{served}
use Rattle.combinatorics.specs.Bursts.{apart, in_burst, placements, starts_of, covers, cover_rank}
use Rattle.combinatorics.specs.Lists.{all, any, all_below}
use Rattle.combinatorics.specs.Stretch.{bit, tabulate, consecutive}
use Rattle.cells.specs.Codec.{Codec, accepted, WritesWords, Exact}
use Rattle.cells.specs.Outcomes.{Coding, held, encode_under, defect_at, cover_under, decoded_from, decode_under}
use Rattle.codes.specs.declared.Figures.{Figures}
use Rattle.codes.specs.Bridge.{coding_of}
use Rattle.lanes.specs.Interleaving.{in_depth, interleaved, deinterleaved, lane}
use Rattle.lanes.specs.Outcomes.{interleave_under, deinterleave_under}

-- ---- Wear

-- a stretch of worn cells: so many, from the first on
pub record Wear : Type 0 where
  pub from : ℕ
  pub cells : ℕ

abbrev pub wear_has : Wear → ℕ → Bool
wear_has s t = leb s.from t && ltb t (s.from + s.cells)

unfoldable pub is_worn : List Wear → ℕ → Bool
is_worn ss t = any (λ s. wear_has s t) ss

abbrev pub is_short : ℕ → ℕ → Wear → Bool
is_short b d s = leb s.cells (d * b)

-- "at most m disjoint stretches of the strip are worn, each at most d × b cells". That they are disjoint is not asked: the law holds where they overlap.
pub record Worn (m b d : ℕ) (ss : List Wear) : Type 0 where
  pub few : length ss ≤ m
  pub short : all (is_short b d) ss ≡ true

-- the strip's map, 1 worn and 0 sound
unfoldable pub strip_map : ℕ → ℕ → List Wear → List ℕ
strip_map d n ss = tabulate (d * n) 0 (λ t. bit (is_worn ss t))

-- "each word's map": the strip's is taken apart as the strip is
unfoldable pub word_map : ℕ → ℕ → List ℕ → ℕ → List ℕ
word_map d n map j = lane n j (deinterleaved d n map)

-- ---- Under any codec whose placements are m bursts of b positions

pub record HasBursts (c : Codec) (m b : ℕ) : Type 0 where
  pub some : 0 < b
  pub room : m * b ≤ c.word_len
  pub placed : (starts : List ℕ) → length starts ≡ m → apart b c.word_len 0 starts ≡ true → c.placed starts ≡ true
  pub spoilt : (starts : List ℕ) (x : ℕ) → in_burst b starts x ≡ true → c.spoilt starts x ≡ true

-- a word's cover: the planner's placement for its map, of n positions
unfoldable pub cover_of : ℕ → ℕ → ℕ → List ℕ → List ℕ
cover_of n m b map = starts_of n m b (cover_rank n m b (defect_at map))

-- a message for each word
abbrev pub Messages : Codec → ℕ → (ℕ → List ℕ) → Type 0
Messages c d messages = (j : ℕ) → j < d → (length (messages j) ≡ c.message_len_of) × (all_below c.alphabet (messages j) ≡ true)

module _ (c : Codec) (m b d : ℕ) (map : List ℕ) where
  abbrev pub cover_at : ℕ → List ℕ
  cover_at j = cover_of c.word_len m b (word_map d c.word_len map j)

  -- "every word written on its cover": one after another, and side by side
  abbrev pub written_words : (ℕ → List ℕ) → List ℕ
  written_words messages = flat_map (λ j. c.encode (cover_at j) (messages j)) (consecutive d 0)

  abbrev pub written_strip : (ℕ → List ℕ) → List ℕ
  written_strip messages = interleaved d c.word_len (written_words messages)

  -- "after damage in those stretches", which may now leave "any value up to q": the strip as it is found
  pub record FoundStrip (messages : ℕ → List ℕ) (strip : List ℕ) : Type 0 where
    pub complete : length strip ≡ d * c.word_len
    pub symbols : all_below c.found_bound strip ≡ true
    pub outside : (t : ℕ) → t < d * c.word_len → defect_at map t ≡ false → get_or strip t 0 ≡ get_or (written_strip messages) t 0

  pub record LanesHold : Type 0 where
    -- "then each word's map can be covered"
    pub coverable : (j : ℕ) → j < d → cover_rank c.word_len m b (defect_at (word_map d c.word_len map j)) < placements c.word_len m b
    -- "and .. every word written on its cover reads back"
    pub reads : (messages : ℕ → List ℕ) (strip : List ℕ) → Messages c d messages → FoundStrip messages strip
        → (j : ℕ) → j < d → c.decode (lane c.word_len j (deinterleaved d c.word_len strip)) ≡ accepted (cover_at j) (messages j)

-- "Show this once for every depth."
abbrev pub LawOfLanes : Type 0
LawOfLanes = (c : Codec) (m b d : ℕ) (ss : List Wear) → HasBursts c m b → WritesWords c → Exact c → Worn m b d ss
    → LanesHold c m b d (strip_map d c.word_len ss)

-- ---- Under any figures: what each call answers, in the order of the calls

module _ (k : Coding) (d : ℕ) (map : List ℕ) where
  abbrev pub cover_in : ℕ → List ℕ
  cover_in j = cover_at k.codec k.bursts k.burst_len d map j

  abbrev pub words_in : (ℕ → List ℕ) → List ℕ
  words_in messages = written_words k.codec k.bursts k.burst_len d map messages

  pub record LanesReadUnder : Type 0 where
    -- the strip's map taken apart: "each word's map" is its lane
    pub mapped : (out : List ℕ) → in_depth d ≡ true → length out ≡ d * k.codec.word_len
        → deinterleave_under k d map out ≡ record { answer = served; buffer = deinterleaved d k.codec.word_len map }
    -- "can be covered": by a placement whose bursts have every defect of the map
    pub covered : (j : ℕ) → j < d → cover_under k (word_map d k.codec.word_len map j) ≡ record { answer = served; placement = held (cover_in j) }
    pub covering : (j : ℕ) → j < d → (k.codec.placed (cover_in j) ≡ true)
        × (covers k.codec.word_len k.burst_len (defect_at (word_map d k.codec.word_len map j)) (cover_in j) ≡ true)
    -- "every word written on its cover"
    pub written : (messages : ℕ → List ℕ) (out : List ℕ) → Messages k.codec d messages → length out ≡ k.codec.word_len
        → (j : ℕ) → j < d → encode_under k (held (cover_in j)) (messages j) out
        ≡ record { answer = served; word = lane k.codec.word_len j (words_in messages) }
    pub laid : (messages : ℕ → List ℕ) (out : List ℕ) → Messages k.codec d messages → in_depth d ≡ true → length out ≡ d * k.codec.word_len
        → interleave_under k d (words_in messages) out ≡ record { answer = served; buffer = interleaved d k.codec.word_len (words_in messages) }
    -- "after damage in those stretches"
    pub taken : (messages : ℕ → List ℕ) (strip out : List ℕ) → FoundStrip k.codec k.bursts k.burst_len d map messages strip → in_depth d ≡ true
        → length out ≡ d * k.codec.word_len
        → deinterleave_under k d strip out ≡ record { answer = served; buffer = deinterleaved d k.codec.word_len strip }
    -- "every word .. reads back"
    pub read : (messages : ℕ → List ℕ) (strip out : List ℕ) → Messages k.codec d messages
        → FoundStrip k.codec k.bursts k.burst_len d map messages strip → length out ≡ k.codec.message_len_of
        → (j : ℕ) → j < d → decode_under k (lane k.codec.word_len j (deinterleaved d k.codec.word_len strip)) out
        ≡ decoded_from k.burst_len out (accepted (cover_in j) (messages j))

abbrev pub LanesRead : Type 0
LanesRead = (f : Figures) (d : ℕ) (ss : List Wear) → (coding_of f).in_range ≡ true → (coding_of f).fits ≡ true
    → Worn (coding_of f).bursts (coding_of f).burst_len d ss → LanesReadUnder (coding_of f) d (strip_map d (coding_of f).codec.word_len ss)
