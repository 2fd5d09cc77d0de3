-- What is asked of a code for localized bursts (document 01's runs), whichever it is. Assumes nothing.
use Rattle.std.specs.Prelude.{◌≡◌, ◌↔◌, Bool, true, false, List, ℕ, ◌<◌, eqb, length, get_or}
use Rattle.combinatorics.specs.Bursts.{in_burst}
use Rattle.combinatorics.specs.Lists.{any, all_below}
use Rattle.cells.specs.Erasures.{found_bound}

-- what a decoder makes of a found word: a placement, by its starts, and a message; or a refusal
pub data Reading : Type 0 where
  accepted : List ℕ → List ℕ → Reading
  refused : ℕ → Reading

-- one code: the length of its words, its alphabet, the bound of the symbols that can be found, the length of a message; which starts are
-- a placement, and which positions its bursts have; encoder and decoder; the numbers that the decoder refuses a word with, in order
pub record Codec : Type 0 where
  pub word_len : ℕ
  pub alphabet : ℕ
  pub found_bound : ℕ
  pub message_len_of : ℕ
  pub placed : List ℕ → Bool
  pub spoilt : List ℕ → ℕ → Bool
  pub encode : List ℕ → List ℕ → List ℕ
  pub decode : List ℕ → Reading
  pub word_refusals : List ℕ

-- a code on words of n symbols below q with k message symbols, whose placements have bursts of b positions
abbrev pub burst_codec : (n q b k : ℕ) → (List ℕ → Bool) → (List ℕ → List ℕ → List ℕ) → (List ℕ → Reading) → List ℕ → Codec
burst_codec n q b k placed encode decode word_refusals =
    record {
      word_len = n;
      alphabet = q;
      found_bound = found_bound q;
      message_len_of = k;
      placed = placed;
      spoilt = in_burst b;
      encode = encode;
      decode = decode;
      word_refusals = word_refusals;
    }

-- a word that can be found
pub record Word (c : Codec) (w : List ℕ) : Type 0 where
  pub complete : length w ≡ c.word_len
  pub symbols : all_below c.found_bound w ≡ true

-- a placement and a message give a word that differs from w only inside the placement's bursts
pub record LeadsTo (c : Codec) (w starts ms : List ℕ) : Type 0 where
  pub placement : c.placed starts ≡ true
  pub count : length ms ≡ c.message_len_of
  pub symbols : all_below c.alphabet ms ≡ true
  pub outside : (x : ℕ) → x < c.word_len → c.spoilt starts x ≡ false → get_or w x 0 ≡ get_or (c.encode starts ms) x 0

-- what is written is a word: of the code's length, in its alphabet
abbrev pub WritesWords : Codec → Type 0
WritesWords c = (starts ms : List ℕ) → c.placed starts ≡ true → length ms ≡ c.message_len_of → all_below c.alphabet ms ≡ true
    → (length (c.encode starts ms) ≡ c.word_len) × (all_below c.alphabet (c.encode starts ms) ≡ true)

-- the decoder accepts exactly what some placement and message lead to, and answers with those
abbrev pub Exact : Codec → Type 0
Exact c = (w starts ms : List ℕ) → Word c w → (c.decode w ≡ accepted starts ms) ↔ LeadsTo c w starts ms

-- a word is refused with no number but the code's own
abbrev pub OwnRefusals : Codec → Type 0
OwnRefusals c = (w : List ℕ) (a : ℕ) → c.decode w ≡ refused a → any (eqb a) c.word_refusals ≡ true

-- a code whose refusals of a word have the listed conditions: what is asked of it, as one
pub record ReadsExactly (c : Codec) (Listed : List ℕ → ℕ → Type 0) : Type 0 where
  -- what is written has n symbols, each below q
  pub written : WritesWords c
  -- a word is accepted with a placement and a message exactly when these lead to it
  pub exactly : Exact c
  -- and no two pairs lead to one word
  pub one-pair : (w ss ms ss' ms' : List ℕ) → Word c w → LeadsTo c w ss ms → LeadsTo c w ss' ms' → (ss ≡ ss') × (ms ≡ ms')
  -- every other word is refused
  pub others : (w : List ℕ) → Word c w → ((ss ms : List ℕ) → LeadsTo c w ss ms → ⊥) → (a : ℕ) × (c.decode w ≡ refused a)
  -- with one of the code's own numbers
  pub own : OwnRefusals c
  -- "Each number comes under its condition and under no other."
  pub listed : (w : List ℕ) (a : ℕ) → (c.decode w ≡ refused a) ↔ Listed w a
