-- Document 02, "Strips from the frame maker": a word checked against the placement and message that it should hold. The outcome for every input, and
-- what it means; the proof is `verifies` of proofs/Checking.antt. Assumes nothing.
use Rattle.std.specs.Prelude.{◌≡◌, ◌↔◌, Bool, true, false, not, cond, ◌&&◌, List, ℕ, ◌<◌, eqb, length, get_or}
use Rattle.refusals.specs.Refusals.{must, served, invalid, unfit, wrong_length, bad_symbol, bad_starts}
use Rattle.combinatorics.specs.Bursts.{apart}
use Rattle.combinatorics.specs.Lists.{all_below}
use Rattle.combinatorics.specs.Stretch.{has}
use Rattle.cells.specs.Codec.{Codec, accepted}
use Rattle.cells.specs.Outcomes.{Coding, Held, in_use}
use Rattle.cells.specs.Figures.{max_bursts}
use Rattle.codes.specs.declared.Figures.{Figures}
use Rattle.codes.specs.Bridge.{coding_of}

-- "yes exactly when the word agrees with Construction A's word at every position outside the runs", and so with any code's
abbrev pub differs_at : Codec → List ℕ → List ℕ → List ℕ → ℕ → Bool
differs_at c w starts ms x = not (c.spoilt starts x) && not (eqb (get_or w x 0) (get_or (c.encode starts ms) x 0))

unfoldable pub agrees_outside : Codec → List ℕ → List ℕ → List ℕ → Bool
agrees_outside c w starts ms = not (has c.word_len 0 (differs_at c w starts ms))

-- yes, no, or the refusal
pub data Verdict : Type 0 where
  agreeing differing : Verdict
  unchecked : ℕ → Verdict

-- the refusal, or 0: "no" is an answer, as "yes" is
abbrev pub verdict_refusal : Verdict → ℕ
verdict_refusal agreeing = served
verdict_refusal differing = served
verdict_refusal (unchecked a) = a

-- "Malformed lists meet the word writer's refusals in its order, and a value above q in the word is 4": 1 2 3 5 4
abbrev pub verify_under : Coding → Held → List ℕ → List ℕ → Verdict
verify_under d at ms w =
    let c = d.codec in
    must d.in_range (unchecked invalid)
    (must d.fits (unchecked unfit)
    (must (eqb at.count d.bursts && eqb (length ms) c.message_len_of && eqb (length w) c.word_len) (unchecked wrong_length)
    (must (apart d.burst_len c.word_len 0 (in_use at)) (unchecked bad_starts)
    (must (all_below c.alphabet ms && all_below c.found_bound w) (unchecked bad_symbol)
    (cond (agrees_outside c w (in_use at) ms) agreeing differing)))))

-- ---- What the answer means where nothing is refused

pub record Checkable (d : Coding) (at : Held) (ms w : List ℕ) : Type 0 where
  pub range : d.in_range ≡ true
  pub fit : d.fits ≡ true
  -- "A placement is held as six starts and the count in use", eight since document 02, ticket 11
  pub held : length at.starts ≡ max_bursts
  pub count : at.count ≡ d.bursts
  pub message : length ms ≡ d.codec.message_len_of
  pub complete : length w ≡ d.codec.word_len
  pub starts : apart d.burst_len d.codec.word_len 0 (in_use at) ≡ true
  pub symbols : all_below d.codec.alphabet ms ≡ true
  pub found : all_below d.codec.found_bound w ≡ true

-- "at every position outside the runs"
abbrev pub SameOutside : Codec → List ℕ → List ℕ → List ℕ → Type 0
SameOutside c starts v w = (x : ℕ) → x < c.word_len → c.spoilt starts x ≡ false → get_or v x 0 ≡ get_or w x 0

pub record Verifies (d : Coding) (at : Held) (ms w : List ℕ) : Type 0 where
  -- yes exactly when the word agrees with the code's outside the runs
  pub exactly : (verify_under d at ms w ≡ agreeing) ↔ SameOutside d.codec (in_use at) w (d.codec.encode (in_use at) ms)
  -- exactly when the reader gives back this placement and message
  pub reads : (verify_under d at ms w ≡ agreeing) ↔ (d.codec.decode w ≡ accepted (in_use at) ms)
  -- else no
  pub else : (verify_under d at ms w ≡ agreeing → ⊥) → verify_under d at ms w ≡ differing
  -- "The answer carries no opinion on the cells inside them."
  pub no-opinion : (w' : List ℕ) → Checkable d at ms w' → SameOutside d.codec (in_use at) w' w → verify_under d at ms w' ≡ verify_under d at ms w
  -- "silent cells count as disagreeing outside the runs"
  pub erasure : (x : ℕ) → x < d.codec.word_len → d.codec.spoilt (in_use at) x ≡ false → get_or w x 0 ≡ d.codec.alphabet → verify_under d at ms w ≡ differing

-- under the figures of each code
abbrev pub VerifiesWords : Type 0
VerifiesWords = (f : Figures) (at : Held) (ms w : List ℕ) → Checkable (coding_of f) at ms w → Verifies (coding_of f) at ms w
