-- What is written, damaged inside its bursts and read back. Assumes nothing.
use Rattle.std.specs.Prelude.{◌≡◌, true, List, ℕ, length}
use Rattle.combinatorics.specs.Lists.{all_below}
use Rattle.cells.specs.Codec.{accepted}
use Rattle.cells.specs.Outcomes.{Coding, Held, in_use, Decoded, decoded_from}

-- figures that fit, a placement, a message, any value up to q as damage, and room for the word and for what is read
pub record Writable (d : Coding) (at : Held) (ms ds w out : List ℕ) : Type 0 where
  pub range : d.in_range ≡ true
  pub fit : d.fits ≡ true
  pub count : at.count ≡ d.bursts
  pub placed : d.codec.placed (in_use at) ≡ true
  pub sent : length ms ≡ d.codec.message_len_of
  pub symbols : all_below d.codec.alphabet ms ≡ true
  pub damage-len : length ds ≡ d.codec.word_len
  pub damage-symbols : all_below d.codec.found_bound ds ≡ true
  pub word-len : length w ≡ d.codec.word_len
  pub read-len : length out ≡ d.codec.message_len_of

-- accepted, with the rank and the starts of the placement, and the message that was written
abbrev pub read_back : Coding → List ℕ → List ℕ → Decoded
read_back d ss ms = decoded_from d.burst_len ms (accepted ss ms)
