-- Demand 2 of what a word reader answers, under any figures and whatever the code: for each code in `codes`. Assumes nothing.
use Rattle.std.specs.Prelude.{◌≡◌, ◌↔◌, true, List, ℕ, length}
use Rattle.cells.specs.Codec.{accepted, Word, LeadsTo}
use Rattle.cells.specs.Outcomes.{Coding, Decoded, unread, decoded_from}

-- figures that fit, a word that can be found, and a buffer for its message
pub record ReadableWord (d : Coding) (w out : List ℕ) : Type 0 where
  pub range : d.in_range ≡ true
  pub fit : d.fits ≡ true
  pub word : Word d.codec w
  pub buffer : length out ≡ d.codec.message_len_of

-- of a code whose refusals of a word have the listed conditions
pub record ReadsAsWritten (d : Coding) (Listed : List ℕ → ℕ → Type 0) (w out : List ℕ) (r : Decoded) : Type 0 where
  -- accepted with a placement and a message exactly where their word differs from this one only inside the placement's bursts
  pub exactly : (ss ms : List ℕ) → (r ≡ decoded_from d.burst_len out (accepted ss ms)) ↔ LeadsTo d.codec w ss ms
  -- of which there is at most one pair
  pub one-pair : (ss ms ss' ms' : List ℕ) → LeadsTo d.codec w ss ms → LeadsTo d.codec w ss' ms' → (ss ≡ ss') × (ms ≡ ms')
  -- and refused where there is none
  pub others : ((ss ms : List ℕ) → LeadsTo d.codec w ss ms → ⊥) → (a : ℕ) × (r ≡ unread out a)
  -- with 7, 19, 8 or 9, by the Larsson code with 21, 8, 9 or 19: "Each number comes under its condition and under no other."
  pub listed : (a : ℕ) → (r ≡ unread out a) ↔ Listed w a

abbrev pub DecodesExactlyUnder : Coding → (List ℕ → ℕ → Type 0) → List ℕ → List ℕ → Decoded → Type 0
DecodesExactlyUnder d Listed w out r = ReadableWord d w out → ReadsAsWritten d Listed w out r
