-- Payloads: bytes spelled into the symbols of a message, and read back. Over the alphabet q and the message's length k alone. Assumes nothing.
use Rattle.std.specs.Prelude.{◌≡◌, Bool, true, ◌&&◌, ℕ, ◌-◌, ◌*◌, leb, eqb, length, drop, replicate}
use mathlib.Core.List.{List, ◌++◌, flat_map}
use Rattle.combinatorics.specs.Lists.{all, all_below}
use Rattle.combinatorics.specs.Stretch.{tabulate}
use Rattle.cells.specs.Digits.{Place, plain, spell, value}
use Rattle.cells.specs.Bytes.{byte_values, byte_width, payload_len}

-- "The payload is K bytes"
pub record IsPayload (q k : ℕ) (payload : List ℕ) : Type 0 where
  pub count : length payload ≡ payload_len q k
  pub bytes : all_below byte_values payload ≡ true

-- "10: K below 5" otherwise
unfoldable pub carries_job : ℕ → ℕ → Bool
carries_job q k = leb 5 (payload_len q k)

-- "a 4-byte job number, high byte first, then text"
unfoldable pub job_number : List ℕ → ℕ
job_number payload = value byte_values (replicate 4 plain) payload

-- "A byte takes w symbols, most significant first": w plain places
abbrev pub byte_places : ℕ → List Place
byte_places q = replicate (byte_width q) plain

-- the symbols of all K bytes; those behind them are the leftovers
abbrev pub spelled_len : ℕ → ℕ → ℕ
spelled_len q k = payload_len q k * byte_width q

-- "the message that spells its payload, leftovers 0"
unfoldable pub message_of : ℕ → ℕ → List ℕ → List ℕ
message_of q k payload = flat_map (spell q (byte_places q)) payload ++ replicate (k - spelled_len q k) 0

-- what the symbols of each byte spell
unfoldable pub payload_in : ℕ → ℕ → List ℕ → List ℕ
payload_in q k ms = tabulate (payload_len q k) 0 (λ i. value q (byte_places q) (drop (i * byte_width q) ms))

-- 10 otherwise: "a byte's symbols spelling 256 or more, or a leftover symbol not 0"
unfoldable pub spells_payload : ℕ → ℕ → List ℕ → Bool
spells_payload q k ms = all_below byte_values (payload_in q k ms) && all (λ x. eqb x 0) (drop (spelled_len q k) ms)
