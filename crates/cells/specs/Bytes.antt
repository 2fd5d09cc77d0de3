-- Bytes spelled by symbols: how many symbols a byte takes, and how many bytes a message holds. Assumes nothing.
use Rattle.std.specs.Prelude.{ℕ, ◌/◌, ◌^◌, leb}
use Rattle.combinatorics.specs.Stretch.{first}

-- the values of a byte, and the symbols that it takes where there are but two
abbrev pub byte_values : ℕ
byte_values = 256

abbrev pub max_byte_width : ℕ
max_byte_width = 8

-- "A byte takes w symbols, .. w the least number of symbols that can spell 256 values." Sought below the most that q of 2 or more can need.
unfoldable pub byte_width : ℕ → ℕ
byte_width q = first max_byte_width 0 (λ w. leb byte_values (q ^ w))

-- "The payload is K bytes, K = k/w rounded down", of a message of k symbols
unfoldable pub payload_len : ℕ → ℕ → ℕ
payload_len q k = k / byte_width q
