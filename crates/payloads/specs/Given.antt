-- What spelling and reading a payload ask for. Assumes nothing.
use Rattle.std.specs.Prelude.{◌≡◌, List, ℕ, ◌^◌, ◌≤◌, ◌<◌, length}
use Rattle.cells.specs.Bytes.{max_byte_width, byte_width, payload_len}
use Rattle.cells.specs.Figures.{max_alphabet}

-- an alphabet of bytes, the symbols that a byte takes in it, and the bytes that the message holds
pub record Measured (q width count : ℕ) (message : List ℕ) : Type 0 where
  pub alphabet : 2 ≤ q
  pub bytes : q ≤ max_alphabet
  pub width_is : width ≡ byte_width q
  pub count-is : count ≡ payload_len q (length message)

-- a number that so many symbols can spell
pub record Spellable (q value width : ℕ) : Type 0 where
  pub alphabet : 2 ≤ q
  pub bytes : q ≤ max_alphabet
  pub below : value < q ^ width

-- symbols enough, and no more than a byte can take
pub record EnoughSymbols (q width : ℕ) (symbols : List ℕ) : Type 0 where
  pub bytes : q ≤ max_alphabet
  pub short : width ≤ max_byte_width
  pub room : width ≤ length symbols
