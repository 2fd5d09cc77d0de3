-- The starts of a placement in lent bytes. Assumes nothing.
use Rattle.std.specs.Prelude.{◌&&◌, List, [], ◌∷◌, ℕ, ◌+◌, ◌*◌, leb, eqb, length}
use Rattle.refusals.specs.Refusals.{must}
use Rattle.cells.specs.Bytes.{byte_values}
use Rattle.cells.specs.Figures.{max_bursts}
use Rattle.construction_a.specs.Outcomes.{Held, held}

-- "starts of 2 bytes each, high byte first", read; `start_bytes` of the decoder is how they are written
unfoldable pub starts_from : List ℕ → List ℕ
starts_from [] = []
starts_from (high ∷ []) = []
starts_from (high ∷ low ∷ rest) = (high * byte_values + low) ∷ starts_from rest

-- the placement of m starts; one without starts where the bytes are not theirs, so that "A count other than m is 3" applies
abbrev pub placement_from : ℕ → List ℕ → Held
placement_from m bytes = must (leb m max_bursts && eqb (length bytes) (2 * m)) (held []) (held (starts_from bytes))
