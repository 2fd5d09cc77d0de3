-- Cutting a length into pieces, and a word into parts of blocks. Assumes nothing.
use Rattle.std.specs.Prelude.{ℕ, ◌+◌, ◌-◌, ◌*◌, ◌/◌, ◌%◌, leb}
use Rattle.combinatorics.specs.Stretch.{sum, bit, top}

-- "lengths differ by at most one, shorter ones first": the length of piece i, one more for the last `total % pieces`
unfoldable pub piece_len : ℕ → ℕ → ℕ → ℕ
piece_len total pieces i = total / pieces + bit (leb (pieces - total % pieces) i)

-- where piece i starts: behind those before it
unfoldable pub piece_start : ℕ → ℕ → ℕ → ℕ
piece_start total pieces i = sum i 0 (piece_len total pieces)

-- "The word is cut into p parts ..; each part into m blocks likewise": where block j of part i starts
unfoldable pub block_at : ℕ → ℕ → ℕ → ℕ → ℕ → ℕ
block_at n p m i j = piece_start n p i + piece_start (piece_len n p i) m j

-- the same by the block's number in the word: block j of part i has number i × m + j
unfoldable pub block_head : ℕ → ℕ → ℕ → ℕ → ℕ
block_head n p m k = block_at n p m (k / m) (k % m)

-- the number of the block that has position x
unfoldable pub block_with : ℕ → ℕ → ℕ → ℕ → ℕ
block_with n p m x = top (block_head n p m) (p * m) x
