-- How far a transposition has come: what its inner functions ask and promise. Assumes nothing.
use Rattle.std.specs.Prelude.{◌≡◌, List, ℕ, ◌+◌, ◌*◌, ◌≤◌, ◌<◌, length, get_or}

-- two lent buffers, each with room for the table
pub record SizedTables (rows columns : ℕ) (from to : List ℕ) : Type 0 where
  pub source : length from ≡ rows * columns
  pub room : length to ≡ rows * columns

-- Cells of some columns, left ≤ i < right, and some rows, top ≤ j < bottom, of the table in `from` stand where the transposed table has them. All others
-- are as they were before.
pub record CellsMoved (rows columns : ℕ) (from before after : List ℕ) (left right top bottom : ℕ) : Type 0 where
  pub size : length after ≡ length before
  pub inside : (i j : ℕ) → left ≤ i → i < right → top ≤ j → j < bottom → get_or after (i * rows + j) 0 ≡ get_or from (j * columns + i) 0
  pub outside : (i j : ℕ) → i < columns → j < rows → (left ≤ i → i < right → top ≤ j → j < bottom → ⊥)
      → get_or after (i * rows + j) 0 ≡ get_or before (i * rows + j) 0

-- 16 lines of 16 symbols, each so many behind the one before, lie within a buffer
pub record LinesWithin (at step : ℕ) (xs : List ℕ) : Type 0 where
  pub apart : 16 ≤ step
  pub within : at + 15 * step + 16 ≤ length xs

-- They are copied, and all other symbols are as they were before.
pub record LinesCopied (at step : ℕ) (from : List ℕ) (onto stride lines : ℕ) (before after : List ℕ) : Type 0 where
  pub size : length after ≡ length before
  pub inside : (k x : ℕ) → k < lines → x < 16 → get_or after (onto + k * stride + x) 0 ≡ get_or from (at + k * step + x) 0
  pub outside : (t : ℕ) → ((k x : ℕ) → k < lines → x < 16 → t ≡ onto + k * stride + x → ⊥) → get_or after t 0 ≡ get_or before t 0
