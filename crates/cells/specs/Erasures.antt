-- Document 02, "Cells without a reading": erasures, in the field's word. Assumes nothing.
use Rattle.std.specs.Prelude.{Bool, not, cond, List, ℕ, suc, ltb, eqb, get_or}
use Rattle.combinatorics.specs.Lists.{any}
use Rattle.cells.specs.Bytes.{byte_values}

-- "The new heads report a cell they cannot read as value q, for q up to 255": the bound of what can be found in a cell
unfoldable pub found_bound : ℕ → ℕ
found_bound q = cond (ltb q byte_values) (suc q) q

-- "a q in .." or "among .." some symbols
unfoldable pub has_erasure : ℕ → List ℕ → Bool
has_erasure q xs = any (λ x. eqb x q) xs

-- the positions of a word whose value is no symbol of the alphabet: where none is above q, those of its erasures
abbrev pub erased_at : ℕ → List ℕ → ℕ → Bool
erased_at q w x = not (ltb (get_or w x 0) q)
