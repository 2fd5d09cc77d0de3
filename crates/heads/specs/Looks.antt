-- How a block looks, by its own stretch of the word. Assumes nothing.
use Rattle.std.specs.Prelude.{Bool, List, ℕ, eqb, get_or}

-- "A block starting with 0 looks F": of a block as its own stretch of the word
abbrev pub starts_fixed : List ℕ → Bool
starts_fixed block = eqb (get_or block 0 0) 0
