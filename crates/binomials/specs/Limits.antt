-- Up to where the ways to choose are worked out, and what a count answers. Assumes nothing.
use Rattle.std.specs.Prelude.{cond, Option, Some, None, ℕ, eqb}
use Rattle.cells.specs.Figures.{max_word, Counted, counted, too_many}

-- the most things, of those that a word has symbols, out of which k can be chosen in ways that a count can give: `most-is` of proofs/Bounds.antt
abbrev pub most_things : ℕ → ℕ
most_things k = cond (eqb k 7) 1733 (cond (eqb k 8) 887 max_word)

-- how many are chosen at most by one product
abbrev pub max_taken : ℕ
max_taken = 5

-- the value of a count, or that it is too large
abbrev pub counted_as : Option ℕ → Counted
counted_as (Some t) = counted t
counted_as None = too_many
