-- Figures within the limits that held before document 02. Assumes nothing.
use Rattle.std.specs.Prelude.{◌≡◌, Bool, true, ◌&&◌, ◌-◌, ◌*◌, leb, ltb}
use Rattle.cells.specs.Figures.{Params, in_range}
use Rattle.construction_a.specs.Figures.{block_min, index_tail_of, fits}

-- "n is 3 to 1024, q 2 to 256, m 1 to 6, b at least 1"
abbrev pub former_range : Params → Bool
former_range f = in_range f && leb f.n 1024 && leb f.m 6

-- "Figures fit when m × b is at most n, r is below L, and b is at most L − r", and no limit on T
abbrev pub former_fits : Params → Bool
former_fits f = leb (f.m * f.b) f.n && ltb (index_tail_of f) (block_min f) && leb f.b (block_min f - index_tail_of f)

-- Document 02, ticket 11: "Strips within the former limits give the same words." Writing names no limit and is as it was, and so is Reading but for silent
-- cells (ticket 6), so what is left to say is that the same figures fit. The proof is `same-figures` of params/proofs/Former.antt; the comparison holds
-- the words themselves to those from before.
abbrev pub SameFigures : Type 0
SameFigures = (f : Params) → former_range f ≡ true → fits f ≡ former_fits f
