-- Document 01, "Figures of a strip", under Construction A; what every code has of it is in cells/specs/Figures. Assumes nothing.
use Rattle.std.specs.Prelude.{Bool, cond, ◌&&◌, ℕ, ◌+◌, ◌-◌, ◌*◌, ◌/◌, leb, ltb}
use Rattle.cells.specs.Cut.{block_head, block_with}
use Rattle.cells.specs.Figures.{Params, placement_count_of, max_count, least_tail}

-- "p is 3 for m of 1 or 2, else m."
unfoldable pub parts : Params → ℕ
parts f = cond (leb f.m 2) 3 f.m

-- "The word is cut into p parts ..; each part into m blocks likewise." Blocks are numbered through the word: block j of part i is i × m + j.
abbrev pub blocks : Params → ℕ
blocks f = parts f * f.m

-- the first position of block k
abbrev pub head_of : Params → ℕ → ℕ
head_of f k = block_head f.n (parts f) f.m k

-- the block that has position x
abbrev pub block_of : Params → ℕ → ℕ
block_of f x = block_with f.n (parts f) f.m x

-- "L is n divided by p × m, rounded down."
unfoldable pub block_min : Params → ℕ
block_min f = f.n / (parts f * f.m)

-- the limit is L: where r is not below it, figures don't fit
unfoldable pub index_tail_of : Params → ℕ
index_tail_of f = least_tail f.q f.m (placement_count_of f) (block_min f)

-- "Figures fit when m × b is at most n, r is below L, and b is at most L − r." Ticket 11: "figures over that [count] are 2, judged once m × b is
-- found to be at most n and before r is sought"
unfoldable pub fits : Params → Bool
fits f = leb (f.m * f.b) f.n && leb (placement_count_of f) max_count && ltb (index_tail_of f) (block_min f) && leb f.b (block_min f - index_tail_of f)

-- "A message has k symbols, possibly none: k is n less m × (b + p + r − 1)."
unfoldable pub message_len_of : Params → ℕ
message_len_of f = f.n - f.m * (f.b + parts f + index_tail_of f - 1)
