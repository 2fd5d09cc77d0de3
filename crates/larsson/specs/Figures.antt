-- Ticket 8 of document 02: the Larsson code of source document 003, section 3.2.2. Its figures; n, q, m, b and T are those of document 01.
-- Assumes nothing.
use Rattle.std.specs.Prelude.{Bool, ◌&&◌, ℕ, suc, ◌+◌, ◌-◌, ◌*◌, ◌^◌, leb}
use Rattle.combinatorics.specs.Stretch.{first}
use Rattle.cells.specs.Cut.{piece_len, piece_start}
use Rattle.cells.specs.Figures.{Params, placement_count_of, max_count}

-- "R is the least number of symbols that spell at least T values": sought below n, which serves where none below does (`rank_room`)
unfoldable pub sub_len_of : Params → ℕ
sub_len_of f = first f.n 0 (λ r. leb (placement_count_of f) (f.q ^ r))

-- "There are 2 × m + 1 sub-blocks of R symbols", with 2 × m gaps between them
abbrev pub sub_blocks : Params → ℕ
sub_blocks f = suc (2 * f.m)

abbrev pub gaps : Params → ℕ
gaps f = 2 * f.m

-- the symbols in the gaps
unfoldable pub gap_total_of : Params → ℕ
gap_total_of f = f.n - sub_blocks f * sub_len_of f

-- "the gaps between as equal as possible and shorter first"
unfoldable pub gap_len : Params → ℕ → ℕ
gap_len f i = piece_len (gap_total_of f) (gaps f) i

-- "the first at 0, the last ending the word": sub-block i stands behind i others and i gaps
unfoldable pub sub_start : Params → ℕ → ℕ
sub_start f i = i * sub_len_of f + piece_start (gap_total_of f) (gaps f) i

-- "Runs and sub-blocks must each fit in n, and b is at most the shortest gap plus 1": the shortest is the first. Between the two, ticket 11: "figures over
-- that are 2, judged once m × b is found to be at most n and before r is sought"
unfoldable pub fits : Params → Bool
fits f = leb (f.m * f.b) f.n && leb (placement_count_of f) max_count && leb (sub_blocks f * sub_len_of f) f.n && leb f.b (gap_len f 0 + 1)

-- the message's symbols, by 003's (3.16): n less the m × b of the runs and the R of each of m + 1 sub-blocks
unfoldable pub message_len_of : Params → ℕ
message_len_of f = f.n - f.m * f.b - suc f.m * sub_len_of f
