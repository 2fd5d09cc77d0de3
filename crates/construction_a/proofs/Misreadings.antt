-- Strips that tell the rule from each misreading that document 01 names, and the refusals 7, 8, 9 and 19 apart: one computation over the whole table.
-- Assumes nothing.
use mathlib.Core.Path.{◌≡◌, refl}
use mathlib.Core.Bool.{true}
use mathlib.Core.List.{List, [], ◌∷◌, ◌++◌, flat_map}
use mathlib.Core.Option.{Option, none, some}
use Prim.Native.Nat.{ℕ, ◌*◌}
use lib.ListN.{replicate, set}
use Rattle.combinatorics.specs.Examples.{Example, example, comes_true}
use Rattle.combinatorics.specs.Lists.{all, any, same_list}
use Rattle.combinatorics.specs.Stretch.{sum, has, first, members, tabulate, top}
use Rattle.combinatorics.specs.Choose.{choose}
use Rattle.combinatorics.specs.Rank.{rank_from, unrank_down, unrank}
use Rattle.combinatorics.specs.Bursts.{in_burst, placements, reduce_from, expand_from, rank_of, starts_of}
use Rattle.cells.specs.Cut.{piece_len, piece_start, block_at, block_head, block_with}
use Rattle.cells.specs.Cells.{weave, pick}
use Rattle.cells.specs.Plan.{cell_of}
use Rattle.cells.specs.Codec.{Reading, accepted, refused}
use Rattle.cells.specs.Digits.{span, spell, value, places}
use Rattle.cells.specs.Erasures.{has_erasure}
use Rattle.cells.specs.Figures.{params, least_tail}
use Rattle.construction_a.specs.Figures.{parts, block_min, index_tail_of, head_of}
use Rattle.cells.specs.Round.{next, later}
use Rattle.construction_a.specs.Writing.{becomes, with_burst, with_bursts, is_burst, part_count, part_with, chosen, beside, is_chosen, is_index_in}
use Rattle.construction_a.specs.Writing.{is_index, index_blocks, is_fixed, kind_at, plan, word}
use Rattle.construction_a.specs.Reading.{looks_fixed, bare_parts, open_blocks, index_in_part, collect, index_found, first_symbols, written, agrees, read_rank}
use Rattle.construction_a.specs.Reading.{read}

-- the B-blocks, ascending
abbrev burst_blocks : ℕ → List ℕ → List ℕ
burst_blocks b ss = members 9 0 (is_burst (params 90 3 3 b) ss)

-- a refused word by its number, an accepted one by 0 and the starts
abbrev answer : Reading → List ℕ
answer (accepted ss ms) = 0 ∷ ss
answer (refused a) = a ∷ []

abbrev given : Option ℕ → List ℕ
given none = []
given (some i) = i ∷ []

-- n 30, q 2, m 1, b 3: start 12, message all 1, with other symbols in the I-block
abbrev with_index : List ℕ → List ℕ
with_index ds = 0 ∷ replicate 11 1 ++ replicate 3 0 ++ replicate 5 1 ++ ds ++ replicate 4 1

-- the same with its own
abbrev reads : List ℕ
reads = with_index (1 ∷ 0 ∷ 1 ∷ 1 ∷ 0 ∷ 0 ∷ [])

unfoldable rows : List Example
rows =
    -- "The block in which a run ends": 19 to 21 ends in block 2
    example (burst_blocks 3 (19 ∷ 40 ∷ 60 ∷ [])) (2 ∷ 4 ∷ 6 ∷ [])
    -- "even across a part's edge": 28 to 30 ends in part 1, block 3 of the word
    ∷ example (burst_blocks 3 (28 ∷ 50 ∷ 80 ∷ [])) (3 ∷ 5 ∷ 8 ∷ [])
    -- "the leftmost block of the word that is not yet B": blocks 0 and 1 where three runs end in block 4
    ∷ example (burst_blocks 3 (40 ∷ 43 ∷ 46 ∷ [])) (0 ∷ 1 ∷ 4 ∷ [])
    -- and such a block's head holds the message, not 0
    ∷ example (first_symbols (params 90 3 3 3) (word (params 90 3 3 3) (40 ∷ 43 ∷ 46 ∷ []) (replicate 66 2)) (0 ∷ [])) (2 ∷ 2 ∷ 2 ∷ 2 ∷ [])
    -- "shorter ones first": parts of 30, 30, 31 positions
    ∷ example (tabulate 4 0 (λ i. head_of (params 91 3 3 3) (i * 3))) (0 ∷ 30 ∷ 60 ∷ 91 ∷ [])
    -- "neighbours i and i+1 give i+1; parts 0 and p−1 give part 0", and no other pair gives one
    ∷ example (given (later 5 (1 ∷ 2 ∷ []))) (2 ∷ [])
    ∷ example (given (later 5 (0 ∷ 4 ∷ []))) (0 ∷ [])
    ∷ example (given (later 5 (0 ∷ 2 ∷ []))) []
    ∷ example (given (later 5 (1 ∷ 4 ∷ []))) []
    -- "First strip, read: all 0 or all 1 is 7"
    ∷ example (answer (read (params 30 2 1 3) (replicate 30 0))) (7 ∷ [])
    ∷ example (answer (read (params 30 2 1 3) (replicate 30 1))) (7 ∷ [])
    -- "101100 changed to 111111 is 8, to 100000 is 9"
    ∷ example (answer (read (params 30 2 1 3) (with_index (1 ∷ 0 ∷ 1 ∷ 1 ∷ 0 ∷ 0 ∷ [])))) (0 ∷ 12 ∷ [])
    ∷ example (answer (read (params 30 2 1 3) (with_index (1 ∷ 1 ∷ 1 ∷ 1 ∷ 1 ∷ 1 ∷ [])))) (8 ∷ [])
    ∷ example (answer (read (params 30 2 1 3) (with_index (1 ∷ 0 ∷ 0 ∷ 0 ∷ 0 ∷ 0 ∷ [])))) (9 ∷ [])
    -- "the written value is T or more": T itself, 28
    ∷ example (answer (read (params 30 2 1 3) (with_index (1 ∷ 1 ∷ 1 ∷ 1 ∷ 0 ∷ 0 ∷ [])))) (8 ∷ [])
    -- "each F-block it gives must start with 0": block 4 of n 60, q 4, m 2, b 4 does not
    ∷ example (answer (read (params 60 4 2 4) (set (word (params 60 4 2 4) (8 ∷ 12 ∷ []) (replicate 44 0)) 40 1))) (9 ∷ [])
    -- "a strip with silent cells in its runs must read"
    ∷ example (answer (read (params 30 2 1 3) (set (set (set reads 12 2) 13 2) 14 2))) (0 ∷ 12 ∷ [])
    -- "a q in an I-block's first r + 1 symbols, between 7 and 8", its head included
    ∷ example (answer (read (params 30 2 1 3) (with_index (1 ∷ 0 ∷ 1 ∷ 2 ∷ 0 ∷ 0 ∷ [])))) (19 ∷ [])
    ∷ example (answer (read (params 30 2 1 3) (with_index (2 ∷ 1 ∷ 1 ∷ 1 ∷ 1 ∷ 1 ∷ [])))) (19 ∷ [])
    -- "a q among message symbols, after 9"; such a symbol can stand at the head of a B-block
    ∷ example (answer (read (params 30 2 1 3) (set reads 29 2))) (19 ∷ [])
    ∷ example (answer (read (params 30 2 1 3) (set reads 10 2))) (19 ∷ [])
    ∷ example (answer (read (params 30 2 1 3) (set (with_index (1 ∷ 0 ∷ 0 ∷ 0 ∷ 0 ∷ 0 ∷ [])) 29 2))) (9 ∷ [])
    -- "As a first symbol such a cell isn't the fixed symbol"
    ∷ example (answer (read (params 30 2 1 3) (set reads 0 2))) (7 ∷ [])
    ∷ []

rows-hold : all comes_true rows ≡ true
unfolding all same_list sum has first members tabulate top choose rank_from unrank_down unrank in_burst placements reduce_from expand_from rank_of starts_of
    piece_len piece_start block_at block_head block_with weave pick span spell value places parts block_min least_tail index_tail_of becomes with_burst with_bursts
    is_burst next part_count part_with chosen beside is_chosen is_index_in is_index index_blocks is_fixed cell_of kind_at plan word looks_fixed later bare_parts
    open_blocks index_in_part collect index_found first_symbols written agrees has_erasure any read_rank read rows comes_true flat_map
rows-hold = refl
