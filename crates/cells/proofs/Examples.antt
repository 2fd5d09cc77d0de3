-- Worked examples by computation. Assumes nothing.
use mathlib.Core.Path.{◌≡◌, refl}
use mathlib.Core.Bool.{true, false}
use mathlib.Core.List.{[], ◌∷◌}
use mathlib.Core.Option.{none, some}
use Rattle.combinatorics.specs.Stretch.{sum, tabulate}
use Rattle.cells.specs.Cells.{digit, message, fixed}
use Rattle.cells.specs.Plan.{cell_of}
use Rattle.cells.specs.Cut.{piece_len, piece_start, block_at, block_head}
use Rattle.cells.specs.Round.{later}
use Rattle.cells.specs.Digits.{span, spell, value, places}

-- "shorter ones first": 11 positions in 3 pieces
pieces-11 : tabulate 3 0 (piece_len 11 3) ≡ 3 ∷ 4 ∷ 4 ∷ []
unfolding tabulate piece_len
pieces-11 = refl

-- and in 3 parts of 2 blocks each: 1 2, 2 2, 2 2
blocks-11 : tabulate 6 0 (block_head 11 3 2) ≡ 0 ∷ 1 ∷ 3 ∷ 5 ∷ 7 ∷ 9 ∷ []
unfolding tabulate block_head block_at piece_start piece_len sum
blocks-11 = refl

-- "n 60, q 4, m 2, b 4 .. r 2 .. rank 44, I-blocks 2 and 3 begin 1 0 0 and 3 3 0"
spell-44 : spell 4 (places 2 2) 44 ≡ 1 ∷ 0 ∷ 0 ∷ 3 ∷ 3 ∷ 0 ∷ []
unfolding spell span places
spell-44 = refl

value-44 : value 4 (places 2 2) (1 ∷ 0 ∷ 0 ∷ 3 ∷ 3 ∷ 0 ∷ []) ≡ 44
unfolding value span places
value-44 = refl

-- the first cell of a block, outside the runs: an I-block's holds a digit, a B-block's the message, an F-block's 0
first-cells : cell_of 2 false true false 0 ∷ cell_of 2 false false true 0 ∷ cell_of 2 false false false 0 ∷ [] ≡ digit ∷ message ∷ fixed ∷ []
unfolding cell_of
first-cells = refl

-- "neighbours i and i+1 give i+1; parts 0 and p−1 give part 0", and any other pair none
pairs-of-5 : later 5 (1 ∷ 2 ∷ []) ∷ later 5 (0 ∷ 4 ∷ []) ∷ later 5 (1 ∷ 3 ∷ []) ∷ [] ≡ some 2 ∷ some 0 ∷ none ∷ []
unfolding later
pairs-of-5 = refl
