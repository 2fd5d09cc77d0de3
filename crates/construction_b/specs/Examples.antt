-- Worked examples of Construction B as one table: figures, words written and read, refusals, covers. The proof is `examples-hold` of
-- proofs/Examples.antt. Assumes nothing.
use Rattle.std.specs.Prelude.{◌≡◌, true, List, [], ◌∷◌, ◌++◌, ℕ, replicate}
use Rattle.combinatorics.specs.Examples.{Example, example, comes_true}
use Rattle.combinatorics.specs.Lists.{all}
use Rattle.cells.specs.Codec.{Reading, accepted, refused}
use Rattle.cells.specs.Outcomes.{FiguresOut, figured, unserved, Covered}
use Rattle.construction_b.specs.Figures.{LongParams, long_params}
use Rattle.construction_b.specs.Writing.{word}
use Rattle.construction_b.specs.Reading.{read}
use Rattle.construction_b.specs.Outcomes.{figures_out, cover_out}

-- outcomes as lists of numbers
abbrev numbers : FiguresOut → List ℕ
numbers (figured t r k) = 0 ∷ t ∷ r ∷ k ∷ []
numbers (unserved a) = a ∷ []

abbrev told : Reading → List ℕ
told (accepted ss ms) = 0 ∷ (ss ++ ms)
told (refused a) = a ∷ []

abbrev placed : Covered → List ℕ
placed c = c.answer ∷ c.placement.starts

-- "For n 20, q 2, b 5, r is 3 and k is 10."
abbrev strip : LongParams
strip = long_params 20 2 5

abbrev ones : List ℕ
ones = replicate 10 1

-- the parts start at 0, 6 and 13; a run from 4 ends at 8, the position 2 of part 1; digits 2 at part 2, whose head is stored plus 1
abbrev word_of_four : List ℕ
word_of_four = (0 ∷ 1 ∷ 1 ∷ 1 ∷ []) ++ replicate 5 0 ++ replicate 4 1 ++ (1 ∷ 0 ∷ 1 ∷ 0 ∷ []) ++ replicate 3 1

-- the same with other digits
abbrev with_digits : List ℕ → List ℕ
with_digits ds = (0 ∷ 1 ∷ 1 ∷ 1 ∷ []) ++ replicate 5 0 ++ replicate 4 1 ++ ds ++ replicate 3 1

-- a run from 0 ends at 4, in part 0: digits 4 at part 1
abbrev with_low : List ℕ → List ℕ
with_low ds = replicate 5 0 ++ (1 ∷ []) ++ ds ++ replicate 3 1 ++ (0 ∷ []) ++ replicate 6 1

unfoldable pub examples : List Example
examples =
    example (numbers (figures_out strip)) (0 ∷ 16 ∷ 3 ∷ 10 ∷ [])
    ∷ example (numbers (figures_out (long_params 20 2 6))) (0 ∷ 15 ∷ 3 ∷ 9 ∷ [])
    -- b above L
    ∷ example (numbers (figures_out (long_params 20 2 7))) (2 ∷ [])
    ∷ example (numbers (figures_out (long_params 3 2 1))) (0 ∷ 3 ∷ 0 ∷ 0 ∷ [])
    -- r not below L
    ∷ example (numbers (figures_out (long_params 4 2 1))) (2 ∷ [])
    ∷ example (numbers (figures_out (long_params 15 256 5))) (0 ∷ 11 ∷ 0 ∷ 8 ∷ [])
    ∷ example (numbers (figures_out (long_params 2 2 1))) (1 ∷ [])
    ∷ example (numbers (figures_out (long_params 20 2 0))) (1 ∷ [])
    ∷ example (numbers (figures_out (long_params 20 257 5))) (1 ∷ [])
    ∷ example (word strip (4 ∷ []) ones) word_of_four
    ∷ example (word strip (0 ∷ []) ones) (with_low (1 ∷ 1 ∷ 0 ∷ 0 ∷ []))
    ∷ example (word (long_params 15 256 5) (6 ∷ []) (0 ∷ 0 ∷ 0 ∷ 7 ∷ 65 ∷ 66 ∷ 67 ∷ 68 ∷ []))
    ((1 ∷ 0 ∷ 0 ∷ 0 ∷ 7 ∷ []) ++ replicate 6 0 ++ (65 ∷ 66 ∷ 67 ∷ 68 ∷ []))
    ∷ example (told (read strip word_of_four)) (0 ∷ 4 ∷ ones)
    -- whatever stands inside the run
    ∷ example (told (read strip ((0 ∷ 1 ∷ 1 ∷ 1 ∷ []) ++ replicate 9 1 ++ (1 ∷ 0 ∷ 1 ∷ 0 ∷ []) ++ replicate 3 1))) (0 ∷ 4 ∷ ones)
    -- all 0 and all 1 are 7
    ∷ example (told (read strip (replicate 20 0))) (7 ∷ [])
    ∷ example (told (read strip (replicate 20 1))) (7 ∷ [])
    -- "A value not below the B part's length is 8": parts 1 and 2 have 7, part 0 has 6
    ∷ example (told (read strip (with_digits (1 ∷ 1 ∷ 1 ∷ 0 ∷ [])))) (0 ∷ 8 ∷ 1 ∷ 1 ∷ 1 ∷ 0 ∷ 0 ∷ 0 ∷ 0 ∷ 1 ∷ 1 ∷ 1 ∷ [])
    ∷ example (told (read strip (with_digits (1 ∷ 1 ∷ 1 ∷ 1 ∷ [])))) (8 ∷ [])
    ∷ example (told (read strip (with_low (1 ∷ 1 ∷ 1 ∷ 0 ∷ [])))) (8 ∷ [])
    -- "a run starting before position 0 is 9"
    ∷ example (told (read strip (with_low (1 ∷ 0 ∷ 1 ∷ 1 ∷ [])))) (9 ∷ [])
    ∷ example (told (read strip (with_low (1 ∷ 1 ∷ 0 ∷ 0 ∷ [])))) (0 ∷ 0 ∷ ones)
    -- silent cells: all over the run, in the I part (19 before 8), in the message (19 after 9)
    ∷ example (told (read strip ((0 ∷ 1 ∷ 1 ∷ 1 ∷ []) ++ replicate 5 2 ++ replicate 4 1 ++ (1 ∷ 0 ∷ 1 ∷ 0 ∷ []) ++ replicate 3 1))) (0 ∷ 4 ∷ ones)
    ∷ example (told (read strip (with_digits (1 ∷ 0 ∷ 2 ∷ 0 ∷ [])))) (19 ∷ [])
    ∷ example (told (read strip (with_digits (2 ∷ 1 ∷ 1 ∷ 1 ∷ [])))) (19 ∷ [])
    ∷ example (told (read strip ((0 ∷ 2 ∷ 1 ∷ 1 ∷ []) ++ replicate 5 0 ++ replicate 4 1 ++ (1 ∷ 0 ∷ 1 ∷ 0 ∷ []) ++ replicate 3 1))) (19 ∷ [])
    ∷ example (told (read strip (replicate 5 0 ++ (2 ∷ 1 ∷ 0 ∷ 1 ∷ 1 ∷ []) ++ replicate 3 1 ++ (0 ∷ []) ++ replicate 6 1))) (9 ∷ [])
    ∷ example (placed (cover_out strip (replicate 9 0 ++ (1 ∷ []) ++ replicate 3 0 ++ (1 ∷ []) ++ replicate 6 0))) (0 ∷ 9 ∷ replicate 7 0)
    ∷ example (placed (cover_out strip (replicate 8 0 ++ (1 ∷ []) ++ replicate 4 0 ++ (1 ∷ []) ++ replicate 6 0))) (6 ∷ replicate 8 0)
    ∷ []

abbrev pub ExamplesHold : Type 0
ExamplesHold = all comes_true examples ≡ true
