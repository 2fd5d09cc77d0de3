-- Document 01's bench strips that are "starred: to be proved", as one table. The proof is `starred-hold` of proofs/Strips.antt. Assumes nothing.
use Rattle.std.specs.Prelude.{◌≡◌, true, List, [], ◌∷◌, ◌++◌, ℕ, eqb, replicate}
use Rattle.combinatorics.specs.Examples.{Example, example, comes_true}
use Rattle.combinatorics.specs.Lists.{all, any}
use Rattle.combinatorics.specs.Stretch.{bit, tabulate}
use Rattle.cells.specs.Figures.{Params, params, rank}
use Rattle.construction_a.specs.Figures.{message_len_of}
use Rattle.construction_a.specs.Writing.{index_blocks, word}
use Rattle.construction_a.specs.Reading.{first_symbols}
use Rattle.construction_a.specs.Outcomes.{FiguresOut, figured, unserved, figures_number, figures_out, held, Encoded, encode_out, Covered, cover_out, in_use}
use Rattle.jobs.specs.Jobs.{opening, cancelling, on}
use Rattle.jobs.specs.Table.{empty_table}
use Rattle.ledger.specs.Calls.{answers_from}

-- figures alone: 0, T, r and k, or the refusal
abbrev numbers : FiguresOut → List ℕ
numbers (figured t r k) = figures_number (figured t r k) ∷ t ∷ r ∷ k ∷ []
numbers (unserved a) = figures_number (unserved a) ∷ []

-- word write: the answer, then the lent word, which held 1
abbrev written_out : Encoded → List ℕ
written_out e = e.answer ∷ e.word

-- covering the worn positions: the answer, then the starts
abbrev covered : Covered → List ℕ
covered c = c.answer ∷ in_use c.placement

abbrev map_of : ℕ → List ℕ → List ℕ
map_of n worn = tabulate n 0 (λ x. bit (any (eqb x) worn))

-- the first symbols of each I-block, in a word with message symbols 1
abbrev begins : Params → List ℕ → List ℕ
begins f ss = first_symbols f (word f ss (replicate (message_len_of f) 1)) (index_blocks f ss)

unfoldable pub starred : List Example
starred =
    -- "n 30, q 2, m 1, b 3: T 28, r 5, k 20."
    example (numbers (figures_out (params 30 2 1 3))) (0 ∷ 28 ∷ 5 ∷ 20 ∷ [])
    -- "Start 12, message all 1: 0, eleven 1s, 000, 11111, 101100, 1111."
    ∷ example (written_out (encode_out (params 30 2 1 3) (held (12 ∷ [])) (replicate 20 1) (replicate 30 1)))
    (0 ∷ 0 ∷ replicate 11 1 ++ replicate 3 0 ++ replicate 5 1 ++ (1 ∷ 0 ∷ 1 ∷ 1 ∷ 0 ∷ 0 ∷ []) ++ replicate 4 1)
    -- "* b 5 there fits; * b 6 is 2."
    ∷ example (numbers (figures_out (params 30 2 1 5))) (0 ∷ 26 ∷ 5 ∷ 18 ∷ [])
    ∷ example (numbers (figures_out (params 30 2 1 6))) (2 ∷ [])
    -- "n 60, q 4, m 2, b 4: T 1431, r 2, k 44."
    ∷ example (numbers (figures_out (params 60 4 2 4))) (0 ∷ 1431 ∷ 2 ∷ 44 ∷ [])
    -- "Starts 8, 12: rank 44, I-blocks 2 and 3 begin 1 0 0 and 3 3 0."
    ∷ example (rank (params 60 4 2 4) (8 ∷ 12 ∷ []) ∷ []) (44 ∷ [])
    ∷ example (index_blocks (params 60 4 2 4) (8 ∷ 12 ∷ [])) (2 ∷ 3 ∷ [])
    ∷ example (begins (params 60 4 2 4) (8 ∷ 12 ∷ [])) (1 ∷ 0 ∷ 0 ∷ 3 ∷ 3 ∷ 0 ∷ [])
    -- "n 90, q 3, m 3, b 3: T 95284, r 3, k 66."
    ∷ example (numbers (figures_out (params 90 3 3 3))) (0 ∷ 95284 ∷ 3 ∷ 66 ∷ [])
    -- "Starts 22, 30, 65: rank 36390, I-blocks 0, 4, 7 begin 1110, 1221, 2210."
    ∷ example (rank (params 90 3 3 3) (22 ∷ 30 ∷ 65 ∷ []) ∷ []) (36390 ∷ [])
    ∷ example (index_blocks (params 90 3 3 3) (22 ∷ 30 ∷ 65 ∷ [])) (0 ∷ 4 ∷ 7 ∷ [])
    ∷ example (begins (params 90 3 3 3) (22 ∷ 30 ∷ 65 ∷ [])) (1 ∷ 1 ∷ 1 ∷ 0 ∷ 1 ∷ 2 ∷ 2 ∷ 1 ∷ 2 ∷ 2 ∷ 1 ∷ 0 ∷ [])
    -- "n 3, q 4, m 1, b 1: k 0; * q 3 there is 2."
    ∷ example (numbers (figures_out (params 3 4 1 1))) (0 ∷ 3 ∷ 0 ∷ 0 ∷ [])
    ∷ example (numbers (figures_out (params 3 3 1 1))) (2 ∷ [])
    -- "Covering, first strip: worn 27 and 29 give 27; * 26 and 29 give 6; .."
    ∷ example (covered (cover_out (params 30 2 1 3) (map_of 30 (27 ∷ 29 ∷ [])))) (0 ∷ 27 ∷ [])
    ∷ example (covered (cover_out (params 30 2 1 3) (map_of 30 (26 ∷ 29 ∷ [])))) (6 ∷ [])
    -- ".. no worn cell gives 0; 12 gives 10."
    ∷ example (covered (cover_out (params 30 2 1 3) (map_of 30 []))) (0 ∷ 0 ∷ [])
    ∷ example (covered (cover_out (params 30 2 1 3) (map_of 30 (12 ∷ [])))) (0 ∷ 10 ∷ [])
    -- "Cancel unknown 9, then open 9: 12."
    ∷ example (answers_from empty_table (on cancelling 9 ∷ on opening 9 ∷ [])) (0 ∷ 12 ∷ [])
    ∷ []

-- every row's two sides are the same
abbrev pub StarredHold : Type 0
StarredHold = all comes_true starred ≡ true
