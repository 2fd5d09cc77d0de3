-- Worked examples of the Larsson code as one table. The proof is `examples-hold` of proofs/Examples.antt. Assumes nothing.
use Rattle.std.specs.Prelude.{◌≡◌, true, List, [], ◌∷◌, ◌++◌, ℕ, replicate}
use Rattle.combinatorics.specs.Examples.{Example, example, comes_true}
use Rattle.combinatorics.specs.Lists.{all, same_list}
use Rattle.combinatorics.specs.Stretch.{bit, tabulate}
use Rattle.cells.specs.Codec.{Reading, accepted, refused}
use Rattle.cells.specs.Digits.{plain, spell}
use Rattle.cells.specs.Figures.{Params, params}
use Rattle.cells.specs.Outcomes.{FiguresOut, figured, unserved, figures_number}
use Rattle.larsson.specs.Figures.{sub_start}
use Rattle.larsson.specs.Writing.{bearers, word}
use Rattle.larsson.specs.Reading.{read}
use Rattle.larsson.specs.Outcomes.{figures_out}

-- figures alone: 0, T, R and k, or the refusal
abbrev numbers : FiguresOut → List ℕ
numbers (figured t r k) = figures_number (figured t r k) ∷ t ∷ r ∷ k ∷ []
numbers (unserved a) = figures_number (unserved a) ∷ []

-- a reading: 0, the starts and the message, or the refusal
abbrev read_as : Reading → List ℕ
read_as (accepted ss ms) = 0 ∷ (ss ++ ms)
read_as (refused a) = a ∷ []

-- three runs of one position have the whole word; whether a word of 0, 1 and 2, by its number, is read as that placement with no message
abbrev small : Params
small = params 3 2 3 1

abbrev small_reads : ℕ → ℕ
small_reads v = bit (same_list (read_as (read small (spell 3 (replicate 3 plain) v))) (0 ∷ 0 ∷ 1 ∷ 2 ∷ []))

abbrev strip : Params
strip = params 30 16 2 3

abbrev strip-message : List ℕ
strip-message = 1 ∷ 2 ∷ 3 ∷ 4 ∷ 5 ∷ 6 ∷ 7 ∷ 8 ∷ 9 ∷ 10 ∷ 11 ∷ 12 ∷ 13 ∷ 14 ∷ 15 ∷ []

-- the strip's word, with other symbols in its first sub-block, the first symbol of its message, the first run and the second sub-block behind it,
-- the second run and the third sub-block behind it, and the fourth
abbrev strip_word : List ℕ → ℕ → List ℕ → List ℕ → List ℕ → List ℕ
strip_word first sent left right fourth =
    first ++ (sent ∷ []) ++ left ++ (4 ∷ 5 ∷ 6 ∷ []) ++ right ++ (8 ∷ 9 ∷ 10 ∷ 11 ∷ []) ++ fourth ++ (12 ∷ 13 ∷ 14 ∷ 15 ∷ 0 ∷ 3 ∷ 1 ∷ [])

abbrev rank49 : List ℕ
rank49 = 0 ∷ 3 ∷ 1 ∷ []

abbrev left : List ℕ
left = 0 ∷ 0 ∷ 0 ∷ 2 ∷ 3 ∷ []

abbrev right : List ℕ
right = 0 ∷ 0 ∷ 0 ∷ 7 ∷ []

unfoldable pub examples : List Example
examples =
    -- runs of the whole word: T 1, R 0, k 0, and every word is accepted
    example (numbers (figures_out small)) (0 ∷ 1 ∷ 0 ∷ 0 ∷ [])
    ∷ example (tabulate 27 0 small_reads) (replicate 27 1)
    -- one symbol for the rank
    ∷ example (numbers (figures_out (params 11 256 2 1))) (0 ∷ 55 ∷ 1 ∷ 6 ∷ [])
    -- the largest b that fits, and the next; and figures that would fit Construction A
    ∷ example (numbers (figures_out (params 30 16 2 6))) (0 ∷ 190 ∷ 2 ∷ 12 ∷ [])
    ∷ example (numbers (figures_out (params 30 16 2 7))) (2 ∷ [])
    ∷ example (numbers (figures_out (params 6 5 2 1))) (2 ∷ [])
    -- sub-blocks at 0, 6, 13, 20 and 27; runs from 4 and 12 touch the second and the third; rank 49
    ∷ example (numbers (figures_out strip)) (0 ∷ 325 ∷ 3 ∷ 15 ∷ [])
    ∷ example (tabulate 5 0 (sub_start strip)) (0 ∷ 6 ∷ 13 ∷ 20 ∷ 27 ∷ [])
    ∷ example (bearers strip (4 ∷ 12 ∷ [])) (0 ∷ 3 ∷ 4 ∷ [])
    ∷ example (word strip (4 ∷ 12 ∷ []) strip-message) (strip_word rank49 1 left right rank49)
    -- silent cells in the runs read; a bearer changed or silent leaves no majority; the value elsewhere is 9; one that is no rank is 8; a silent
    -- cell in the message is 19
    ∷ example (read_as (read strip (strip_word rank49 1 (16 ∷ 16 ∷ 16 ∷ 2 ∷ 3 ∷ []) (16 ∷ 16 ∷ 16 ∷ 7 ∷ []) rank49))) (0 ∷ 4 ∷ 12 ∷ strip-message)
    ∷ example (read_as (read strip (strip_word (0 ∷ 3 ∷ 2 ∷ []) 1 left right rank49))) (21 ∷ [])
    ∷ example (read_as (read strip (strip_word rank49 1 left right (0 ∷ 16 ∷ 1 ∷ [])))) (21 ∷ [])
    ∷ example (read_as (read strip (strip_word (9 ∷ 9 ∷ 9 ∷ []) 1 (0 ∷ 0 ∷ 0 ∷ 3 ∷ 1 ∷ []) right rank49))) (9 ∷ [])
    ∷ example (read_as (read strip (strip_word (15 ∷ 15 ∷ 15 ∷ []) 1 (0 ∷ 0 ∷ 15 ∷ 15 ∷ 15 ∷ []) (0 ∷ 15 ∷ 15 ∷ 15 ∷ []) rank49))) (8 ∷ [])
    ∷ example (read_as (read strip (strip_word rank49 16 left right rank49))) (19 ∷ [])
    ∷ []

abbrev pub ExamplesHold : Type 0
ExamplesHold = all comes_true examples ≡ true
