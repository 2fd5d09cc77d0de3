-- The Larsson code's reader: from a found word to its placement and message. Assumes nothing.
use Rattle.std.specs.Prelude.{Bool, not, cond, ◌&&◌, List, ℕ, suc, ltb, get_or}
use Rattle.std.proofs.Math.Option.{Option, none, some}
use Rattle.refusals.specs.Refusals.{must, value_too_large, disagrees, erased, no_majority}
use Rattle.combinatorics.specs.Majority.{is_value, common, majority}
use Rattle.combinatorics.specs.Stretch.{has, tabulate}
use Rattle.cells.specs.Cells.{message, pick}
use Rattle.cells.specs.Codec.{Reading, accepted, refused}
use Rattle.cells.specs.Digits.{value}
use Rattle.cells.specs.Erasures.{has_erasure}
use Rattle.cells.specs.Figures.{Params, placement_count_of, placement_of}
use Rattle.larsson.specs.Figures.{sub_len_of, sub_blocks, sub_start}
use Rattle.larsson.specs.Writing.{bears, plan, rank_places}

-- what stands in sub-block i
unfoldable pub sub_symbols : Params → List ℕ → ℕ → List ℕ
sub_symbols f w i = tabulate (sub_len_of f) (sub_start f i) (λ x. get_or w x 0)

-- its value: "one with a silent cell has no value"
unfoldable pub sub_value : Params → List ℕ → ℕ → Option ℕ
sub_value f w i =
    let xs = sub_symbols f w i in
    cond (has_erasure f.q xs) none (some (value f.q (rank_places f) xs))

-- whether a value is "found in at least m + 1 sub-blocks"
unfoldable pub is_found : Params → List ℕ → ℕ → Bool
is_found f w v = common (sub_blocks f) (suc f.m) (sub_value f w) v

-- "The reader takes the value found in at least m + 1 sub-blocks": no two are, of 2 × m + 1
unfoldable pub found : Params → List ℕ → Option ℕ
found f w = majority (sub_blocks f) (suc f.m) (sub_value f w)

-- 9 otherwise: "a placement whose first m + 1 untouched sub-blocks don't all hold it"
unfoldable pub agrees : Params → List ℕ → ℕ → List ℕ → Bool
agrees f w v ss = not (has (sub_blocks f) 0 (λ i. bears f ss i && not (is_value v (sub_value f w i))))

-- "A value of T or more is 8; a placement .. is 9; a silent cell in the message is 19."
unfoldable pub read_value : Params → List ℕ → ℕ → Reading
read_value f w v =
    let ss = placement_of f v in
    let ms = pick message (plan f ss) w in
    must (ltb v (placement_count_of f)) (refused value_too_large)
    (must (agrees f w v ss) (refused disagrees)
    (must (not (has_erasure f.q ms)) (refused erased)
    (accepted ss ms)))

-- "It refuses with 21, in the place of 7, a word with no such majority."
abbrev pub read_from : Params → List ℕ → Option ℕ → Reading
read_from f w none = refused no_majority
read_from f w (some v) = read_value f w v

unfoldable pub read : Params → List ℕ → Reading
read f w = read_from f w (found f w)
