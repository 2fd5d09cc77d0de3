-- Numbers, bytes and a line: a table that holds by computation. Cites no law. Assumes nothing.
use mathlib.Core.Path.{◌≡◌, refl}
use mathlib.Core.Bool.{true}
use mathlib.Core.List.{List, [], ◌∷◌, flat_map}
use Rattle.combinatorics.specs.Examples.{Example, example, comes_true}
use Rattle.combinatorics.specs.Lists.{all, same_list}
use Rattle.combinatorics.specs.Stretch.{first}
use Rattle.cells.specs.Digits.{span, spell}
use Rattle.text.specs.Text.{decimal_len, decimal, hex_digit, hex_byte, hex, overwrite}

unfoldable rows : List Example
rows =
    example (decimal 0) (48 ∷ [])
    ∷ example (decimal 9) (57 ∷ [])
    ∷ example (decimal 10) (49 ∷ 48 ∷ [])
    ∷ example (decimal 255) (50 ∷ 53 ∷ 53 ∷ [])
    ∷ example (decimal 4294967295) (52 ∷ 50 ∷ 57 ∷ 52 ∷ 57 ∷ 54 ∷ 55 ∷ 50 ∷ 57 ∷ 53 ∷ [])
    ∷ example (decimal 1577953087760896) (49 ∷ 53 ∷ 55 ∷ 55 ∷ 57 ∷ 53 ∷ 51 ∷ 48 ∷ 56 ∷ 55 ∷ 55 ∷ 54 ∷ 48 ∷ 56 ∷ 57 ∷ 54 ∷ [])
    -- 000FA5FF
    ∷ example (hex (0 ∷ 15 ∷ 165 ∷ 255 ∷ [])) (48 ∷ 48 ∷ 48 ∷ 70 ∷ 65 ∷ 53 ∷ 70 ∷ 70 ∷ [])
    ∷ example (hex []) []
    -- a text in the middle of a line, and one at its end
    ∷ example (overwrite 1 (8 ∷ 9 ∷ []) (1 ∷ 2 ∷ 3 ∷ 4 ∷ [])) (1 ∷ 8 ∷ 9 ∷ 4 ∷ [])
    ∷ example (overwrite 2 (8 ∷ 9 ∷ []) (1 ∷ 2 ∷ 3 ∷ 4 ∷ [])) (1 ∷ 2 ∷ 8 ∷ 9 ∷ [])
    ∷ []

rows-hold : all comes_true rows ≡ true
unfolding all same_list first span spell comes_true flat_map decimal_len decimal hex_digit hex_byte hex overwrite rows
rows-hold = refl
