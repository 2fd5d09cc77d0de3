-- Numbers and bytes as text: a list of ASCII codes. "hex in capitals, other numbers in decimal". Assumes nothing.
use Rattle.std.specs.Prelude.{cond, ℕ, ◌+◌, ◌-◌, ◌/◌, ◌%◌, ◌^◌, ltb, length, take, drop, replicate}
use mathlib.Core.List.{List, [], ◌∷◌, ◌++◌, map, flat_map}
use Rattle.combinatorics.specs.Stretch.{first}
use Rattle.cells.specs.Digits.{plain, spell}

-- the characters 0 and A
abbrev pub zero_char : ℕ
zero_char = 48

abbrev pub capital_a : ℕ
capital_a = 65

-- how many decimal digits a number takes: the fewest that spell it, and at least one. Sought from 1 up to the number itself; 0 takes one.
unfoldable pub decimal_len : ℕ → ℕ
decimal_len v = first v 1 (λ k. ltb v (10 ^ k))

-- "other numbers in decimal": the digits of a number, most significant first
unfoldable pub decimal : ℕ → List ℕ
decimal v = map (λ d. zero_char + d) (spell 10 (replicate (decimal_len v) plain) v)

-- "hex in capitals": the digits 0 to 9, then A to F
unfoldable pub hex_digit : ℕ → ℕ
hex_digit d = cond (ltb d 10) (zero_char + d) (capital_a + (d - 10))

-- a byte's two digits, and those of bytes in a row
unfoldable pub hex_byte : ℕ → List ℕ
hex_byte b = hex_digit (b / 16) ∷ hex_digit (b % 16) ∷ []

unfoldable pub hex : List ℕ → List ℕ
hex bytes = flat_map hex_byte bytes

-- a line in which a text stands from a position on
unfoldable pub overwrite : ℕ → List ℕ → List ℕ → List ℕ
overwrite at text line = take at line ++ text ++ drop (at + length text) line
