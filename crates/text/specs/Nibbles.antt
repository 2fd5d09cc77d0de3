-- Nibbles, the values of a byte's two hex digits, high one first: what the functions below `put_hex` say to each other. Assumes nothing.
use mathlib.Core.List.{List, [], ◌∷◌, flat_map}
use Rattle.std.specs.Prelude.{ℕ, ◌/◌, ◌%◌}

unfoldable pub nibbles_of : ℕ → List ℕ
nibbles_of b = b / 16 ∷ b % 16 ∷ []

unfoldable pub nibbles : List ℕ → List ℕ
nibbles bytes = flat_map nibbles_of bytes
