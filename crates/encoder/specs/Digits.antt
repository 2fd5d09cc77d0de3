-- What the writer's digits are asked for. Assumes nothing.
use Rattle.std.specs.Prelude.{◌≡◌, List, ◌++◌, ℕ, suc, ◌*◌, ◌≤◌, ◌<◌, length, take, drop}
use Rattle.cells.specs.Digits.{Place, span, spell, places}
use Rattle.cells.specs.Figures.{max_alphabet}

-- room for the digits of a rank; `digits-few` of proofs/Room shows that no figures need more
abbrev pub max_digits : ℕ
max_digits = 128

-- a value that the places can spell, in an alphabet of bytes
pub record SpellableRank (q m r v : ℕ) : Type 0 where
  pub alphabet : 2 ≤ q
  pub bytes : q ≤ max_alphabet
  pub room : m * suc r ≤ max_digits
  pub tail : r < max_digits
  pub below : v < span q (places m r)

-- the digits from i on are made, and `left` is what the first i places still spell
pub record SpelledFrom (q : ℕ) (ps : List Place) (value i left : ℕ) (digits : List ℕ) : Type 0 where
  pub below : left < span q (take i ps)
  pub made : spell q (take i ps) left ++ drop i (take (length ps) digits) ≡ spell q ps value
