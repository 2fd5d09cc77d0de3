-- The value that so many of c places have, where a place may have none. Assumes nothing.
use Rattle.std.specs.Prelude.{Bool, false, List, [], ◌∷◌, ℕ, leb, eqb}
use Rattle.std.proofs.Math.Option.{Option, none, some}
use Rattle.combinatorics.specs.Stretch.{count, members}

-- whether a place has the value v
abbrev pub is_value : ℕ → Option ℕ → Bool
is_value v none = false
is_value v (some u) = eqb u v

-- whether so many of the c places have the value v, or more
unfoldable pub common : ℕ → ℕ → (ℕ → Option ℕ) → ℕ → Bool
common c least g v = leb least (count c 0 (λ i. is_value v (g i)))

-- whether a place has such a value
abbrev pub has_common : ℕ → ℕ → (ℕ → Option ℕ) → Option ℕ → Bool
has_common c least g none = false
has_common c least g (some v) = common c least g v

-- what the first of some places has
abbrev pub value_at_first : (ℕ → Option ℕ) → List ℕ → Option ℕ
value_at_first g [] = none
value_at_first g (i ∷ is) = g i

-- the value of the first place that has such a value; where `least` is more than half of c, the only one
unfoldable pub majority : ℕ → ℕ → (ℕ → Option ℕ) → Option ℕ
majority c least g = value_at_first g (members c 0 (λ i. has_common c least g (g i)))
