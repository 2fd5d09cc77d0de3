-- A value spelled over places, most significant digit first. Assumes nothing.
use mathlib.Core.List.{List, [], ◌∷◌, ◌++◌, tail}
use Rattle.std.specs.Prelude.{ℕ, zero, suc, ◌+◌, ◌-◌, ◌*◌, ◌/◌, ◌%◌, get_or, replicate}

-- a lead place has a digit below q − 1, stored plus 1, and a plain place a digit below q
pub data Place : Type 0 where
  lead plain : Place

abbrev pub radix : ℕ → Place → ℕ
radix q lead = q - 1
radix q plain = q

abbrev pub offset : Place → ℕ
offset lead = 1
offset plain = 0

-- how many values the places spell
unfoldable pub span : ℕ → List Place → ℕ
span q [] = 1
span q (x ∷ xs) = radix q x * span q xs

-- the stored digits of a value
unfoldable pub spell : ℕ → List Place → ℕ → List ℕ
spell q [] v = []
spell q (x ∷ xs) v = (offset x + v / span q xs) ∷ spell q xs (v % span q xs)

-- the value of stored digits
unfoldable pub value : ℕ → List Place → List ℕ → ℕ
value q [] ds = 0
value q (x ∷ xs) ds = (get_or ds 0 0 - offset x) * span q xs + value q xs (tail ds)

-- so many blocks of a lead place and r plain ones
unfoldable pub places : ℕ → ℕ → List Place
places zero r = []
places (suc m) r = lead ∷ (replicate r plain ++ places m r)
