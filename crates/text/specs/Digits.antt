-- The decimal digits of a number one by one, the last first: what the functions below `put_decimal` say to each other. Assumes nothing.
use Rattle.std.specs.Prelude.{List, [], ◌∷◌, ◌++◌, ℕ, zero, suc, ◌+◌, ◌-◌, ◌/◌, ◌%◌, ◌^◌, ◌<◌, ◌≤◌}

-- the characters of the last k digits of a number, most significant first
abbrev pub last_digits : ℕ → ℕ → List ℕ
last_digits zero v = []
last_digits (suc k) v = last_digits k (v / 10) ++ ((48 + v % 10) ∷ [])

-- a number takes so many digits: at least one, and no more than hold it
abbrev pub IsDigitCount : ℕ → ℕ → Type 0
IsDigitCount v k = (1 ≤ k) × (v < 10 ^ k) × (1 < k → 10 ^ (k - 1) ≤ v)
