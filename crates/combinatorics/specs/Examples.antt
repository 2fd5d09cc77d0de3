-- Worked examples as rows of a table. Assumes nothing.
use Rattle.std.specs.Prelude.{Bool, List, ℕ}
use Rattle.combinatorics.specs.Lists.{same_list}

-- what the definitions give, and what is stated
pub record Example : Type 0 where
  pub given : List ℕ
  pub stated : List ℕ

abbrev pub example : List ℕ → List ℕ → Example
example g s = record { given = g; stated = s }

-- its two sides are the same
unfoldable pub comes_true : Example → Bool
comes_true e = same_list e.given e.stated
