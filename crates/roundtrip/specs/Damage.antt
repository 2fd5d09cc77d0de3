-- Damage inside the bursts of a word. Assumes nothing.
use Rattle.std.specs.Prelude.{◌≡◌, Bool, cond, List, ℕ, ◌≤◌, length, get_or}
use Rattle.combinatorics.specs.Stretch.{tabulate}
use Rattle.cells.specs.Figures.{max_bursts}
use Rattle.placements.specs.declared.Placement.{Placement}

-- a word with other symbols at the positions that are spoilt
unfoldable pub damaged : (ℕ → Bool) → List ℕ → List ℕ → List ℕ
damaged spoilt ds w = tabulate (length w) 0 (λ x. cond (spoilt x) (get_or ds x 0) (get_or w x 0))

-- a symbol for each position of the word
pub record DamageLent (at : Placement) (ds w : List ℕ) : Type 0 where
  pub few : at.count ≤ max_bursts
  pub room : length ds ≡ length w
