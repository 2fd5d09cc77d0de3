-- What an array of block kinds stands for. Assumes nothing.
use Rattle.std.specs.Prelude.{◌≡◌, Bool, cond, List, ℕ, ◌≤◌, ◌<◌, eqb, get_or}
use Rattle.cells.specs.Figures.{Params}
use Rattle.construction_a.specs.Figures.{blocks}
use Rattle.construction_a.specs.Writing.{is_burst, is_index}

abbrev pub fixed_kind : ℕ
fixed_kind = 0

abbrev pub burst_kind : ℕ
burst_kind = 1

abbrev pub index_kind : ℕ
index_kind = 2

-- the blocks marked as burst blocks, as a set
unfoldable pub burst_set : List ℕ → ℕ → Bool
burst_set kinds k = eqb (get_or kinds k 0) burst_kind

-- a block's kind by what it is
abbrev pub block_kind : Bool → Bool → ℕ
block_kind is_index is_burst = cond is_index index_kind (cond is_burst burst_kind fixed_kind)

-- an array with the blocks of a set marked as index blocks
unfoldable pub marked : (ℕ → Bool) → List ℕ → ℕ → ℕ
marked I kinds k = cond (I k) index_kind (get_or kinds k 0)

-- the burst blocks of a placement marked, and no others
pub record BurstsOf (f : Params) (ss kinds : List ℕ) : Type 0 where
  pub set : burst_set kinds ≡ is_burst f ss
  pub two : (k : ℕ) → get_or kinds k 0 ≤ burst_kind

-- an array that has the kind of each block
abbrev pub KindsOf : Params → List ℕ → List ℕ → Type 0
KindsOf f ss kinds = (k : ℕ) → k < blocks f → get_or kinds k 0 ≡ block_kind (is_index f ss k) (is_burst f ss k)
