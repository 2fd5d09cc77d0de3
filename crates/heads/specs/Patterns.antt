-- What the search for a listed pattern goes by. Assumes nothing.
use Rattle.std.specs.Prelude.{Option, Some, None, List, ℕ, length, get_or, take}
use Rattle.std.proofs.Math.Option.{Option as Maybe, none, some}
use Rattle.heads.specs.declared.pattern.Candidates.{Candidates}

-- the candidates of a list
abbrev pub candidates_of : List ℕ → Candidates
candidates_of xs = record { count = length xs; first = get_or xs 0 0; second = get_or xs 1 0 }

-- the number of an answer, or none
abbrev pub picked : Option ℕ → Maybe ℕ
picked (Some i) = some i
picked None = none

-- the m index blocks of an answer, or none
abbrev pub index_in : ℕ → Option (List ℕ) → Maybe (List ℕ)
index_in m (Some blocks) = some (take m blocks)
index_in m None = none
