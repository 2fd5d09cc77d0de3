-- Placements: m disjoint bursts (document 01's runs) of b positions each among n, by their starts; their rank; and which of them cover a set of defects.
-- Assumes nothing.
use Rattle.std.specs.Prelude.{Bool, false, not, ◌&&◌, ◌||◌, List, [], ◌∷◌, ℕ, suc, ◌+◌, ◌-◌, ◌*◌, leb, ltb}
use Rattle.combinatorics.specs.Choose.{choose}
use Rattle.combinatorics.specs.Rank.{rank_from, unrank}
use Rattle.combinatorics.specs.Stretch.{has, first}

-- "disjoint runs of exactly b consecutive positions, given by ascending starts": none starts before lo, and the last ends within n
unfoldable pub apart : ℕ → ℕ → ℕ → List ℕ → Bool
apart b n lo [] = leb lo n
apart b n lo (s ∷ ss) = leb lo s && apart b n (s + b) ss

-- whether a position lies in one of the bursts
unfoldable pub in_burst : ℕ → List ℕ → ℕ → Bool
in_burst b [] x = false
in_burst b (s ∷ ss) x = (leb s x && ltb x (s + b)) || in_burst b ss x

-- how many positions are left where each burst is contracted to one
abbrev pub contracted : ℕ → ℕ → ℕ → ℕ
contracted n m b = n - m * b + m

-- "T counts all placements: the ways to choose m things out of n − m × b + m."
unfoldable pub placements : ℕ → ℕ → ℕ → ℕ
placements n m b = choose (contracted n m b) m

-- "A run's reduced start is its start less (its number − 1) × (b − 1)." Here d is b − 1, and k bursts come before.
unfoldable pub reduce_from : ℕ → ℕ → List ℕ → List ℕ
reduce_from d k [] = []
reduce_from d k (s ∷ ss) = (s - k * d) ∷ reduce_from d (suc k) ss

-- the starts that have these reduced starts
unfoldable pub expand_from : ℕ → ℕ → List ℕ → List ℕ
expand_from d k [] = []
expand_from d k (c ∷ cs) = (c + k * d) ∷ expand_from d (suc k) cs

-- "The rank is the sum, over the runs, of the ways to choose as many things as the run's number out of its reduced start; .."
unfoldable pub rank_of : ℕ → List ℕ → ℕ
rank_of b ss = rank_from 0 (reduce_from (b - 1) 0 ss)

-- the placement of a rank
unfoldable pub starts_of : ℕ → ℕ → ℕ → ℕ → List ℕ
starts_of n m b v = expand_from (b - 1) 0 (unrank (contracted n m b) m v)

-- "whose runs cover every worn position"
unfoldable pub covers : ℕ → ℕ → (ℕ → Bool) → List ℕ → Bool
covers n b worn ss = not (has n 0 (λ x. worn x && not (in_burst b ss x)))

-- "the placement of least rank whose runs cover every worn position": that rank, or T where no placement covers
unfoldable pub cover_rank : ℕ → ℕ → ℕ → (ℕ → Bool) → ℕ
cover_rank n m b worn = first (placements n m b) 0 (λ v. covers n b worn (starts_of n m b v))
