-- The rank of an ascending list in the combinatorial number system, and the list of a rank. Assumes nothing.
use Rattle.std.specs.Prelude.{List, [], ◌∷◌, reverse, ℕ, zero, suc, ◌+◌, ◌-◌}
use Rattle.combinatorics.specs.Choose.{choose}
use Rattle.combinatorics.specs.Stretch.{top}

-- the sum, over the numbers, of the ways to choose as many things as a number's place out of that number; k places come before
unfoldable pub rank_from : ℕ → List ℕ → ℕ
rank_from k [] = 0
rank_from k (c ∷ cs) = choose c (suc k) + rank_from (suc k) cs

-- the ways to choose k things, as a function of what they are chosen from
abbrev pub ways_from : ℕ → ℕ → ℕ
ways_from k c = choose c k

-- the k numbers below n of rank v, falling: the largest is the largest with a share of at most v
unfoldable pub unrank_down : ℕ → ℕ → ℕ → List ℕ
unrank_down n zero v = []
unrank_down n (suc k) v = let c = top (ways_from (suc k)) n v in c ∷ unrank_down c k (v - choose c (suc k))

-- the same, ascending
unfoldable pub unrank : ℕ → ℕ → ℕ → List ℕ
unrank n k v = reverse (unrank_down n k v)
