-- Worked examples by computation: document 01's numbers where it has them. Assumes nothing.
use mathlib.Core.Path.{◌≡◌, refl}
use mathlib.Core.Bool.{true, false}
use mathlib.Core.List.{[], ◌∷◌}
use Rattle.combinatorics.specs.Choose.{choose}
use Rattle.combinatorics.specs.Rank.{rank_from, unrank_down, unrank}
use Rattle.combinatorics.specs.Stretch.{top}
use Rattle.combinatorics.specs.Bursts.{apart, placements, reduce_from, expand_from, rank_of, starts_of}

-- "n 60, .. m 2, b 4: T 1431 .. Starts 8, 12: rank 44"
count-60 : placements 60 2 4 ≡ 1431
unfolding placements choose
count-60 = refl

rank-8-12 : rank_of 4 (8 ∷ 12 ∷ []) ≡ 44
unfolding rank_of rank_from reduce_from choose
rank-8-12 = refl

starts-44 : starts_of 60 2 4 44 ≡ 8 ∷ 12 ∷ []
unfolding starts_of expand_from unrank unrank_down top choose
starts-44 = refl

-- the last burst of 3 among 30 positions starts at 27, and bursts may touch but not overlap
last_fits : apart 3 30 0 (27 ∷ []) ≡ true
unfolding apart
last_fits = refl

past_end : apart 3 30 0 (28 ∷ []) ≡ false
unfolding apart
past_end = refl

touching : apart 4 60 0 (8 ∷ 12 ∷ []) ≡ true
unfolding apart
touching = refl

too-close : apart 4 60 0 (8 ∷ 11 ∷ []) ≡ false
unfolding apart
too-close = refl
