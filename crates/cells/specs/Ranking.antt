-- What ranks, covers and r are, whatever the code: statements about the definitions of a placement's rank, of the placement of a rank and of
-- covering, whose proofs are `rank-bijection` and `covers-least` of proofs/Ranking.antt, and of r, whose proof is in each construction's `faithful`. Assumes
-- nothing.
use Rattle.std.specs.Prelude.{◌≡◌, ◌↔◌, Bool, true, List, ℕ, ◌≤◌, ◌<◌}
use Rattle.combinatorics.specs.Bursts.{rank_of, starts_of, covers, cover_rank}
use Rattle.cells.specs.Figures.{index_values}
use Rattle.cells.specs.Outcomes.{Coding}

-- the placement of a rank, and the least rank of a cover
abbrev pub placement_under : Coding → ℕ → List ℕ
placement_under d v = starts_of d.codec.word_len d.bursts d.burst_len v

abbrev pub cover_rank_under : Coding → (ℕ → Bool) → ℕ
cover_rank_under d worn = cover_rank d.codec.word_len d.bursts d.burst_len worn

-- "T counts all placements"; the rank "lies from 0 to T − 1": ranks are a bijection from the placements onto the numbers below T
pub record RankBijection (d : Coding) : Type 0 where
  pub below : (ss : List ℕ) → d.codec.placed ss ≡ true → rank_of d.burst_len ss < d.placement_count_of
  pub back : (ss : List ℕ) → d.codec.placed ss ≡ true → placement_under d (rank_of d.burst_len ss) ≡ ss
  pub placed : (v : ℕ) → v < d.placement_count_of → d.codec.placed (placement_under d v) ≡ true
  pub same : (v : ℕ) → v < d.placement_count_of → rank_of d.burst_len (placement_under d v) ≡ v

-- a placement whose runs cover every worn position
pub record CoveredBy (d : Coding) (worn : ℕ → Bool) (ss : List ℕ) : Type 0 where
  pub placed : d.codec.placed ss ≡ true
  pub all : covers d.codec.word_len d.burst_len worn ss ≡ true

-- "the placement of least rank whose runs cover every worn position", and "6: no placement covers the map"
pub record CoversLeast (d : Coding) (worn : ℕ → Bool) : Type 0 where
  pub some : (cover_rank_under d worn < d.placement_count_of) ↔ ((ss : List ℕ) × CoveredBy d worn ss)
  pub gives : cover_rank_under d worn < d.placement_count_of → CoveredBy d worn (placement_under d (cover_rank_under d worn))
  pub least : (ss : List ℕ) → CoveredBy d worn ss → cover_rank_under d worn ≤ rank_of d.burst_len ss

-- "the least whole number for which m such I-blocks together spell at least T values": of all numbers
pub record ServesLeast (q m values r : ℕ) : Type 0 where
  pub serves : values ≤ index_values q m r
  pub least : (r' : ℕ) → values ≤ index_values q m r' → r ≤ r'
