-- Rank is a bijection from the placements onto the numbers below T, and covering gives the cover of least rank, whatever the construction. Assumes nothing.
use mathlib.Core.Path.{◌≡◌}
use mathlib.Core.Bool.{Bool, true}
use mathlib.Core.List.{List}
use Prim.Native.Nat.{ℕ, ◌*◌, ◌≤◌, ◌<◌}
use native.Mathlib.Omega.{arith}
use lib.ListN.{length}
use Rattle.combinatorics.specs.Bursts.{placements}
use Rattle.combinatorics.proofs.Bursts.{Placed, rank_lt, starts-of-rank, rank-of-starts}
use Rattle.combinatorics.proofs.Cover.{cover-least, cover-is, covered-iff, covers_of, of-covers}
use Rattle.cells.specs.Outcomes.{Coding}
use Rattle.cells.specs.Ranking.{placement_under, cover_rank_under, RankBijection, CoveredBy, CoversLeast}

-- what is asked of a code: its placements are m bursts of b positions each, disjoint and within the word, and T counts them
pub record Placeable (d : Coding) : Type 0 where
  pub long : 0 < d.burst_len
  pub total : d.bursts * d.burst_len ≤ d.codec.word_len
  pub count-is : d.placement_count_of ≡ placements d.codec.word_len d.bursts d.burst_len
  pub starts : (ss : List ℕ) → d.codec.placed ss ≡ true → Placed d.burst_len d.codec.word_len 0 ss × (length ss ≡ d.bursts)
  pub placed : (ss : List ℕ) → Placed d.burst_len d.codec.word_len 0 ss → length ss ≡ d.bursts → d.codec.placed ss ≡ true

module _ (d : Coding) (ok : Placeable d) where
  below : (v : ℕ) → v < d.placement_count_of → v < placements d.codec.word_len d.bursts d.burst_len
  below v l = omega (arith, l, ok.count-is)

  pub rank-bijection : RankBijection d
  rank-bijection =
      let n = d.codec.word_len in
      let m = d.bursts in
      let b = d.burst_len in
      record {
        below = λ ss e. let p = ok.starts ss e in omega (arith, rank_lt n m b ok.long ss p.0 p.1, ok.count-is);
        back = λ ss e. let p = ok.starts ss e in starts-of-rank n m b ok.long ss p.0 p.1;
        placed = λ v l. let r = rank-of-starts n m b ok.long ok.total v (below v l) in ok.placed (placement_under d v) r.placed r.count;
        same = λ v l. (rank-of-starts n m b ok.long ok.total v (below v l)).rank;
      }

  pub covers-least : (worn : ℕ → Bool) → CoversLeast d worn
  covers-least worn =
      let n = d.codec.word_len in
      let m = d.bursts in
      let b = d.burst_len in
      let v = cover_rank_under d worn in
      let gives : v < d.placement_count_of → CoveredBy d worn (placement_under d v) =
      λ l.
      let c = cover-is n m b worn ok.long ok.total (below v l) in
      record { placed = ok.placed (placement_under d v) c.placed c.count; all = of-covers n b worn (placement_under d v) c.all } in
      record {
        some = (
          λ l. (placement_under d v, gives l),
          λ c.
              let p = ok.starts c.0 c.1.placed in
              let l = (covered-iff n m b worn ok.long ok.total).1
              (c.0, record { placed = p.0; count = p.1; all = covers_of n b worn c.0 c.1.all }) in
              omega (arith, l, ok.count-is),
        );
        gives = gives;
        least = λ ss c. let p = ok.starts ss c.placed in cover-least n m b worn ok.long ss p.0 p.1 (covers_of n b worn ss c.all);
      }
