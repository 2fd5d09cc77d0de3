-- Rank is a bijection from the placements onto the numbers below T, covering gives the cover of least rank, and r and k are what the paper says. Assumes
-- nothing.
use mathlib.Core.Path.{◌≡◌, refl}
use mathlib.Core.Bool.{Bool, true}
use mathlib.Core.List.{List}
use Prim.Native.Nat.{ℕ, ◌<◌}
use native.Mathlib.Omega.{arith}
use Rattle.combinatorics.specs.Stretch.{count}
use Rattle.cells.proofs.Ranking.{Placeable}
use Rattle.cells.proofs.Ranking as AnyRanking
use Rattle.cells.specs.Figures.{Params, is_placement}
use Rattle.construction_a.specs.Figures.{parts}
use Rattle.construction_a.specs.Writing.{row, is_burst, part_count, whole, one_each}
use Rattle.construction_a.specs.Outcomes.{coding}
use Rattle.construction_a.specs.Ranking.{RankBijection, BurstBlocks, CoversLeast, AllFaithful}
use Rattle.cells.proofs.Figures.{Ranged, placed-starts, starts-placed}
use Rattle.construction_a.proofs.Figures.{Served, serve, three-parts, parts-most, index-enough, index-least}
use Rattle.construction_a.proofs.Plan.{burst-blocks, message-cells}
use Rattle.construction_a.proofs.Rule.{by-chosen}

pub placeable : (f : Params) → Served f → Placeable (coding f)
placeable f ok = record { long = ok.long; total = ok.total; count-is = refl; starts = placed-starts f; placed = starts-placed f }

pub rank-bijection : (f : Params) → Served f → RankBijection f
rank-bijection f ok = AnyRanking.rank-bijection (coding f) (placeable f ok)

-- a whole part is chosen, or one block of each
one-each-only : {P : Type 0} (a : ℕ) → whole a ≡ one_each → P
one-each-only a e = absurd (let z : ◌≡◌ {A = ℕ} 0 1 = cc in omega arith)

pub burst-blocks-are : (f : Params) → Ranged f → (ss : List ℕ) → is_placement f ss ≡ true → BurstBlocks f ss
unfolding part_count
burst-blocks-are f range ss e =
    let p = placed-starts f ss e in
    let all = burst-blocks f range ss p.0 p.1 in
    record {
      as_many = all;
      one-each = by-chosen (parts f) f.m (is_burst f ss) (three-parts f) range.m-least (parts-most f) all
          (λ c. c ≡ one_each → (i : ℕ) → i < parts f → count f.m 0 (row f.m (is_burst f ss) i) ≡ 1)
          (λ a _ _ _ c. one-each-only a c)
          (λ _ one _. one);
    }

pub covers-least : (f : Params) → Served f → (worn : ℕ → Bool) → CoversLeast f worn
covers-least f ok = AnyRanking.covers-least (coding f) (placeable f ok)

pub faithful : AllFaithful
faithful f i h =
    let ok = serve f i h in
    record {
      ranks = rank-bijection f ok;
      burst-blocks = burst-blocks-are f ok.range;
      covers = covers-least f ok;
      tail = record { serves = index-enough f ok; least = index-least f };
      message-cells = λ ss e. let p = placed-starts f ss e in message-cells f ok ss p.0 p.1;
    }
