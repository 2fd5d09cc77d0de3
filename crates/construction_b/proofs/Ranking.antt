-- Construction B's rank is a bijection from the placements onto the numbers below T, and covering gives the cover of least rank; the rank of a placement is
-- its start. Assumes nothing.
use mathlib.Core.Path.{◌≡◌, sym, ap, ◌∙◌}
use mathlib.Core.Bool.{Bool}
use mathlib.Core.List.{[], ◌∷◌}
use Prim.Native.Nat.{ℕ, ◌+◌, ◌≤◌}
use native.Mathlib.Nat.{div-le_self}
use native.Mathlib.Omega.{arith}
use lib.Dec.{eqb}
use lib.ListN.{length}
use Rattle.combinatorics.specs.Bursts.{apart}
use Rattle.combinatorics.proofs.Bursts.{placed_of, of-placed}
use Rattle.combinatorics.proofs.Cases.{eqb_same, eqb-true}
use Rattle.combinatorics.proofs.Lists.{both}
use Rattle.cells.specs.Ranking.{RankBijection, CoversLeast}
use Rattle.cells.proofs.Ranking.{Placeable}
use Rattle.cells.proofs.Ranking as AnyRanking
use Rattle.construction_b.specs.Figures.{LongParams, parts, is_placement}
use Rattle.construction_b.specs.Writing.{placement_of}
use Rattle.construction_b.specs.Outcomes.{coding}
use Rattle.construction_b.specs.Ranking.{AllFaithful}
use Rattle.construction_b.proofs.Figures.{Served, serve, part-most, index-enough, index-least, start-placed, rank-is, count-is}
use Rattle.construction_b.proofs.Plan.{burst-lt, offset-end, offset-lt, message-cells}

pub burst-fits : (f : LongParams) → Served f → f.b ≤ f.n
burst-fits f ok = omega (arith, ok.short, div-le_self f.n parts)

pub placeable : (f : LongParams) → Served f → Placeable (coding f)
unfolding is_placement
placeable f ok =
    record {
      long = ok.range.b-least;
      total = omega (arith, burst-fits f ok);
      count-is = count-is f (burst-fits f ok);
      starts = λ ss e.
          let b = both (eqb (length ss) 1) (apart f.b f.n 0 ss) e in
          (placed_of f.b f.n 0 ss b.1, eqb-true (length ss) 1 b.0);
      placed = λ ss h e. rw (eqb_same (length ss) 1 e) (of-placed f.b f.n 0 ss h);
    }

pub rank-bijection : (f : LongParams) → Served f → RankBijection (coding f)
rank-bijection f ok = AnyRanking.rank-bijection (coding f) (placeable f ok)

pub covers-least : (f : LongParams) → Served f → (worn : ℕ → Bool) → CoversLeast (coding f) worn
covers-least f ok = AnyRanking.covers-least (coding f) (placeable f ok)

-- the placement of a rank is the burst that starts there
pub start-ranked : (f : LongParams) → Served f → (s : ℕ) → s + f.b ≤ f.n → placement_of f s ≡ s ∷ []
start-ranked f ok s l = sym (ap (placement_of f) (rank-is f s)) ∙ (rank-bijection f ok).back (s ∷ []) (start-placed f s l)

pub faithful : AllFaithful
faithful f i h =
    let ok = serve f i h in
    record {
      ranks = rank-bijection f ok;
      rank-is = rank-is f;
      burst-part = λ s l. record { among = burst-lt f ok s l; last = offset-end f ok s l; within = offset-lt f ok s l };
      covers = covers-least f ok;
      tail = record { serves = index-enough f ok; least = index-least f };
      longest = part-most f;
      message-cells = message-cells f ok;
    }
