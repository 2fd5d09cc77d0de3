-- Under the Larsson code's figures rank is a bijection from the placements onto the numbers below T, covering gives the cover of least rank, and R, the
-- sub-blocks and k are what the paper says. Assumes nothing.
use mathlib.Core.Path.{refl}
use mathlib.Core.Bool.{Bool}
use Prim.Native.Nat.{ℕ}
use Rattle.cells.specs.Ranking.{CoversLeast}
use Rattle.cells.proofs.Ranking.{Placeable}
use Rattle.cells.proofs.Ranking as AnyRanking
use Rattle.cells.specs.Figures.{Params}
use Rattle.cells.proofs.Figures.{placed-starts, starts-placed}
use Rattle.larsson.specs.Outcomes.{coding}
use Rattle.larsson.specs.Ranking.{AllFaithful}
use Rattle.larsson.proofs.Figures.{Served, serve, rank_room, rank-least, gap-rises, gap-equal, sub-first, sub-next, sub-last}
use Rattle.larsson.proofs.Plan.{bearer-count, bearers-first, message-cells}

placeable : (f : Params) → Served f → Placeable (coding f)
placeable f ok =
    record { long = ok.range.b-least; total = ok.total; count-is = refl; starts = placed-starts f; placed = starts-placed f }

pub covers-least : (f : Params) → Served f → (worn : ℕ → Bool) → CoversLeast (coding f) worn
covers-least f ok = AnyRanking.covers-least (coding f) (placeable f ok)

pub faithful : AllFaithful
faithful f i h =
    let ok = serve f i h in
    record {
      ranks = AnyRanking.rank-bijection (coding f) (placeable f ok);
      rank-symbols = record { serves = rank_room f ok.range ok.total; least = rank-least f };
      spacing = record {
        at-start = sub-first f;
        at-end = sub-last f ok;
        between = λ i _. sub-next f i;
        as-equal = λ i j _ _. gap-equal f i j;
        shorter-first = λ i j l _. gap-rises f i j l;
      };
      rank-bearers = λ ss e. record { as_many = bearer-count f ok ss (placed-starts f ss e).1; the-first = bearers-first f ss };
      message-cells = λ ss e. let p = placed-starts f ss e in message-cells f ok ss p.0 p.1;
      covers = covers-least f ok;
    }
