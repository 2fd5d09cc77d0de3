-- `index_value` meets its contract: a rank or an offset, as the layout says. Assumes nothing.
use mathlib.Core.Path.{subst}
use native.Mathlib.Omega.{arith}
use Rattle.combinatorics.proofs.Bursts.{of-placed}
use Rattle.construction_a.proofs.Ranking.{rank-bijection}
use Rattle.params.specs.Given.{figures_of, LayoutFits, LayoutFitsWith}
use Rattle.params.specs.declared.Layout.{Layout}
use Rattle.params.specs.declared.Spells.{Spells}
use Rattle.params.proofs.Fitting.{served, bound, long}
use Rattle.placements.specs.Bridge.{starts_in}
use Rattle.placements.proofs.Calls.{rankable}
use Rattle.placements.proofs.Placing.{starts-placed}
use Rattle.encoder.proofs.value.index_value.Goals as goal
use Rattle.encoder.proofs.value.index_value.Goals.{In-Rank, Start}

abbrev l : Start → Layout
l s = s.args.layout

-- figures of Construction A
ranked : (c : In-Rank) → LayoutFits (l (goal.at.In-Rank c).Start)
ranked c = subst (λ (s : Spells). LayoutFitsWith s (l (goal.at.In-Rank c).Start)) c.in-Rank.is c.requires.0

pub overflow_cast-layout : goal.overflow_cast-layout
overflow_cast-layout c = omega (arith, long (l (goal.at.overflow_cast-layout c).Start) (ranked (goal.at.overflow_cast-layout c).In-Rank), (bound (l (goal.at.overflow_cast-layout c).Start) (ranked (goal.at.overflow_cast-layout c).In-Rank)).n-most)

pub rank-requires : goal.rank-requires
rank-requires c =
    let ok = served (l (goal.at.rank-requires c).Start) (ranked (goal.at.rank-requires c).In-Rank) in
    rankable {p = c.args.at} (l (goal.at.rank-requires c).Start).n (l (goal.at.rank-requires c).Start).b (omega (arith, c.requires.1.count, ok.range.m-most)) ok.range.n-most ok.long
    (of-placed (l (goal.at.rank-requires c).Start).b (l (goal.at.rank-requires c).Start).n 0 (starts_in c.args.at) (starts-placed (l (goal.at.rank-requires c).Start) c.args.at c.requires.1))
    (omega (arith, (rank-bijection (figures_of (l (goal.at.rank-requires c).Start)) ok).below (starts_in c.args.at) c.requires.1.placed, ok.counted))
