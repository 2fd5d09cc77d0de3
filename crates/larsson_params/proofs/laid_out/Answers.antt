-- `laid_out` meets its contract: the count, or the refusal where it is too large. Assumes nothing.
use mathlib.Core.Path.{refl, sym}
use Rattle.std.specs.Prelude.{Some, None}
use native.Mathlib.Omega.{arith}
use Rattle.combinatorics.specs.Bursts.{placements}
use Rattle.cells.specs.Figures.{placement_count_of}
use Rattle.cells.proofs.Figures.{Ranged, ranged}
use Rattle.binomials.proofs.Counting.{ways-learnt, many-learnt}
use Rattle.params.specs.Bridge.{given}
use Rattle.params.proofs.Laying.{contracted-fits}
use Rattle.larsson_params.proofs.Laying.{count-unfit}
use Rattle.larsson_params.proofs.laid_out.Goals as goal
use Rattle.larsson_params.proofs.laid_out.Goals.{Start}

range-of : (s : Start) → Ranged (given s.args.given)
range-of s = ranged (given s.args.given) s.requires.0

pub overflow_add-things : goal.overflow_add-things
overflow_add-things c = omega (arith, range-of (goal.at.overflow_add-things c).Start)

pub count-requires : goal.count-requires
count-requires c =
    (contracted-fits (given c.args.given) c.requires.0 c.requires.1, (range-of (goal.at.count-requires c).Start).m-most)

pub counted-requires : goal.counted-requires
unfolding placements
counted-requires c =
    let t = ways-learnt (placement_count_of (given c.args.given)) c.in-Some.placements (Some c.in-Some.placements) refl c.in-Some.ensures.value in
    (c.requires.0, c.requires.1, t.0, omega (arith, t.0, t.1))

pub returns-in-None-clause-answer : goal.returns-in-None-clause-answer
unfolding placements
returns-in-None-clause-answer c =
    let f = given c.args.given in
    sym (count-unfit f c.requires.0 (many-learnt (placement_count_of f) None refl c.in-None.ensures.value))
