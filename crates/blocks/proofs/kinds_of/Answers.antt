-- `kinds_of` meets its contract. Assumes nothing.
use native.Mathlib.Nat.{le-mul_of_pos_right}
use native.Mathlib.Omega.{arith}
use Rattle.placements.specs.Bridge.{starts_in}
use Rattle.params.specs.Given.{figures_of}
use Rattle.construction_a.proofs.Ranking.{burst-blocks-are}
use Rattle.blocks.proofs.BlockSets.{kind-is}
use Rattle.params.proofs.Shape.{in-range, blocks-fit}
use Rattle.blocks.proofs.kinds_of.Goals as goal

pub mark_index-requires : goal.mark_index-requires
mark_index-requires c =
    let l = c.args.layout in
    let g = c.requires.0.layout in
    let r = in-range l g in
    let z = blocks-fit l g in
    let marks = c.mark_bursts.ensures in (
      r.m-least,
      z,
      omega (arith, le-mul_of_pos_right l.parts r.m-least),
      omega (arith, r.m-most),
      marks.size,
      rw (marks.bursts.set, g.parts_is) (burst-blocks-are (figures_of l) r (starts_in c.args.at) c.requires.0.placed).as_many,
    )

pub returns : goal.returns
returns c =
    let l = c.args.layout in
    let marks = c.mark_bursts in
    λ k. rw (c.requires.0.layout.parts_is, kind-is (figures_of l) (starts_in c.args.at) _ marks.ensures.bursts k) at (c.mark_index.ensures k)
