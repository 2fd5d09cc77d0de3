-- `end_offset` meets its contract. Assumes nothing.
use mathlib.Core.Path.{ap, ◌∙◌}
use native.Mathlib.Omega.{arith}
use lib.ListN.{get_or}
use Rattle.construction_b.specs.Writing.{end_offset}
use Rattle.params.specs.Given.{figures_of, long_of}
use Rattle.params.specs.declared.Layout.{Layout}
use Rattle.params.proofs.LongFitting.{served-long}
use Rattle.encoder.proofs.Offset.{offset-is, first-start, first-in}
use Rattle.encoder.proofs.value.end_offset.Goals as goal
use Rattle.encoder.proofs.value.end_offset.Goals.{Start}

abbrev l : Start → Layout
l s = s.args.layout

pub overflow_add-last : goal.overflow_add-last
overflow_add-last c =
    omega (arith, first-in (l (goal.at.overflow_add-last c).Start) c.args.at c.requires.0 c.requires.1, (served-long (l (goal.at.overflow_add-last c).Start) c.requires.0).range.n-most)

pub overflow_sub-last : goal.overflow_sub-last
overflow_sub-last c =
    omega (arith, (served-long (l (goal.at.overflow_sub-last c).Start) c.requires.0).range.b-least)

pub piece_of-part-requires : goal.piece_of-part-requires
piece_of-part-requires c =
    let g = c.requires.0 in
    let ok = served-long (l (goal.at.piece_of-part-requires c).Start) g in (
      omega (arith, g.laid.parts_is),
      omega (arith, g.laid.parts_is, ok.range.n-least),
      omega
          (arith, first-in (l (goal.at.piece_of-part-requires c).Start) c.args.at g c.requires.1, ok.range.b-least),
    )

pub returns : goal.returns
returns c =
    let f = long_of (figures_of (l (goal.at.returns c).Start)) in
    let start = get_or c.args.at.starts 0 0 in
    let part = c.piece_of-part in
    offset-is f start (l (goal.at.returns c).Start).parts part.result c.piece_start-head.result c.requires.0.laid.parts_is c.piece_start-head.ensures part.ensures.0
    part.ensures.1 part.ensures.2
    ∙ ap (end_offset f) (first-start (l (goal.at.returns c).Start) c.args.at c.requires.0 c.requires.1)
