-- `only_placement` meets its contract: it has rank 0. Assumes nothing.
use mathlib.Core.Path.{refl, sym}
use mathlib.Core.List.{[]}
use native.Mathlib.Omega.{arith}
use Rattle.combinatorics.proofs.Bursts.{rank-of-starts}
use Rattle.cells.specs.Figures.{placement_of}
use Rattle.larsson.proofs.Walking.{count-some}
use Rattle.placements.specs.Bridge.{held_as}
use Rattle.larsson_params.specs.declared.LarssonLayout.{LarssonLayout}
use Rattle.larsson_params.specs.Given.{larsson_figures_of}
use Rattle.larsson_params.proofs.Shape.{served, bound, long}
use Rattle.sub_blocks.proofs.Room.{room_of}
use Rattle.larsson_decoder.proofs.Reading.{read_whole}
use Rattle.larsson_decoder.proofs.only_placement.Goals as goal
use Rattle.larsson_decoder.proofs.only_placement.Goals.{Start}

abbrev l : Start → LarssonLayout
l s = s.args.layout

pub overflow_cast-layout : goal.overflow_cast-layout
overflow_cast-layout c = omega (arith, bound (l (goal.at.overflow_cast-layout c).Start) c.requires.0)

pub overflow_cast-layout-2 : goal.overflow_cast-layout-2
overflow_cast-layout-2 c = omega (arith, bound (l (goal.at.overflow_cast-layout-2 c).Start) c.requires.0)

pub overflow_cast-layout-3 : goal.overflow_cast-layout-3
overflow_cast-layout-3 c =
    omega (arith, long (l (goal.at.overflow_cast-layout-3 c).Start) c.requires.0, bound (l (goal.at.overflow_cast-layout-3 c).Start) c.requires.0)

pub unrank-requires : goal.unrank-requires
unrank-requires c =
    let ok = served (l (goal.at.unrank-requires c).Start) c.requires.0 in
    (room_of (l (goal.at.unrank-requires c).Start) c.requires.0, ok.counted, count-some (larsson_figures_of (l (goal.at.unrank-requires c).Start)) ok.total)

pub returns : goal.returns
returns c =
    let ok = served (l (goal.at.returns c).Start) c.requires.0 in
    let r = rank-of-starts (l (goal.at.returns c).Start).n (l (goal.at.returns c).Start).m (l (goal.at.returns c).Start).b ok.range.b-least ok.total 0 (count-some (larsson_figures_of (l (goal.at.returns c).Start)) ok.total) in
    read_whole (l (goal.at.returns c).Start).b 0 (held_as c.unrank.result) (placement_of (larsson_figures_of (l (goal.at.returns c).Start)) 0) [] [] [] (sym r.rank) c.unrank.ensures refl
