-- `locate_rank` meets its contract: 9, or the rank's placement. Assumes nothing.
use mathlib.Core.Path.{◌≡◌, sym, subst, ◌∙◌}
use mathlib.Core.List.{List}
use Prim.Native.Nat.{ℕ}
use native.Mathlib.Omega.{arith}
use borrow.Author.Rules.{rules}
use lib.ListN.{length}
use Rattle.params.specs.Given.{max_blocks}
use Rattle.cells.specs.Figures.{Params, placement_of}
use Rattle.larsson.specs.Reading.{agrees}
use Rattle.larsson_params.specs.declared.LarssonLayout.{LarssonLayout}
use Rattle.larsson_params.specs.Given.{larsson_figures_of, LarssonLayoutFits}
use Rattle.larsson_params.proofs.Shape.{served, bound, long}
use Rattle.sub_blocks.specs.Given.{BearersOf}
use Rattle.sub_blocks.proofs.Room.{room_of}
use Rattle.blocks.specs.Numbers.{kind_numbers}
use Rattle.larsson_decoder.proofs.Locating.{disagreeing, agreeing, starts-are, bearing, located}
use Rattle.larsson_decoder.proofs.locate.locate_rank.Goals as goal
use Rattle.larsson_decoder.proofs.locate.locate_rank.Goals.{After-agrees, Start}

abbrev l : Start → LarssonLayout
l s = s.args.layout

abbrev f : Start → Params
f s = larsson_figures_of s.args.layout

fit : (s : Start) → LarssonLayoutFits (l s)
fit s = s.requires.0.finding.layout

-- the rank's placement
abbrev ss : Start → List ℕ
ss s = placement_of (f s) s.args.rank

-- what the bearers of the rank's placement say
told : (c : After-agrees) → (c.agrees.result ≡ agrees (f (goal.at.After-agrees c).Start) c.args.word.now c.args.rank (ss (goal.at.After-agrees c).Start))
told c =
    let b = c.bearers_of-kinds in
    let same = starts-are (l (goal.at.After-agrees c).Start) (fit (goal.at.After-agrees c).Start) c.args.rank c.requires.0.below c.unrank-placement.result c.unrank-placement.ensures in
    rw (← c.requires.0.spelled) at (c.agrees.ensures (ss (goal.at.After-agrees c).Start) (subst (λ (r : List ℕ). BearersOf (f (goal.at.After-agrees c).Start) r (kind_numbers b.result)) same b.ensures))

pub overflow_cast-layout-2 : goal.overflow_cast-layout-2
overflow_cast-layout-2 c = omega (arith, bound (l (goal.at.overflow_cast-layout-2 c).Start) (fit (goal.at.overflow_cast-layout-2 c).Start))

pub overflow_cast-layout-3 : goal.overflow_cast-layout-3
overflow_cast-layout-3 c =
    omega (arith, long (l (goal.at.overflow_cast-layout-3 c).Start) (fit (goal.at.overflow_cast-layout-3 c).Start), bound (l (goal.at.overflow_cast-layout-3 c).Start) (fit (goal.at.overflow_cast-layout-3 c).Start))

pub unrank-placement-requires : goal.unrank-placement-requires
unrank-placement-requires c =
    (room_of (l (goal.at.unrank-placement-requires c).Start) (fit (goal.at.unrank-placement-requires c).Start), (served (l (goal.at.unrank-placement-requires c).Start) (fit (goal.at.unrank-placement-requires c).Start)).counted, c.requires.0.below)

pub bearers_of-kinds-requires : goal.bearers_of-kinds-requires
bearers_of-kinds-requires c =
    (bearing (l (goal.at.bearers_of-kinds-requires c).Start) (fit (goal.at.bearers_of-kinds-requires c).Start) c.args.rank c.requires.0.below c.unrank-placement.result c.unrank-placement.ensures c.requires.0.some-symbol, c.requires.1)

pub agrees-requires-clause-known : goal.agrees-requires-clause-known
agrees-requires-clause-known c =
    let all : length c.bearers_of-kinds.result ≡ max_blocks = search rules in
    omega (arith, (bound (l (goal.at.agrees-requires-clause-known c).Start) (fit (goal.at.agrees-requires-clause-known c).Start)).m-most, all)

pub returns-then-not-agrees : goal.returns-then-not-agrees
returns-then-not-agrees c =
    disagreeing (f (goal.at.returns-then-not-agrees c).Start) c.args.word.now c.args.rank c.requires.0.taken c.requires.0.below (sym (told (goal.at.returns-then-not-agrees c).After-agrees) ∙ c.if-not-agrees.true)

pub returns : goal.returns
returns c =
    let b = c.bearers_of-kinds in
    located (l (goal.at.returns c).Start) (fit (goal.at.returns c).Start) c.args.rank c.requires.0.below c.unrank-placement.result c.unrank-placement.ensures c.args.word.now (kind_numbers b.result) b.ensures
    (agreeing (f (goal.at.returns c).Start) c.args.word.now c.args.rank c.requires.0.taken c.requires.0.below (sym (told (goal.at.returns c).After-agrees) ∙ c.if-not-agrees.false))
