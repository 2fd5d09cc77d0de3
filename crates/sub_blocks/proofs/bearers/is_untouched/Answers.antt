-- `is_untouched` meets its contract: a burst that follows touches the sub-block exactly when one of all does. Assumes nothing.
use mathlib.Core.Path.{◌≡◌, refl, sym, ap, ◌∙◌}
use mathlib.Core.Bool.{Bool, false, not}
use mathlib.Core.List.{◌∷◌}
use Prim.Native.Nat.{ℕ, ◌+◌, ◌<◌}
use native.Mathlib.Omega.{arith}
use borrow.Author.Rules.{rules}
use mir.Syntax.{w16}
use mir.Val.{Fits}
use lib.ListN.{length, drop, drop_of_length-le, get_or}
use lib.Seq.{drop-cons, get_or-take, length-take-le}
use native.Mathlib.Numerals.{add-one}
use Rattle.combinatorics.specs.Lists.{any}
use Rattle.cells.specs.Figures.{max_bursts}
use Rattle.larsson.specs.Writing.{untouched}
use Rattle.placements.specs.Bridge.{starts_in}
use Rattle.larsson_params.specs.Given.{larsson_figures_of}
use Rattle.larsson_params.proofs.Shape.{bound, long}
use Rattle.sub_blocks.proofs.Room.{Reached, reached}
use Rattle.sub_blocks.proofs.Bearing.{touched, any_here, any-on, any_none, untouched-is}
use Rattle.sub_blocks.proofs.bearers.is_untouched.Goals as goal
use Rattle.sub_blocks.proofs.bearers.is_untouched.Goals.{In-loop-start, Start}

there : (s : Start) → Reached s.args.layout s.args.starts.now s.args.i
there s = reached s.args.layout s.requires.0.layout s.args.starts.now s.requires.1 s.args.i s.requires.2

pub bounds-starts-i : goal.bounds-starts-i
bounds-starts-i c = omega (arith, there (goal.at.bounds-starts-i c).Start)

pub overflow_add-end : goal.overflow_add-end
overflow_add-end c = omega (arith, there (goal.at.overflow_add-end c).Start)

pub shared_ref_as_front-bursts : goal.shared_ref_as_front-bursts
shared_ref_as_front-bursts c = omega (arith, c.requires.0.count, bound c.args.layout c.requires.0.layout)

-- the test of a burst
abbrev met : Start → ℕ → Bool
met s = let a = s.args in touched a.layout.b (get_or a.starts.now a.i 0) (get_or a.starts.now a.i 0 + a.layout.sub_len)

-- those that follow begin with the next
next : (c : In-loop-start) → any (met (goal.at.In-loop-start c).Start) (get_or (starts_in c.args.at) c.loop-start.start-index 0 ∷ drop (c.loop-start.start-index + 1) (starts_in c.args.at))
    ≡ any (met (goal.at.In-loop-start c).Start) (starts_in c.args.at)
next c =
    let k = c.loop-start.start-index in
    rw (add-one k) (ap (any (met (goal.at.In-loop-start c).Start)) (sym (drop-cons (starts_in c.args.at) k 0 c.loop-start-test.true))) ∙ c.loop-start.invariant

-- what the bursts say of the sub-block
says : (s : Start) → not (any (met s) (starts_in s.args.at)) ≡ untouched (larsson_figures_of s.args.layout) (starts_in s.args.at) s.args.i
says s = untouched-is s.args.layout s.args.at s.requires.0 (starts_in s.args.at) s.args.i _ _ (s.requires.1.0 s.args.i s.requires.2) refl

pub touches-requires : goal.touches-requires
touches-requires c =
    let p = c.args.at in
    let k = c.loop-start.start-index in
    let l : length p.starts ≡ max_bursts = search rules in
    let f : Fits w16 (get_or p.starts k 0) = search rules in
    let h : k < p.count = omega (arith, length-take-le p.count p.starts (omega (arith, c.requires.0.count, bound c.args.layout c.requires.0.layout)), c.loop-start-test.true) in
    (omega (arith, get_or-take p.count p.starts k 0 h), omega (arith, long c.args.layout c.requires.0.layout, bound c.args.layout c.requires.0.layout))

pub returns-then-touches : goal.returns-then-touches
returns-then-touches c =
    let ss = starts_in c.args.at in
    let k = c.loop-start.start-index in
    sym (ap not (any_here (met (goal.at.returns-then-touches c).Start) (get_or ss k 0) (drop (k + 1) ss) (rw c.touches.ensures at c.if-touches.true)))
    ∙ ap not (next (goal.at.returns-then-touches c).In-loop-start) ∙ says (goal.at.returns-then-touches c).Start

pub loop-start-preserved : goal.loop-start-preserved
loop-start-preserved c =
    let ss = starts_in c.args.at in
    let k = c.loop-start.start-index in
    sym (any-on (met (goal.at.loop-start-preserved c).Start) (get_or ss k 0) (drop (k + 1) ss) (rw c.touches.ensures at c.if-touches.false))
    ∙ next (goal.at.loop-start-preserved c).In-loop-start

pub returns : goal.returns
returns c =
    let ss = starts_in c.args.at in
    let none : any (met (goal.at.returns c).Start) ss ≡ false =
    sym c.loop-start.invariant ∙ ap (any (met (goal.at.returns c).Start)) (drop_of_length-le ss (omega arith)) ∙ any_none (met (goal.at.returns c).Start) in
    sym (ap not none) ∙ says (goal.at.returns c).Start
