-- `has_majority` meets its contract: a silent cell leaves no value, and the votes are counted by symbols. Assumes nothing.
use mathlib.Core.Path.{◌≡◌, sym, ap, ◌∙◌}
use Prim.Native.Nat.{suc}
use native.Mathlib.Omega.{arith}
use lib.ListN.{get_or}
use Rattle.combinatorics.specs.Lists.{all_below}
use Rattle.combinatorics.specs.Majority.{has_common}
use Rattle.larsson.specs.Figures.{sub_blocks}
use Rattle.larsson.specs.Reading.{sub_symbols, sub_value}
use Rattle.larsson_params.specs.Given.{larsson_figures_of}
use Rattle.sub_blocks.proofs.Room.{Reached, reached}
use Rattle.sub_blocks.proofs.Voting.{part-is, no_value, voted}
use Rattle.sub_blocks.proofs.majority.has_majority.Goals as goal
use Rattle.sub_blocks.proofs.majority.has_majority.Goals.{After-all_below, Start}

there : (s : Start) → Reached s.args.layout s.args.starts.now s.args.i
there s = reached s.args.layout s.requires.0.layout s.args.starts.now s.requires.1 s.args.i s.requires.2

-- what the test of the part says
tested : (c : After-all_below)
    → (let a = c.args in
    c.all_below.result ≡ all_below a.layout.q (sub_symbols (larsson_figures_of a.layout) a.word.now a.i))
tested c =
    let a = c.args in
    c.all_below.ensures
    ∙ ap (all_below a.layout.q) (part-is a.layout a.word.now c.requires.0 a.i (get_or a.starts.now a.i 0) c.requires.2
    (c.requires.1.0 a.i c.requires.2))

pub offset_bounds-starts-i : goal.offset_bounds-starts-i
offset_bounds-starts-i c = omega (arith, there (goal.at.offset_bounds-starts-i c).Start)

pub bounds-starts-i : goal.bounds-starts-i
bounds-starts-i c = omega (arith, there (goal.at.bounds-starts-i c).Start)

pub overflow_add-end : goal.overflow_add-end
overflow_add-end c = omega (arith, there (goal.at.overflow_add-end c).Start)

pub slice_bounds-all_below-end : goal.slice_bounds-all_below-end
slice_bounds-all_below-end c =
    omega (arith, there (goal.at.slice_bounds-all_below-end c).Start, c.requires.0.complete)

pub returns-then-not-all_below : goal.returns-then-not-all_below
returns-then-not-all_below c =
    let a = c.args in
    let f = larsson_figures_of a.layout in
    sym (ap (has_common (sub_blocks f) (suc a.layout.m) (sub_value f a.word.now))
    (no_value a.layout a.word.now c.requires.0 a.i (sym (tested (goal.at.returns-then-not-all_below c).After-all_below) ∙ c.if-not-all_below.true)))

pub returns : goal.returns
returns c =
    let a = c.args in
    voted a.layout a.word.now c.requires.0 a.i c.votes.result (sym (tested (goal.at.returns c).After-all_below) ∙ c.if-not-all_below.false)
    c.votes.ensures
