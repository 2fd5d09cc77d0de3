-- `same_symbols` meets its contract: the stretches are the sub-blocks'. Assumes nothing.
use Prim.Native.Nat.{ℕ, ◌<◌}
use native.Mathlib.Omega.{arith}
use Rattle.larsson.specs.Figures.{sub_blocks}
use Rattle.larsson_params.specs.Given.{larsson_figures_of}
use Rattle.sub_blocks.proofs.Room.{Reached, reached}
use Rattle.sub_blocks.proofs.Voting.{symbols-from}
use Rattle.sub_blocks.proofs.majority.same_symbols.Goals as goal
use Rattle.sub_blocks.proofs.majority.same_symbols.Goals.{Start}

there : (s : Start) (k : ℕ) → k < sub_blocks (larsson_figures_of s.args.layout) → Reached s.args.layout s.args.starts.now k
there s = reached s.args.layout s.requires.0.layout s.args.starts.now s.requires.1

pub offset_bounds-starts-i : goal.offset_bounds-starts-i
offset_bounds-starts-i c = omega (arith, there (goal.at.offset_bounds-starts-i c).Start c.args.i c.requires.2)

pub bounds-starts-i : goal.bounds-starts-i
bounds-starts-i c = omega (arith, there (goal.at.bounds-starts-i c).Start c.args.i c.requires.2)

pub offset_bounds-starts-j : goal.offset_bounds-starts-j
offset_bounds-starts-j c = omega (arith, there (goal.at.offset_bounds-starts-j c).Start c.args.j c.requires.3)

pub bounds-starts-j : goal.bounds-starts-j
bounds-starts-j c = omega (arith, there (goal.at.bounds-starts-j c).Start c.args.j c.requires.3)

pub same_stretches-requires : goal.same_stretches-requires
same_stretches-requires c =
    (omega (arith, there (goal.at.same_stretches-requires c).Start c.args.i c.requires.2, c.requires.0.complete), omega (arith, there (goal.at.same_stretches-requires c).Start c.args.j c.requires.3, c.requires.0.complete))

pub returns : goal.returns
returns c =
    let a = c.args in
    let one = symbols-from a.layout a.word.now c.requires.0 in
    rw (one a.i _ (c.requires.1.0 a.i c.requires.2), one a.j _ (c.requires.1.0 a.j c.requires.3)) at c.same_stretches.ensures
