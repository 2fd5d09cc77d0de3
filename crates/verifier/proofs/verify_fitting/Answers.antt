-- `verify_fitting` meets its contract: 3 for the word, or what a word of n symbols gives. Assumes nothing.
use mathlib.Core.Path.{sym}
use Prim.Native.Nat.{◌≤◌}
use lib.ListN.{replicate}
use lib.Seq.{length-take-le}
use Rattle.cells.specs.Figures.{max_word}
use Rattle.codes.proofs.Layouts.{bound}
use Rattle.verifier.proofs.verify_fitting.Goals as goal
use Rattle.verifier.proofs.verify_fitting.Goals.{Start}

short : (s : Start) → s.args.layout.n ≤ max_word
short s = (bound s.args.layout s.requires).n-most

pub slice_bounds-expected-end : goal.slice_bounds-expected-end
slice_bounds-expected-end c = short (goal.at.slice_bounds-expected-end c).Start

pub slice_bounds-verify_against-end : goal.slice_bounds-verify_against-end
slice_bounds-verify_against-end c = sym (length-take-le c.args.layout.n (replicate max_word 0) (short (goal.at.slice_bounds-verify_against-end c).Start))

pub verify_against-requires : goal.verify_against-requires
verify_against-requires c =
    record { serves = c.requires; complete = c.if-word-n.false; room = length-take-le c.args.layout.n (replicate max_word 0) (short (goal.at.verify_against-requires c).Start) }
