-- The state of every turn is that at the end of a trace of the core. Assumes nothing.
use Rattle.std.proofs.Common.{◌+◌}
use Rattle.turns.specs.State.{view_of}
use Rattle.turns.proofs.Ending.{left}
use Rattle.burgzemi.proofs.Going.{Going}
use Rattle.burgzemi.proofs.run.Given as goal

abbrev pub invariant-loop-state : goal.invariant-loop-state
invariant-loop-state g l =
    Going l.state l.input l.output (g.R.Read.remaining l.initial.reader) (g.R.Read.remaining l.reader) (g.W.Write.contents l.initial.writer)
    (g.W.Write.contents l.writer)

abbrev pub decreases-loop-state : goal.decreases-loop-state
decreases-loop-state g l = left (view_of l.state l.input l.output) + l.state.repeats
