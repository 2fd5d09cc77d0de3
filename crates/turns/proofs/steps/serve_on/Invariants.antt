-- What is to be done from the state of each turn on is what was to be done from the first. Assumes nothing.
use Rattle.std.proofs.Common.{◌≡◌, length}
use Rattle.records.specs.Bridge.{session_of, Knows}
use Rattle.turns.specs.View.{buffer_len, advance_out}
use Rattle.turns.specs.State.{WithinBuffers, view_of, waiting_in}
use Rattle.turns.proofs.Serving.{turns_at}
use Rattle.turns.proofs.steps.serve_on.Given as goal

abbrev pub invariant-loop-known : goal.invariant-loop-known
invariant-loop-known l =
    WithinBuffers l.now × (length l.output ≡ buffer_len) × (advance_out (view_of l.now l.input l.output) ≡ advance_out (view_of l.initial.now l.input l.initial.output))
    × (l.now.repeats ≡ l.initial.now.repeats) × Knows (session_of l.now.session) l.known

abbrev pub decreases-loop-known : goal.decreases-loop-known
decreases-loop-known l = turns_at l.now.phase (length (waiting_in l.now l.input))
