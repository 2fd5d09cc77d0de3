-- What the program leaves where it stops. Assumes nothing.
use Rattle.std.specs.Prelude.{◌≡◌, List, ℕ}
use Rattle.turns.specs.declared.State.{State}
use Rattle.turns.specs.declared.Wants.TheVariants.{Stop}
use Rattle.turns.specs.View.{wants_of}
use Rattle.turns.specs.State.{view_of}
use Rattle.turns.specs.Trace.{Event, view_after, IsTrace}

-- State and buffers are those at the end of a trace of the core: answers of the system, each to what was wanted then, up to the stop.
pub record Finished (s : State) (input output : List ℕ) : Type 0 where
  pub events : List Event
  pub trace : IsTrace events
  pub view : view_of s input output ≡ view_after events
  pub stopped : wants_of (view_after events) ≡ Stop
