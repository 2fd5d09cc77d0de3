-- What the program does to the bytes that its reader has left and its writer holds, as far as those are known. Assumes nothing.
use Rattle.std.specs.Prelude.{◌≡◌, Bool, true, false, List, [], ◌∷◌, ℕ, IfSome}
use Rattle.std.specs.Io.KnownBytes.{Consumes, Appends}
use Rattle.std.specs.declared.option.Option.{Option}
use Rattle.transfer.specs.Program.{printed, printed_unread}
use Rattle.turns.specs.declared.State.{State}
use Rattle.turns.specs.declared.Wants.TheVariants.{Stop}
use Rattle.turns.specs.View.{wants_of}
use Rattle.turns.specs.State.{view_of}
use Rattle.turns.specs.Trace.{Event, came, ended, interrupted, failed, written, unwritten, view_after, IsTrace, brought, handed, all_taken}

-- whether a read came to the end of input, and whether one failed: after the one or the other no more of it is read
abbrev pub has_ended : List Event → Bool
has_ended [] = false
has_ended (ended ∷ es) = true
has_ended (failed ∷ es) = false
has_ended (came bytes ∷ es) = has_ended es
has_ended (interrupted ∷ es) = has_ended es
has_ended (written ∷ es) = has_ended es
has_ended (unwritten ∷ es) = has_ended es

abbrev pub has_failed : List Event → Bool
has_failed [] = false
has_failed (ended ∷ es) = false
has_failed (failed ∷ es) = true
has_failed (came bytes ∷ es) = has_failed es
has_failed (interrupted ∷ es) = has_failed es
has_failed (written ∷ es) = has_failed es
has_failed (unwritten ∷ es) = has_failed es

-- State and buffers are those at the end of a trace of the core, up to the stop, and the trace is what was read and written: of a reader that had and has
-- these bytes left, where they are known, and a writer that held and holds these.
pub record Served (s : State) (input output : List ℕ) (had has held holds : Option (List ℕ)) : Type 0 where
  pub events : List Event
  pub trace : IsTrace events
  pub view : view_of s input output ≡ view_after events
  pub stopped : wants_of (view_after events) ≡ Stop
  -- the reads took these bytes, and all where one came to the end
  pub read : Consumes had has (brought events)
  pub end : has_ended events ≡ true → IfSome had (λ bytes. bytes ≡ brought events)
  -- the writes put these behind what the writer held, unless one failed
  pub wrote : all_taken events ≡ true → Appends held holds (handed events)
  -- So what is to be printed for the reader's bytes is written, unless a read or a write failed; and where a read failed, what is to be printed for those
  -- that were read.
  pub prints : all_taken events ≡ true → has_failed events ≡ false → IfSome had (λ bytes. Appends held holds (printed bytes))
  pub prints-unread : all_taken events ≡ true → has_failed events ≡ true → Appends held holds (printed_unread (brought events))
