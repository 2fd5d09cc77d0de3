-- What the program's loop keeps: its state is that at the end of a trace, and every answer of the system brings the stop nearer. Assumes nothing.
use mathlib.Core.Path.{◌≡◌, sym, ap, subst, ◌∙◌}
use mathlib.Core.Bool.{Bool, true, false, cond, false≢true}
use mathlib.Core.List.{List, [], ◌∷◌}
use mathlib.Core.Logic.{⊎_elim}
use Prim.Native.Nat.{ℕ, ◌+◌, ◌-◌, ◌≤◌, ◌<◌}
use native.Mathlib.Omega.{arith}
use borrow.Rule.Slice.PartMut.{mid_of, put_mid, mid_len, same_len_mid}
use lib.IntN.{ℤ, pos, negsuc}
use lib.ListN.{length, take}
use mir.Syntax.{w64}
use mir.Val.{to_z}
use Rattle.std.proofs.Math.Facts.{to_z_pos}
use Rattle.std.specs.Io.KnownBytes.{Consumes, Appends, IsAtEnd, Keeps}
use Rattle.std.specs.declared.option.Option.{Option}
use Rattle.std.specs.declared.result.Result.{Result}
use Rattle.std.specs.Prelude.{OnOk, is_ok, Ok, Err}
use Rattle.turns.specs.declared.State.{State}
use Rattle.turns.specs.declared.Wants.{Wants}
use Rattle.turns.specs.declared.Wants.TheVariants.{Read, Write, Stop}
use Rattle.turns.specs.View.{buffer_len, View, wants_at, wants_of, is_servable, advance_out}
use Rattle.turns.specs.State.{Buffers, WithinBuffers, view_of, Begun, WaitsInFront, after_read, after_write, Moved}
use Rattle.turns.specs.Trace.{Event, written, unwritten, Answers, after_event, view_after, IsTrace}
use Rattle.turns.proofs.Views.{waiting-length, gathered-length, view-begun, begun-within, event_of, view-read, event-fits, read-within, read-repeats}
use Rattle.turns.proofs.Views.{view-written, write-within, written-fits}
use Rattle.turns.proofs.Printing.{after-rests}
use Rattle.turns.proofs.Ending.{left, read-less, write-less}
use Rattle.burgzemi.specs.Finished.{Finished}
use Rattle.burgzemi.specs.Served.{Served}
use Rattle.burgzemi.proofs.Known.{Known, begun-known, Carried, known-then, read-carries, failed-carries, write-carries, prints-whole, prints-part}

-- of a reader that had and has these bytes left, where they are known, and a writer that held and holds these
pub record Going (s : State) (input output : List ℕ) (had has held holds : Option (List ℕ)) : Type 0 where
  pub buffers : Buffers input output
  pub within : WithinBuffers s
  pub front : WaitsInFront s
  pub events : List Event
  pub trace : IsTrace events
  pub view : view_of s input output ≡ view_after events
  pub known : Known events had has held holds

-- the system has answered: the state before the core goes on
pub record Answered (s q : State) (input next output : List ℕ) (has has' holds holds' : Option (List ℕ)) : Type 0 where
  pub event : Event
  pub fits : Answers (wants_of (view_of s input output)) event
  pub view : view_of q next output ≡ after_event (view_of s input output) event
  pub within : WithinBuffers q
  pub size : length next ≡ buffer_len
  pub less : left (advance_out (after_event (view_of s input output) event)) + q.repeats < left (view_of s input output) + s.repeats
  pub carried : Carried event (view_of s input output) has has' holds holds'

pub ok-holds : {T E P : Type 0} (r : Result T E) → OnOk r P → is_ok r ≡ true → P
ok-holds (Ok x) h e = h
ok-holds (Err y) h e = absurd (false≢true e)

-- a count as the machine holds it
pub told-count : (s : State) (count : ℕ) (error : ℤ) → count ≤ buffer_len → after_read s (to_z w64 count) error ≡ after_read s (pos count) error
told-count s count error h = ap (λ (z : ℤ). after_read s z error) (to_z_pos w64 (omega arith))

pub begun-going : (s : State) (input output : List ℕ) (has holds : Option (List ℕ)) → Buffers input output → Begun s
    → Going s input output has has holds holds
begun-going s input output has holds b h =
    record {
      buffers = b;
      within = begun-within s h;
      front = λ _. (h.from, omega (arith, h.to));
      events = [];
      trace = tt;
      view = view-begun s input output h;
      known = begun-known has holds;
    }

module _ {s : State} {input output : List ℕ} {had has held holds : Option (List ℕ)} (g : Going s input output had has held holds) where
  -- what the code sees is wanted is what the view wants
  wanted : (w : Wants) → w ≡ wants_at s.gathered s.phase → wants_of (view_of s input output) ≡ w
  wanted w e = ap (λ (n : ℕ). wants_at n s.phase) (gathered-length s output g.within g.buffers.1) ∙ sym e

  rests : is_servable (view_of s input output) ≡ false
  rests = ap is_servable g.view ∙ after-rests g.events

  short : length (view_of s input output).waiting ≤ buffer_len
  short = omega (arith, waiting-length s input g.within g.buffers.0, g.within.read)

  -- a read, by the bytes of the buffer behind what waits
  module _ {w : Wants} (e : w ≡ wants_at s.gathered s.phase) (r : w ≡ Read) (bytes next : List ℕ) (q : State) (has' : Option (List ℕ))
      (n : length bytes ≡ length (mid_of s.to (length input - s.to) input)) (put : next ≡ put_mid s.to (length input - s.to) input bytes) where
    room : length bytes ≡ buffer_len - s.to
    room = n ∙ mid_len s.to (length input) input (omega (arith, g.within.read, g.buffers.0)) ∙ ap (λ (j : ℕ). j - s.to) g.buffers.0

    read-answered : (got error : ℤ) → Moved (buffer_len - s.to) got → q ≡ after_read s got error
        → Carried (event_of s got error bytes) (view_of s input output) has has' holds holds → Answered s q input next output has has' holds holds
    read-answered got error moved is c =
        let want : wants_of (view_of s input output) ≡ Read = wanted w e ∙ r in
        let front = g.front (sym e ∙ r) in
        let v : view_of q next output ≡ after_event (view_of s input output) (event_of s got error bytes) =
        ap (λ (x : State). view_of x next output) is ∙ ap (λ (x : List ℕ). view_of (after_read s got error) x output) put
        ∙ view-read s input output bytes (length input - s.to) g.within front.0 g.buffers.0 room got error moved in
        let inside : WithinBuffers q = subst WithinBuffers (sym is)
        (read-within s input output bytes (length input - s.to) g.within front.0 g.buffers.0 room got error moved) in
        let size : length next ≡ buffer_len = ap length put ∙ same_len_mid s.to (length input - s.to) input bytes n ∙ g.buffers.0 in
        let fits = event-fits s input output bytes (length input - s.to) g.within front.0 g.buffers.0 room got error moved in
        record {
          event = event_of s got error bytes;
          fits = subst (λ (x : Wants). Answers x (event_of s got error bytes)) (sym want) fits;
          view = v;
          within = inside;
          size = size;
          less =
              let fewer = read-repeats s bytes got error in
              let same : q.repeats ≡ (after_read s got error).repeats = ap (λ (x : State). x.repeats) is in
              ⊎_elim (λ l. omega (arith, l, fewer.0, same)) (λ l. omega (arith, l.1, fewer.1 l.0, same))
              (read-less (view_of s input output) rests short (event_of s got error bytes) want fits
              (omega (arith, ap (λ (x : View). length x.waiting) v, waiting-length q next inside size, inside.read)));
          carried = c;
        }

    pub read-came : (count : ℕ) → count ≤ length bytes → q ≡ after_read s (to_z w64 count) (pos 0)
        → Consumes has has' (take count bytes) × (count ≡ 0 → 0 < length bytes → IsAtEnd has') → Answered s q input next output has has' holds holds
    read-came count few is h =
        read-answered (pos count) (pos 0) (omega (arith, room)) (is ∙ told-count s count (pos 0) (omega (arith, room)))
        (read-carries s (view_of s input output) (pos 0) bytes has has' holds count (omega (arith, room, (g.front (sym e ∙ r)).1)) h)

    pub read-failed : (error : ℤ) → q ≡ after_read s (negsuc 0) error → Keeps has has' → Answered s q input next output has has' holds holds
    read-failed error is h =
        read-answered (negsuc 0) error (omega arith) is (failed-carries s (view_of s input output) error bytes has has' holds h)

  pub write-answered : {w : Wants} → w ≡ wants_at s.gathered s.phase → w ≡ Write → (b : Bool) (next : List ℕ) (q : State)
      (holds' : Option (List ℕ)) → q ≡ after_write s b → next ≡ input → (b ≡ true → Appends holds holds' (take s.gathered output))
      → Answered s q input next output has has holds holds'
  write-answered {w} e r b next q holds' is same h =
      let want : wants_of (view_of s input output) ≡ Write = wanted w e ∙ r in
      record {
        event = cond b written unwritten;
        fits = subst (λ (x : Wants). Answers x (cond b written unwritten)) (sym want) (written-fits b);
        view = ap (λ (x : State). view_of x next output) is ∙ ap (λ (x : List ℕ). view_of (after_write s b) x output) same
            ∙ view-written s input output b;
        within = subst WithinBuffers (sym is) (write-within s b g.within);
        size = ap length same ∙ g.buffers.0;
        less = omega (arith, write-less (view_of s input output) rests short b want, ap (λ (x : State). x.repeats) is);
        carried = write-carries (view_of s input output) b has holds holds' h;
      }

  -- .. and the core goes on
  module _ {q : State} (r : State) {next : List ℕ} (after shown : List ℕ) {has' holds' : Option (List ℕ)}
      (a : Answered s q input next output has has' holds holds') (v : view_of r after shown ≡ advance_out (view_of q next output))
      (same : r.repeats ≡ q.repeats) where
    stepped : view_of r after shown ≡ advance_out (after_event (view_of s input output) a.event)
    stepped = v ∙ ap advance_out a.view

    pub turn-less : left (view_of r after shown) + r.repeats < left (view_of s input output) + s.repeats
    turn-less = omega (arith, a.less, ap left stepped, same)

    pub turn-going : Buffers after shown → WithinBuffers r → WaitsInFront r → Going r after shown had has' held holds'
    turn-going b h f =
        record {
          buffers = b;
          within = h;
          front = f;
          events = a.event ∷ g.events;
          trace = (g.trace, subst (λ (x : View). Answers (wants_of x) a.event) g.view a.fits);
          view = stepped ∙ ap (λ (x : View). advance_out (after_event x a.event)) g.view;
          known = known-then g.events had has has' held holds holds' g.known a.event
              (subst (λ (x : View). Carried a.event x has has' holds holds') g.view a.carried);
        }

  module _ {w : Wants} (e : w ≡ wants_at s.gathered s.phase) (r : w ≡ Stop) where
    stops : wants_of (view_after g.events) ≡ Stop
    stops = sym (ap wants_of g.view) ∙ wanted w e ∙ r

    pub finished : Finished s input output
    finished = record { events = g.events; trace = g.trace; view = g.view; stopped = stops }

    pub served : Served s input output had has held holds
    served =
        record {
          events = g.events;
          trace = g.trace;
          view = g.view;
          stopped = stops;
          read = g.known.read;
          end = g.known.end;
          wrote = g.known.wrote;
          prints = λ t f. prints-whole g.events g.trace stops t had has held holds g.known f;
          prints-unread = λ t f. prints-part g.events g.trace stops t had has held holds g.known f;
        }
