-- What the code does to the state and the buffers, as it changes their view. Assumes nothing.
use mathlib.Core.Path.{◌≡◌, refl, sym, ap, subst, ◌∙◌}
use mathlib.Core.Bool.{Bool, true, false, cond, ◌&&◌, false≢true}
use mathlib.Core.List.{List, ◌++◌}
use Prim.Native.Nat.{ℕ, zero, suc, ◌+◌, ◌-◌, ◌≤◌, ◌<◌, min}
use native.Mathlib.Omega.{arith}
use borrow.Rule.Slice.PartMut.{put_mid, post_of}
use lib.Dec.{eqb, ltb}
use borrow.Author.Tests.{ltb-true}
use lib.IntN.{ℤ, pos, negsuc}
use lib.ListN.{length, take, drop, length-drop, length-append}
use lib.Seq.{length-take-le, take-take, take_at, take-append-le, take-append-add, drop-drop}
use Rattle.combinatorics.proofs.Cases.{by_le, eqb-other}
use Rattle.text.specs.Text.{overwrite}
use Rattle.text.proofs.Line.{line-take, overwrite-take}
use Rattle.transfer.specs.declared.StepAnswer.{StepAnswer}
use Rattle.records.specs.Session.{Session}
use Rattle.lines.specs.Lines.{max_line}
use Rattle.transfer.specs.Steps.{Step}
use Rattle.records.specs.Records.{needed_for}
use Rattle.records.specs.Bridge.{session_of}
use Rattle.transfer.specs.Bridge.{Shown}
use Rattle.turns.specs.declared.State.{State}
use Rattle.turns.specs.declared.Phase.{Phase}
use Rattle.turns.specs.declared.Phase.TheVariants.{Ended, Failed}
use Rattle.turns.specs.declared.Wants.TheVariants.{Read, Write}
use Rattle.turns.specs.View.{buffer_len, View, at_begin, wants_at, wants_of, room_at, ready_at, is_servable, step_at, step_for, phase_after, needs, served_out}
use Rattle.turns.specs.View.{advance_out}
use Rattle.turns.specs.State.{WithinBuffers, view_of, waiting_in, Begun, WaitsInFront, Fronted, with_more, repeated, in_phase, is_interrupted, is_repeated, Moved}
use Rattle.turns.specs.State.{after_read, after_write}
use Rattle.turns.specs.Trace.{Event, came, ended, interrupted, failed, written, unwritten, Answers, after_event}
use Rattle.records.proofs.Readable.{needed-most}
use Rattle.turns.proofs.Cut.{drop-take, take-least, drop-least}
use Rattle.turns.proofs.Serving.{advance-ends, reads}

abbrev pub view : Session → List ℕ → List ℕ → Phase → View
view s w g p = record { session = s; waiting = w; gathered = g; phase = p }

pub view-same : (s s' : Session) (w w' g g' : List ℕ) (p p' : Phase) → s ≡ s' → w ≡ w' → g ≡ g' → p ≡ p' → view s w g p ≡ view s' w' g' p'
view-same s s' w w' g g' p p' a b c d = rw (a, b, c, d)

-- a text that was put into a line is no longer than the line
pub text-fits : (text before line : List ℕ) → line ≡ overwrite 0 text before → length text ≤ length line
unfolding overwrite
text-fits text before line e = omega (arith, ap length e ∙ length-append text (drop (0 + length text) before))

pub shown-fits : {before line : List ℕ} {o : Step} (a : StepAnswer) → Shown a before line o → a.len ≤ length line
shown-fits {before} {line} {o} a h = omega (arith, text-fits o.line before line h.printed, h.len)

module _ (s : State) (input : List ℕ) (h : WithinBuffers s) (l : length input ≡ buffer_len) where
  pub waiting-length : length (waiting_in s input) ≡ s.to - s.from
  waiting-length = length-take-le (s.to - s.from) (drop s.from input) (omega (arith, h.read, h.ordered, length-drop s.from input))

  module _ (needed n : ℕ) (e : needed ≡ needed_for (session_of s.session) (waiting_in s input)) (m : n ≡ min needed (s.to - s.from)) where
    few : n ≤ s.to - s.from
    few = omega arith

    -- as many bytes as the record takes are handed over
    record-bytes : take (s.from + n - s.from) (drop s.from input) ≡ take (needed_for (session_of s.session) (waiting_in s input)) (waiting_in s input)
    record-bytes =
        let k : s.from + n - s.from ≡ n = omega arith in
        rw k
        (sym (take-take n (s.to - s.from) (drop s.from input) few)
        ∙ ap (λ (j : ℕ). take j (waiting_in s input)) (m ∙ ap (λ (j : ℕ). min needed j) (sym waiting-length))
        ∙ take-least needed (waiting_in s input) ∙ ap (λ (j : ℕ). take j (waiting_in s input)) e)

    -- and the rest of them waits
    left_over : take (s.to - (s.from + n)) (drop (s.from + n) input) ≡ drop (needed_for (session_of s.session) (waiting_in s input)) (waiting_in s input)
    left_over =
        let k : s.to - (s.from + n) ≡ s.to - s.from - n = omega arith in
        rw (k, ← drop-drop n s.from input, ← drop-take n (s.to - s.from) (drop s.from input) few)
        (ap (λ (j : ℕ). drop j (waiting_in s input)) (m ∙ ap (λ (j : ℕ). min needed j) (sym waiting-length))
        ∙ drop-least needed (waiting_in s input) ∙ ap (λ (j : ℕ). drop j (waiting_in s input)) e)

    module _ (output : List ℕ) (lo : length output ≡ buffer_len) (room : s.gathered + max_line ≤ buffer_len)
        (a : StepAnswer) (line₀ line : List ℕ) (shown : Shown a line₀ line
        (step_at s.phase (session_of s.session) (take (s.from + n - s.from) (drop s.from input))))
        (whole : length line ≡ max_line) (next : List ℕ) (gathered : ℕ) (phase : Phase)
        (put : next ≡ overwrite s.gathered (take a.len line) output) (behind : gathered ≡ s.gathered + a.len)
        (ph : phase ≡ phase_after s.phase a.stops) where
      is-step : Shown a line₀ line (step_for (view_of s input output))
      is-step = subst (λ (bytes : List ℕ). Shown a line₀ line (step_at s.phase (session_of s.session) bytes)) record-bytes shown

      abbrev after : State
      after = record { session = a.next; from = s.from + n; to = s.to; gathered = gathered; phase = phase; repeats = s.repeats }

      text : take a.len line ≡ (step_for (view_of s input output)).line
      text = rw (is-step.len, is-step.printed) (line-take (step_for (view_of s input output)).line line₀)

      lines : take gathered next ≡ take s.gathered output ++ (step_for (view_of s input output)).line
      lines =
          let k : gathered ≡ s.gathered + length (step_for (view_of s input output)).line = behind ∙ ap (λ (j : ℕ). s.gathered + j) is-step.len in
          rw (k, put, text) (overwrite-take s.gathered output (step_for (view_of s input output)).line (omega arith))

      pub served-view : view_of (record { session = a.next; from = s.from + n; to = s.to; gathered = gathered; phase = phase; repeats = s.repeats })
          input next ≡ served_out (view_of s input output)
      served-view =
          view-same (session_of a.next) (step_for (view_of s input output)).next (waiting_in after input)
          (drop (needs (view_of s input output)) (waiting_in s input))
          (take gathered next) (take s.gathered output ++ (step_for (view_of s input output)).line) phase
          (phase_after s.phase (step_for (view_of s input output)).stops)
          is-step.next left_over lines (ph ∙ ap (λ (b : Bool). phase_after s.phase b) is-step.stops)

      pub served-within : WithinBuffers (record { session = a.next; from = s.from + n; to = s.to; gathered = gathered; phase = phase; repeats = s.repeats })
      served-within =
          record {
            ordered = omega (arith, few, h.ordered);
            read = h.read;
            gathered = omega (arith, text-fits (step_for (view_of s input output)).line line₀ line is-step.printed, is-step.len);
          }

pub gathered-length : (s : State) (output : List ℕ) → WithinBuffers s → length output ≡ buffer_len → length (take s.gathered output) ≡ s.gathered
gathered-length s output h l = length-take-le s.gathered output (omega (arith, h.gathered))

pub room-le : (g : ℕ) → room_at g ≡ true → g + max_line ≤ buffer_len
room-le g = by_le g (buffer_len - max_line) (λ b. b ≡ true → g + max_line ≤ buffer_len) (λ h _. omega arith) (λ _ e. absurd (false≢true e))

-- whether a record can be served, as the code tests it
pub servable-is : (s : State) (input output : List ℕ) (needed : ℕ) (a b : Bool) → WithinBuffers s → length input ≡ buffer_len → length output ≡ buffer_len
    → a ≡ room_at s.gathered → needed ≡ needed_for (session_of s.session) (waiting_in s input) → b ≡ ready_at s.phase needed (s.to - s.from)
    → is_servable (view_of s input output) ≡ (a && b)
servable-is s input output needed a b h li lo e n f =
    let k = waiting-length s input h li in
    let g = gathered-length s output h lo in
    rw (g, k, e, f, n)

pub cut-ready : (a b : Bool) → b ≡ false → (a && b) ≡ false
cut-ready true b e = e
cut-ready false b e = refl

pub cut-room : (a b : Bool) → a ≡ false → (a && b) ≡ false
cut-room a b e = rw e

pub both_true : (a b : Bool) → a ≡ true → b ≡ true → (a && b) ≡ true
both_true a b e f = rw (e, f)

-- ---- What waits, at the front

module _ (s : State) (input moved : List ℕ) (n : ℕ) (h : WithinBuffers s) (l : length input ≡ buffer_len) where
  pub front-waits : n ≡ s.to - s.from → moved ≡ overwrite 0 (waiting_in s input) input → take (n - 0) (drop 0 moved) ≡ waiting_in s input
  front-waits e m =
      let k : n - 0 ≡ length (waiting_in s input) = omega (arith, waiting-length s input h l) in
      rw (k, m) (line-take (waiting_in s input) input)

pub fronted-view : (s r : State) (input moved output : List ℕ) → Fronted s r → waiting_in r moved ≡ waiting_in s input
    → view_of r moved output ≡ view_of s input output
fronted-view s r input moved output f w =
    view-same (session_of r.session) (session_of s.session) (waiting_in r moved) (waiting_in s input) (take r.gathered output)
    (take s.gathered output) r.phase s.phase
    (ap session_of f.session) w (ap (λ (g : ℕ). take g output) f.gathered) f.phase

-- a read that is wanted has room
pub front-room : (s r : State) (input output : List ℕ) (v : View) → Fronted s r → WithinBuffers s → length input ≡ buffer_len → length output ≡ buffer_len
    → view_of s input output ≡ advance_out v → WaitsInFront r
front-room s r input output v f h li lo e want =
    let wants : wants_at s.gathered s.phase ≡ Read = sym (ap (λ (g : ℕ). wants_at g r.phase) f.gathered
    ∙ ap (λ (p : Phase). wants_at s.gathered p) f.phase) ∙ want in
    let asks : wants_of (view_of s input output) ≡ Read = ap (λ (g : ℕ). wants_at g s.phase) (gathered-length s output h lo) ∙ wants in
    let rests : is_servable (view_of s input output) ≡ false = ap is_servable e ∙ advance-ends v in
    let is = reads (view_of s input output) rests asks in
    (f.front wants, omega (arith, is.lacks, needed-most (session_of s.session) (waiting_in s input), waiting-length s input h li, f.len, f.front wants))

-- ---- A turn

pub view-begun : (s : State) (input output : List ℕ) → Begun s → view_of s input output ≡ at_begin
view-begun s input output b =
    let k : s.to - s.from ≡ 0 = omega (arith, b.to) in
    rw (b.session, k, b.gathered, b.phase)

pub begun-within : (s : State) → Begun s → WithinBuffers s
begun-within s b = record { ordered = omega (arith, b.from); read = omega (arith, b.to); gathered = omega (arith, b.gathered) }

abbrev pub event_of : State → ℤ → ℤ → List ℕ → Event
event_of s (pos count) error bytes = cond (eqb count 0) ended (came (take count bytes))
event_of s (negsuc _) error bytes = cond (is_repeated s error) interrupted failed

module _ (s : State) (input output bytes : List ℕ) (k : ℕ) (h : WithinBuffers s) (f : s.from ≡ 0) (l : length input ≡ buffer_len)
    (n : length bytes ≡ buffer_len - s.to) where
  read-waits : (count : ℕ) → count ≤ buffer_len - s.to → take (s.to + count - s.from)
      (drop s.from (put_mid s.to k input bytes)) ≡ waiting_in s input ++ take count bytes
  read-waits count fits =
      let front : length (take s.to input) ≡ s.to = length-take-le s.to input (omega (arith, h.read)) in
      let j : s.to + count - s.from ≡ length (take s.to input) + count = omega arith in
      let j' : s.to - s.from ≡ s.to = omega arith in
      rw (j, j', f)
      (take-append-add (take s.to input) (bytes ++ post_of s.to k input) count
      ∙ ap (λ (t : List ℕ). take s.to input ++ t) (take-append-le count bytes (post_of s.to k input) (omega arith)))

  kept-waits : take (s.to - s.from) (drop s.from (put_mid s.to k input bytes)) ≡ waiting_in s input
  kept-waits =
      let front : length (take s.to input) ≡ s.to = length-take-le s.to input (omega (arith, h.read)) in
      let j' : s.to - s.from ≡ s.to = omega arith in
      rw (j', f) (take_at (take s.to input) (bytes ++ post_of s.to k input) s.to front)

  pub view-read : (got error : ℤ) → Moved (buffer_len - s.to) got
      → view_of (after_read s got error) (put_mid s.to k input bytes) output ≡ after_event (view_of s input output) (event_of s got error bytes)
  view-read (negsuc j) error m = go (is_repeated s error)
    where
      go : (b : Bool) → view_of (cond b (repeated s) (in_phase s Failed)) (put_mid s.to k input bytes) output ≡ after_event (view_of s input output)
          (cond b interrupted failed)
      go true = rw kept-waits
      go false = rw kept-waits
  view-read (pos zero) error m = rw kept-waits
  view-read (pos (suc c)) error m = rw (eqb-other (suc c) 0 (λ e. omega arith), read-waits (suc c) m)

  pub event-fits : (got error : ℤ) → Moved (buffer_len - s.to) got → Answers Read (event_of s got error bytes)
  event-fits (negsuc j) error m = go (is_repeated s error)
    where
      go : (b : Bool) → Answers Read (cond b interrupted failed)
      go true = tt
      go false = tt
  event-fits (pos zero) error m = tt
  event-fits (pos (suc c)) error m = rw (eqb-other (suc c) 0 (λ e. omega arith)) (omega (arith, length-take-le (suc c) bytes (omega (arith, m))))

  pub read-within : (got error : ℤ) → Moved (buffer_len - s.to) got → WithinBuffers (after_read s got error)
  read-within (negsuc j) error m = go (is_repeated s error)
    where
      go : (b : Bool) → WithinBuffers (cond b (repeated s) (in_phase s Failed))
      go true = record { ordered = h.ordered; read = h.read; gathered = h.gathered }
      go false = record { ordered = h.ordered; read = h.read; gathered = h.gathered }
  read-within (pos count) error m = go (eqb count 0)
    where
      go : (b : Bool) → WithinBuffers (cond b (in_phase s Ended) (with_more s count))
      go true = record { ordered = h.ordered; read = h.read; gathered = h.gathered }
      go false = record { ordered = omega (arith, h.ordered); read = omega (arith, m, h.read); gathered = h.gathered }

-- a read that is made again takes one of the repeats, and no other takes any
module _ (s : State) (bytes : List ℕ) where
  abbrev Fewer : State → Event → Type 0
  Fewer r e = (r.repeats ≤ s.repeats) × (e ≡ interrupted → r.repeats < s.repeats)

  pub read-repeats : (got error : ℤ) → Fewer (after_read s got error) (event_of s got error bytes)
  read-repeats (negsuc j) error = go (is_interrupted error) (ltb 0 s.repeats) refl
    where
      go : (a b : Bool) → ltb 0 s.repeats ≡ b → Fewer (cond (a && b) (repeated s) (in_phase s Failed)) (cond (a && b) interrupted failed)
      go true true e = let l = ltb-true 0 s.repeats e in (omega arith, λ _. omega arith)
      go true false e = (omega arith, λ f. let z : ◌≡◌ {A = ℕ} 0 1 = cc in absurd (omega arith))
      go false b e = (omega arith, λ f. let z : ◌≡◌ {A = ℕ} 0 1 = cc in absurd (omega arith))
  read-repeats (pos count) error = go (eqb count 0)
    where
      go : (b : Bool) → Fewer (cond b (in_phase s Ended) (with_more s count)) (cond b ended (came (take count bytes)))
      go true = (omega arith, λ f. let z : ◌≡◌ {A = ℕ} 0 1 = cc in absurd (omega arith))
      go false = (omega arith, λ f. let z : ◌≡◌ {A = ℕ} 0 1 = cc in absurd (omega arith))

pub view-written : (s : State) (input output : List ℕ) (b : Bool)
    → view_of (after_write s b) input output ≡ after_event (view_of s input output) (cond b written unwritten)
view-written s input output true = refl
view-written s input output false = refl

pub write-within : (s : State) (b : Bool) → WithinBuffers s → WithinBuffers (after_write s b)
write-within s b h = record { ordered = h.ordered; read = h.read; gathered = omega arith }

pub written-fits : (b : Bool) → Answers Write (cond b written unwritten)
written-fits true = tt
written-fits false = tt
