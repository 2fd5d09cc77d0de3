-- Every trace prints what document 01 has printed of what was brought. Assumes nothing.
use mathlib.Core.Path.{◌≡◌, refl, sym, ap, ◌∙◌}
use mathlib.Core.Logic.{◌⊎◌, inl, inr, ⊎_elim}
use mathlib.Core.Bool.{Bool, true, false, true≢false}
use mathlib.Core.List.{List, [], ◌∷◌, ◌++◌, append_assoc, append-nil}
use Prim.Native.Nat.{ℕ, ◌≤◌}
use native.Mathlib.Omega.{arith}
use Rattle.records.specs.Session.{Session, max_records}
use Rattle.lines.specs.Lines.{stop_line, end_line}
use Rattle.transfer.proofs.Program.{printed_on}
use Rattle.turns.specs.declared.Phase.{Phase}
use Rattle.turns.specs.declared.Phase.TheVariants.{Open, Ended, Failed, Done}
use Rattle.turns.specs.declared.Wants.{Wants}
use Rattle.turns.specs.declared.Wants.TheVariants.{Read, Write, Stop}
use Rattle.turns.specs.View.{View, wants_of, is_servable, step_for, phase_after, advance_out}
use Rattle.turns.specs.Trace.{Event, came, ended, interrupted, failed, written, unwritten, Answers, after_event, view_after, IsTrace, brought, handed}
use Rattle.turns.specs.Trace.{all_taken, MayCome, printed_to, TracePrints}
use Rattle.turns.proofs.Serving.{done-rests, advance-keeps, advance-rests, advance-ends, begin-rests, Reading, reads, stops-written}
use Rattle.turns.proofs.Kept.{to_come, KeptAt, Kept, keeps}

-- ---- How the phase goes

-- a phase stays or is done
abbrev pub Later : Phase → Phase → Type 0
Later p q = (q ≡ p) ⊎ (q ≡ Done)

later-after : (p q : Phase) (stops : Bool) → Later p q → Later p (phase_after q stops)
later-after p q true h = inr refl
later-after p q false h = h

pub phase-later : (v : View) → Later v.phase (advance_out v).phase
phase-later v = advance-keeps (λ (x : View). Later v.phase x.phase) (λ x e h. later-after v.phase x.phase (step_for x).stops h) v (inl refl)

pub open-before : (p q : Phase) → Later p q → q ≡ Open → p ≡ Open
open-before p q h e = ⊎_elim (λ s. sym s ∙ e) (λ d. let z : ◌≡◌ {A = ℕ} 0 1 = cc in absurd (omega arith)) h

-- while the input goes on anything may come
open_any : (es : List Event) → (view_after es).phase ≡ Open → (rest last : List ℕ) → MayCome es rest last
open_any [] e rest last = tt
open_any (came bytes ∷ es) e rest last = open_any es (open-before (view_after es).phase _ (phase-later (after_event (view_after es) (came bytes))) e) rest last
open_any (ended ∷ es) e rest last = absurd (ended-open (open-before Ended _ (phase-later (after_event (view_after es) ended)) e))
  where
    ended-open : Ended ≡ Open → ⊥
    ended-open f = let z : ◌≡◌ {A = ℕ} 0 1 = cc in omega arith
open_any (failed ∷ es) e rest last = absurd (failed-open (open-before Failed _ (phase-later (after_event (view_after es) failed)) e))
  where
    failed-open : Failed ≡ Open → ⊥
    failed-open f = let z : ◌≡◌ {A = ℕ} 0 1 = cc in omega arith
open_any (interrupted ∷ es) e rest last = open_any es (open-before (view_after es).phase _ (phase-later (view_after es)) e) rest last
open_any (written ∷ es) e rest last = open_any es (open-before (view_after es).phase _ (phase-later (after_event (view_after es) written)) e) rest last
open_any (unwritten ∷ es) e rest last = absurd (done-open (open-before Done _ (phase-later (after_event (view_after es) unwritten)) e))
  where
    done-open : Done ≡ Open → ⊥
    done-open f = let z : ◌≡◌ {A = ℕ} 0 1 = cc in omega arith

pub after-rests : (es : List Event) → is_servable (view_after es) ≡ false
after-rests [] = begin-rests
after-rests (e ∷ es) = advance-ends (after_event (view_after es) e)

-- ---- Every trace

-- while every write took what it was handed; or one did not, and that was the last event
data At (es : List Event) (rest last : List ℕ) : Type 0 where
  going : all_taken es ≡ true → Kept (printed_to last (brought es ++ rest)) (handed es) rest last (view_after es) → At es rest last
  refused : all_taken es ≡ false → wants_of (view_after es) ≡ Stop → (out : List ℕ) → printed_to last (brought es ++ rest) ≡ handed es ++ out → At es rest last

-- what was wanted, by what answered it
answers-read : (w : Wants) (e : Event) → (Answers Write e → ⊥) → Answers w e → w ≡ Read
answers-read Read e n a = refl
answers-read Write e n a = absurd (n a)
answers-read Stop e n a = absurd a

answers-write : (w : Wants) (e : Event) → (Answers Read e → ⊥) → Answers w e → w ≡ Write
answers-write Read e n a = absurd (n a)
answers-write Write e n a = refl
answers-write Stop e n a = absurd a

-- what was kept of a view that waits for a read
open_kept : (whole done rest last : List ℕ) (p : Phase) (s : Session) (w g : List ℕ) → p ≡ Open → g ≡ [] → KeptAt whole done rest last p s w g
    → (s.count ≤ max_records) × (whole ≡ done ++ printed_on last s (w ++ rest))
open_kept whole done rest last Open s w g e f k = (k.0, k.1 ∙ ap (λ (x : List ℕ). done ++ (x ++ printed_on last s (w ++ rest))) f)
open_kept whole done rest last Ended s w g e f k = let z : ◌≡◌ {A = ℕ} 0 1 = cc in absurd (omega arith)
open_kept whole done rest last Failed s w g e f k = let z : ◌≡◌ {A = ℕ} 0 1 = cc in absurd (omega arith)
open_kept whole done rest last Done s w g e f k = let z : ◌≡◌ {A = ℕ} 0 1 = cc in absurd (omega arith)

done-kept : (whole done rest last : List ℕ) (p : Phase) (s : Session) (w g : List ℕ) → p ≡ Done → g ≡ [] → KeptAt whole done rest last p s w g → done ≡ whole
done-kept whole done rest last Done s w g e f k = sym (k.1 ∙ ap (λ (x : List ℕ). done ++ (x ++ [])) f ∙ append-nil done)
done-kept whole done rest last Open s w g e f k = let z : ◌≡◌ {A = ℕ} 0 1 = cc in absurd (omega arith)
done-kept whole done rest last Ended s w g e f k = let z : ◌≡◌ {A = ℕ} 0 1 = cc in absurd (omega arith)
done-kept whole done rest last Failed s w g e f k = let z : ◌≡◌ {A = ℕ} 0 1 = cc in absurd (omega arith)

-- a write moves what was gathered to what was handed over
written-kept : (whole done rest last : List ℕ) (p : Phase) (s : Session) (w g : List ℕ) → KeptAt whole done rest last p s w g
    → KeptAt whole (done ++ g) rest last p s w []
written-kept whole done rest last p s w g k = (k.0, k.1 ∙ sym (append_assoc done g (to_come rest last p s w)))

-- a read brought bytes
came-kept : (whole done bytes rest last : List ℕ) (s : Session) (w : List ℕ)
    → (s.count ≤ max_records) × (whole ≡ done ++ printed_on last s (w ++ (bytes ++ rest)))
    → (p : Phase) (g : List ℕ) → p ≡ Open → g ≡ [] → KeptAt whole done rest last p s (w ++ bytes) g
came-kept whole done bytes rest last s w k p g e f =
    rw (e, f) (k.0, k.1 ∙ ap (λ (x : List ℕ). done ++ printed_on last s x) (sym (append_assoc w bytes rest)))

module _ (es : List Event) (is-trace : IsTrace es) (so : (rest last : List ℕ) → MayCome es rest last → At es rest last) where
  -- of a trace that goes on
  kept_of : (rest last : List ℕ) → MayCome es rest last → (wants_of (view_after es) ≡ Stop → ⊥)
      → (all_taken es ≡ true) × Kept (printed_to last (brought es ++ rest)) (handed es) rest last (view_after es)
  kept_of rest last m n = go (so rest last m)
    where
      go : At es rest last → (all_taken es ≡ true) × Kept (printed_to last (brought es ++ rest)) (handed es) rest last (view_after es)
      go (going a k) = (a, k)
      go (refused a s out e) = absurd (n s)

  module _ (want : wants_of (view_after es) ≡ Read) where
    is : Reading (view_after es)
    is = reads (view_after es) (after-rests es) want

    read-not-stop : wants_of (view_after es) ≡ Stop → ⊥
    read-not-stop e = let z : ◌≡◌ {A = ℕ} 0 1 = cc in omega arith

    read_kept : (rest last : List ℕ) → (all_taken es ≡ true) × ((view_after es).session.count ≤ max_records)
        × (printed_to last (brought es ++ rest) ≡ handed es ++ printed_on last (view_after es).session ((view_after es).waiting ++ rest))
    read_kept rest last =
        let k = kept_of rest last (open_any es is.open-still rest last) read-not-stop in
        let o = open_kept (printed_to last (brought es ++ rest)) (handed es) rest last (view_after es).phase (view_after es).session (view_after es).waiting
        (view_after es).gathered is.open-still is.written_all k.1 in
        (k.0, o.0, o.1)

    at-came : (bytes rest last : List ℕ) → At (came bytes ∷ es) rest last
    at-came bytes rest last =
        let k = read_kept (bytes ++ rest) last in
        let whole : printed_to last ((brought es ++ bytes) ++ rest) ≡ printed_to last (brought es ++ (bytes ++ rest)) =
        ap (λ (x : List ℕ). printed_to last x) (append_assoc (brought es) bytes rest) in
        let e : printed_to last ((brought es ++ bytes) ++ rest) ≡ (handed es ++ []) ++ printed_on last (view_after es).session
        ((view_after es).waiting ++ (bytes ++ rest)) =
        whole ∙ k.2 ∙ ap (λ (x : List ℕ). x ++ printed_on last (view_after es).session ((view_after es).waiting ++ (bytes ++ rest)))
        (sym (append-nil (handed es))) in
        going k.0
        (keeps (printed_to last ((brought es ++ bytes) ++ rest)) (handed es ++ []) rest last (after_event (view_after es) (came bytes))
        (came-kept (printed_to last ((brought es ++ bytes) ++ rest)) (handed es ++ []) bytes rest last (view_after es).session (view_after es).waiting
        (k.1, e) (view_after es).phase (view_after es).gathered is.open-still is.written_all))

    -- the same bytes, and nothing more
    closing : (rest last : List ℕ) → rest ≡ [] → printed_to last ((brought es ++ []) ++ rest) ≡ (handed es ++ []) ++
        ([] ++ printed_on last (view_after es).session ((view_after es).waiting ++ rest))
    closing rest last r =
        let k = read_kept rest last in
        ap (λ (x : List ℕ). printed_to last (x ++ rest)) (append-nil (brought es)) ∙ k.2
        ∙ ap (λ (x : List ℕ). x ++ printed_on last (view_after es).session ((view_after es).waiting ++ rest)) (sym (append-nil (handed es)))

    shut : (g : List ℕ) → g ≡ [] → (rest last : List ℕ) → rest ≡ []
        → printed_to last ((brought es ++ []) ++ rest) ≡ (handed es ++ []) ++ (g ++ printed_on last (view_after es).session ((view_after es).waiting ++ rest))
    shut g f rest last r = rw f (closing rest last r)

    at_ended : (rest last : List ℕ) → (rest ≡ []) × (last ≡ end_line) → At (ended ∷ es) rest last
    at_ended rest last m =
        let k = read_kept rest last in
        going k.0
        (keeps (printed_to last ((brought es ++ []) ++ rest)) (handed es ++ []) rest last (after_event (view_after es) ended)
        ((k.1, m.0, m.1), shut (view_after es).gathered is.written_all rest last m.0))

    at-failed : (rest last : List ℕ) → (rest ≡ []) × (last ≡ stop_line) → At (failed ∷ es) rest last
    at-failed rest last m =
        let k = read_kept rest last in
        going k.0
        (keeps (printed_to last ((brought es ++ []) ++ rest)) (handed es ++ []) rest last (after_event (view_after es) failed)
        ((k.1, m.0, m.1, is.lacks), shut (view_after es).gathered is.written_all rest last m.0))

  module _ (rest last : List ℕ) (m : MayCome es rest last) (n : wants_of (view_after es) ≡ Stop → ⊥) where
    same-brought : printed_to last ((brought es ++ []) ++ rest) ≡ printed_to last (brought es ++ rest)
    same-brought = ap (λ (x : List ℕ). printed_to last (x ++ rest)) (append-nil (brought es))

    at-interrupted : At (interrupted ∷ es) rest last
    at-interrupted =
        let k = kept_of rest last m n in
        going k.0
        (keeps (printed_to last ((brought es ++ []) ++ rest)) (handed es ++ []) rest last (view_after es) (
          k.1.0,
          same-brought ∙ k.1.1
              ∙ ap (λ (x : List ℕ). x ++ ((view_after es).gathered ++ to_come rest last (view_after es).phase (view_after es).session (view_after es).waiting))
              (sym (append-nil (handed es))),
        ))

    at-written : At (written ∷ es) rest last
    at-written =
        let k = kept_of rest last m n in
        going k.0
        (keeps (printed_to last ((brought es ++ []) ++ rest)) (handed es ++ (view_after es).gathered) rest last (after_event (view_after es) written)
        (let w = written-kept (printed_to last (brought es ++ rest)) (handed es) rest last (view_after es).phase (view_after es).session
        (view_after es).waiting (view_after es).gathered k.1 in
        (w.0, same-brought ∙ w.1)))

    at-unwritten : At (unwritten ∷ es) rest last
    at-unwritten =
        let k = kept_of rest last m n in
        let v = after_event (view_after es) unwritten in
        let stays : advance_out v ≡ v = advance-rests v (done-rests v refl) in
        refused refl (ap wants_of stays) (to_come rest last (view_after es).phase (view_after es).session (view_after es).waiting)
        (same-brought ∙ k.1.1 ∙ sym (append_assoc (handed es) (view_after es).gathered
        (to_come rest last (view_after es).phase (view_after es).session (view_after es).waiting)))

write-not-stop : (w : Wants) → w ≡ Write → w ≡ Stop → ⊥
write-not-stop w e f = let z : ◌≡◌ {A = ℕ} 0 1 = cc in omega arith

at : (es : List Event) → IsTrace es → (rest last : List ℕ) → MayCome es rest last → At es rest last
at [] r rest last m = going refl (omega arith, refl)
at (came bytes ∷ es) r rest last m = at-came es r.0 (at es r.0) (answers-read (wants_of (view_after es)) (came bytes) (λ x. x) r.1) bytes rest last
at (ended ∷ es) r rest last m = at_ended es r.0 (at es r.0) (answers-read (wants_of (view_after es)) ended (λ x. x) r.1) rest last m
at (interrupted ∷ es) r rest last m =
    at-interrupted es r.0 (at es r.0) rest last m (read-not-stop es r.0 (at es r.0)
    (answers-read (wants_of (view_after es)) interrupted (λ x. x) r.1))
at (failed ∷ es) r rest last m = at-failed es r.0 (at es r.0) (answers-read (wants_of (view_after es)) failed (λ x. x) r.1) rest last m
at (written ∷ es) r rest last m =
    at-written es r.0 (at es r.0) rest last m (write-not-stop (wants_of (view_after es)) (answers-write (wants_of (view_after es)) written (λ x. x) r.1))
at (unwritten ∷ es) r rest last m =
    at-unwritten es r.0 (at es r.0) rest last m (write-not-stop (wants_of (view_after es))
    (answers-write (wants_of (view_after es)) unwritten (λ x. x) r.1))

pub trace-prints : TracePrints
trace-prints es t rest last m =
    record {
      before = first (at es t rest last m);
      whole = λ stop taken. all taken stop (at es t rest last m);
      reading = λ want.
          let k = read_kept es t (at es t) want rest last in
          (k.2, (is es t (at es t) want).lacks);
    }
  where
    first : At es rest last → (out : List ℕ) × (printed_to last (brought es ++ rest) ≡ handed es ++ out)
    first (going a k) = ((view_after es).gathered ++ to_come rest last (view_after es).phase (view_after es).session (view_after es).waiting, k.1)
    first (refused a s out e) = (out, e)

    all : all_taken es ≡ true → wants_of (view_after es) ≡ Stop → At es rest last → handed es ≡ printed_to last (brought es ++ rest)
    all taken stop (going a k) =
        let d = stops-written (view_after es) stop in
        done-kept (printed_to last (brought es ++ rest)) (handed es) rest last (view_after es).phase (view_after es).session (view_after es).waiting
        (view_after es).gathered d.0 d.1 k
    all taken stop (refused a s out e) = absurd (true≢false (sym taken ∙ a))
