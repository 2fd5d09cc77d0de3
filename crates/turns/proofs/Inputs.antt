-- Every input has a trace that stops, however it is cut into reads. Assumes nothing.
use mathlib.Core.Path.{◌≡◌, refl, sym, ap, subst, ◌∙◌}
use mathlib.Core.Logic.{◌⊎◌, inl, inr, ⊎_elim}
use mathlib.Core.Bool.{true}
use mathlib.Core.List.{List, [], ◌∷◌, ◌++◌, append_assoc, append-nil}
use Prim.Native.Nat.{ℕ, zero, suc, ◌+◌, ◌*◌, ◌<◌}
use native.Mathlib.Omega.{arith}
use lib.ListN.{length}
use Rattle.lines.specs.Lines.{stop_line, end_line}
use Rattle.transfer.specs.Program.{printed, printed_unread}
use Rattle.turns.specs.declared.Phase.TheVariants.{Open, Ended, Failed}
use Rattle.turns.specs.declared.Wants.{Wants}
use Rattle.turns.specs.declared.Wants.TheVariants.{Read, Write, Stop}
use Rattle.turns.specs.View.{View, wants_of, served_out, advance_out}
use Rattle.turns.specs.Trace.{Event, came, ended, failed, written, Answers, after_event, view_after, IsTrace, brought, all_taken, MayCome, printed_to}
use Rattle.turns.specs.Trace.{Close, at_end, broken, closing, printed_by, joined, TraceOver, begins, reading, closed, writing, AllSome, WholeTrace}
use Rattle.turns.specs.Trace.{InputPrints}
use Rattle.turns.proofs.Serving.{advance-keeps, turns_at, serves-less, reads}
use Rattle.turns.proofs.Printing.{after-rests, phase-later, open-before, trace-prints}
use Rattle.turns.proofs.Ending.{unwritten_yet, at_most, write-some}

-- ---- After so many writes a read is wanted, or the stop

abbrev turns : View → ℕ
turns v = turns_at v.phase (length v.waiting)

abbrev writes : View → ℕ
writes v = 2 * turns v + unwritten_yet v.gathered

advanced : (u : View) → (advance_out u ≡ u) ⊎ (turns (advance_out u) < turns u)
advanced u =
    advance-keeps (λ (x : View). (x ≡ u) ⊎ (turns x < turns u))
    (λ x e h. let l = serves-less x e in inr (⊎_elim (λ s. subst (λ (y : View). turns (served_out x) < turns y) s l) (λ g. omega arith) h)) u (inl refl)

writes-less : (v : View) → wants_of v ≡ Write → writes (advance_out (after_event v written)) < writes v
writes-less v want =
    let g = write-some v.phase v.gathered want in
    ⊎_elim (λ e. subst (λ (y : View). writes y < writes v) (sym e) (omega arith))
    (λ l. omega (arith, at_most (advance_out (after_event v written)).gathered)) (advanced (after_event v written))

-- by what is wanted
by-wants : {P : Type 0} (w : Wants) → (w ≡ Read → P) → (w ≡ Write → P) → (w ≡ Stop → P) → P
by-wants Read r w s = r refl
by-wants Write r w s = w refl
by-wants Stop r w s = s refl

answers_at : (w o : Wants) (e : Event) → w ≡ o → Answers o e → Answers w e
answers_at w o e f a = subst (λ (x : Wants). Answers x e) (sym f) a

-- ---- Traces

-- what an input without any more bytes prints
abbrev last_line : Close → List ℕ
last_line at_end = end_line
last_line broken = stop_line

close-printed : (close : Close) (input : List ℕ) → printed_to (last_line close) input ≡ printed_by close input
unfolding printed printed_unread
close-printed at_end input = refl
close-printed broken input = refl

module _ (close : Close) (all : List (List ℕ)) (out : List ℕ) where
  -- behind the last read
  closing-trace : (n : ℕ) (es : List Event) → IsTrace es → TraceOver close all [] es → MayCome es [] (last_line close) → all_taken es ≡ true
      → ((view_after es).phase ≡ Open → ⊥)
      → printed_to (last_line close) (brought es ++ []) ≡ out → writes (view_after es) < n → WholeTrace close all out
  closing-trace zero es ran p m t shut is l = absurd (omega arith)
  closing-trace (suc n) es ran p m t shut is l =
      by-wants (wants_of (view_after es)) (λ w. absurd (shut (reads (view_after es) (after-rests es) w).open-still))
      (λ w. closing-trace n (written ∷ es) (ran, answers_at (wants_of (view_after es)) Write written w tt) (writing p) m t
      (λ o. shut (open-before (view_after es).phase (view_after (written ∷ es)).phase (phase-later (after_event (view_after es) written)) o))
      (ap (λ (x : List ℕ). printed_to (last_line close) (x ++ [])) (append-nil (brought es)) ∙ is)
      (omega (arith, writes-less (view_after es) w)))
      (λ w. record { events = es; left = []; trace = ran; over = p; stops = w; hands = (trace-prints es ran [] (last_line close) m).whole w t ∙ is })

  -- what is asked of a trace with these reads still to come
  abbrev Traces : List (List ℕ) → Type 0
  Traces rs = (es : List Event) → IsTrace es → TraceOver close all rs es → ((rest last : List ℕ) → MayCome es rest last) → all_taken es ≡ true
      → printed_to (last_line close) (brought es ++ joined rs) ≡ out → WholeTrace close all out

  reading-trace : (rs : List (List ℕ)) → ((es : List Event) → IsTrace es → TraceOver close all rs es → ((rest last : List ℕ) → MayCome es rest last)
      → all_taken es ≡ true
      → printed_to (last_line close) (brought es ++ joined rs) ≡ out → wants_of (view_after es) ≡ Read → WholeTrace close all out) → (n : ℕ) (es : List Event)
      → IsTrace es → TraceOver close all rs es
      → ((rest last : List ℕ) → MayCome es rest last) → all_taken es ≡ true → printed_to (last_line close) (brought es ++ joined rs) ≡ out
      → writes (view_after es) < n → WholeTrace close all out
  reading-trace rs next zero es ran p any t is l = absurd (omega arith)
  reading-trace rs next (suc n) es ran p any t is l =
      by-wants (wants_of (view_after es)) (λ w. next es ran p any t is w)
      (λ w. reading-trace rs next n (written ∷ es) (ran, answers_at (wants_of (view_after es)) Write written w tt) (writing p) any t
      (ap (λ (x : List ℕ). printed_to (last_line close) (x ++ joined rs)) (append-nil (brought es)) ∙ is) (omega (arith, writes-less (view_after es) w)))
      (λ w. record {
        events = es;
        left = rs;
        trace = ran;
        over = p;
        stops = w;
        hands =
            (trace-prints es ran (joined rs) (last_line close) (any (joined rs) (last_line close))).whole w t ∙ is;
      })

may-close : (close : Close) (es : List Event) → MayCome (closing close ∷ es) [] (last_line close)
may-close at_end es = (refl, refl)
may-close broken es = (refl, refl)

close-read : (close : Close) → Answers Read (closing close)
close-read at_end = tt
close-read broken = tt

close-brought : (close : Close) (es : List Event) → brought (closing close ∷ es) ≡ brought es
close-brought at_end es = append-nil (brought es)
close-brought broken es = append-nil (brought es)

close-taken : (close : Close) (es : List Event) → all_taken (closing close ∷ es) ≡ all_taken es
close-taken at_end es = refl
close-taken broken es = refl

close-shut : (close : Close) (es : List Event) → (view_after (closing close ∷ es)).phase ≡ Open → ⊥
close-shut at_end es o =
    let f : Ended ≡ Open = open-before Ended (view_after (ended ∷ es)).phase (phase-later (after_event (view_after es) ended)) o in
    let z : ◌≡◌ {A = ℕ} 0 1 = cc in omega arith
close-shut broken es o =
    let f : Failed ≡ Open = open-before Failed (view_after (failed ∷ es)).phase (phase-later (after_event (view_after es) failed)) o in
    let z : ◌≡◌ {A = ℕ} 0 1 = cc in omega arith

traces : (close : Close) (all : List (List ℕ)) (out : List ℕ) (rs : List (List ℕ)) → AllSome rs → Traces close all out rs
traces close all out [] some es ran p any t is =
    reading-trace close all out []
    (λ fs ran' p' any' t' is' w.
    closing-trace close all out (suc (writes (view_after (closing close ∷ fs)))) (closing close ∷ fs)
    (ran', answers_at (wants_of (view_after fs)) Read (closing close) w (close-read close)) (closed p')
    (may-close close fs) (close-taken close fs ∙ t') (close-shut close fs)
    (ap (λ (x : List ℕ). printed_to (last_line close) (x ++ [])) (close-brought close fs) ∙ is') (omega arith))
    (suc (writes (view_after es))) es ran p any t is (omega arith)
traces close all out (r ∷ rs) some es ran p any t is =
    reading-trace close all out (r ∷ rs)
    (λ fs ran' p' any' t' is' w.
    traces close all out rs some.1 (came r ∷ fs) (ran', answers_at (wants_of (view_after fs)) Read (came r) w some.0) (reading r p') any' t'
    (ap (λ (x : List ℕ). printed_to (last_line close) x) (append_assoc (brought fs) r (joined rs)) ∙ is'))
    (suc (writes (view_after es))) es ran p any t is (omega arith)

pub input-prints : InputPrints
input-prints rs some close = traces close rs (printed_by close (joined rs)) rs some [] tt begins (λ rest last. tt) refl (close-printed close (joined rs))
