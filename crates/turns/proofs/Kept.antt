-- What holds of a view however far the core goes: what it still has to print, behind what was handed over. Assumes nothing.
use mathlib.Core.Path.{◌≡◌, refl, sym, ap, ◌∙◌}
use mathlib.Core.Logic.{◌≢◌}
use mathlib.Core.Bool.{Bool, true, false, false≢true}
use mathlib.Core.List.{List, [], ◌∷◌, ◌++◌, append_assoc, append-nil}
use Prim.Native.Nat.{ℕ, ◌≤◌, ◌<◌}
use native.Mathlib.Omega.{arith}
use lib.Dec.{leb}
use lib.ListN.{length, take, drop, length-append}
use lib.Seq.{take-nil}
use Rattle.combinatorics.proofs.Cases.{by_le, eqb-other}
use Rattle.combinatorics.proofs.Lists.{both}
use Rattle.records.specs.Session.{Session, max_records}
use Rattle.lines.specs.Lines.{stop_line, end_line}
use Rattle.records.specs.Records.{is_empty}
use Rattle.transfer.specs.Steps.{Step, stopped, step_out}
use Rattle.records.specs.Records.{needed_for}
use Rattle.transfer.specs.Program.{next_record, behind}
use Rattle.records.proofs.Readable.{needed-least}
use Rattle.transfer.proofs.Program.{step_counts, step_of, printed_on, printed-last, printed-stops, printed-goes}
use Rattle.turns.specs.declared.Phase.{Phase}
use Rattle.turns.specs.declared.Phase.TheVariants.{Open, Ended, Failed, Done}
use Rattle.turns.specs.View.{View, needs, ready_at, room_at, step_at, phase_after, advance_out}
use Rattle.turns.proofs.Cut.{step-is-next, behind-is}
use Rattle.turns.proofs.Pieces.{same_step, same-behind, cut-stops}
use Rattle.turns.proofs.Serving.{advance-keeps}

-- ---- What holds of a view: `whole` is to be printed, `done` was handed over

-- what the view still has to print
abbrev pub to_come : List ℕ → List ℕ → Phase → Session → List ℕ → List ℕ
to_come rest last Open s w = printed_on last s (w ++ rest)
to_come rest last Ended s w = printed_on last s (w ++ rest)
to_come rest last Failed s w = printed_on last s (w ++ rest)
to_come rest last Done s w = []

abbrev Side : List ℕ → List ℕ → Phase → Session → List ℕ → Type 0
Side rest last Open s w = s.count ≤ max_records
Side rest last Ended s w = (s.count ≤ max_records) × (rest ≡ []) × (last ≡ end_line)
Side rest last Failed s w = (s.count ≤ max_records) × (rest ≡ []) × (last ≡ stop_line) × (length w < needed_for s w)
Side rest last Done s w = Unit

module _ (whole done rest last : List ℕ) where
  abbrev pub KeptAt : Phase → Session → List ℕ → List ℕ → Type 0
  KeptAt p s w g = Side rest last p s w × (whole ≡ done ++ (g ++ to_come rest last p s w))

  abbrev pub Kept : View → Type 0
  Kept v = KeptAt v.phase v.session v.waiting v.gathered

  -- the line of a step is put behind what was gathered
  longer : (g l t : List ℕ) → whole ≡ done ++ (g ++ (l ++ t)) → whole ≡ done ++ ((g ++ l) ++ t)
  longer g l t e = e ∙ ap (λ (x : List ℕ). done ++ x) (sym (append_assoc g l t))

  -- a step that prints what the definition does next, and leaves what it leaves
  module _ (s : Session) (w g : List ℕ) (o : Step) (h : s.count ≤ max_records) (some : is_empty (w ++ rest) ≡ false) (is : step_of s (w ++ rest) ≡ o) where
    stop-kept : o.stops ≡ true → whole ≡ done ++ (g ++ printed_on last s (w ++ rest)) → whole ≡ done ++ ((g ++ o.line) ++ [])
    stop-kept stop e =
        let p : printed_on last s (w ++ rest) ≡ o.line = printed-stops last s (w ++ rest) some h (ap (λ (x : Step). x.stops) is ∙ stop)
        ∙ ap (λ (x : Step). x.line) is in
        e ∙ ap (λ (x : List ℕ). done ++ (g ++ x)) p ∙ ap (λ (x : List ℕ). done ++ x) (sym (append-nil (g ++ o.line)))

    goes_kept : (left : List ℕ) → o.stops ≡ false → behind s (w ++ rest) ≡ left ++ rest → whole ≡ done ++ (g ++ printed_on last s (w ++ rest))
        → (o.next.count ≤ max_records) × (whole ≡ done ++ ((g ++ o.line) ++ printed_on last o.next (left ++ rest)))
    goes_kept left goes b e =
        let goes' : (step_of s (w ++ rest)).stops ≡ false = ap (λ (x : Step). x.stops) is ∙ goes in
        let p : printed_on last s (w ++ rest) ≡ o.line ++ printed_on last o.next (left ++ rest) =
        printed-goes last s (w ++ rest) some h goes' ∙ ap (λ (x : Step). x.line ++ printed_on last x.next (behind s (w ++ rest))) is
        ∙ ap (λ (x : List ℕ). o.line ++ printed_on last o.next x) b in
        let counted = step_counts s (next_record s (w ++ rest)) goes' in
        let n : o.next.count ≡ (step_of s (w ++ rest)).next.count = ap (λ (x : Step). x.next.count) (sym is) in
        (omega (arith, counted.0, counted.1, n), longer g o.line (printed_on last o.next (left ++ rest)) (e ∙ ap (λ (x : List ℕ). done ++ (g ++ x)) p))

  not-empty : (w : List ℕ) → length w ≢ 0 → is_empty (w ++ rest) ≡ false
  not-empty w n = eqb-other (length (w ++ rest)) 0 (λ e. n (omega (arith, length-append w rest, e)))

  -- the next record is there as a whole
  open-keeps : (s : Session) (w g : List ℕ) → needed_for s w ≤ length w → KeptAt Open s w g
      → KeptAt (phase_after Open (step_out s (take (needed_for s w) w)).stops) (step_out s (take (needed_for s w) w)).next (drop (needed_for s w) w)
      (g ++ (step_out s (take (needed_for s w) w)).line)
  open-keeps s w g l k = go (step_out s (take (needed_for s w) w)).stops refl
    where
      is : step_of s (w ++ rest) ≡ step_out s (take (needed_for s w) w)
      is = same_step s w rest l ∙ sym (step-is-next s w)

      some : is_empty (w ++ rest) ≡ false
      some = not-empty w (λ e. omega (arith, needed-least s w, e))

      go : (b : Bool) → (step_out s (take (needed_for s w) w)).stops ≡ b
          → KeptAt (phase_after Open b) (step_out s (take (needed_for s w) w)).next (drop (needed_for s w) w) (g ++ (step_out s (take (needed_for s w) w)).line)
      go true e = (tt, stop-kept s w g (step_out s (take (needed_for s w) w)) k.0 some is e k.1)
      go false e =
          let f : (step_out s (next_record s w)).stops ≡ false = ap (λ (x : Step). x.stops) (sym (step-is-next s w)) ∙ e in
          goes_kept s w g (step_out s (take (needed_for s w) w)) k.0 some is (drop (needed_for s w) w) e
          (same-behind s w rest l f ∙ ap (λ (x : List ℕ). x ++ rest) (sym (behind-is s w f))) k.1

  -- the end of input
  ended-none : (s : Session) (g : List ℕ) (n : ℕ) → KeptAt Ended s [] g
      → KeptAt (phase_after Ended (step_out s (take n [])).stops) (step_out s (take n [])).next (drop n []) (g ++ (step_out s (take n [])).line)
  unfolding step_out
  ended-none s g n k =
      rw (take-nil n) (
        tt,
        k.1 ∙ ap (λ (x : List ℕ). done ++ (g ++ printed_on last s x)) k.0.1 ∙ ap (λ (x : List ℕ). done ++ (g ++ x)) (printed-last last s ∙ k.0.2)
            ∙ ap (λ (x : List ℕ). done ++ x) (sym (append-nil (g ++ end_line))),
      )

  -- no more will come
  ended-keeps : (s : Session) (w g : List ℕ) → KeptAt Ended s w g
      → KeptAt (phase_after Ended (step_out s (take (needed_for s w) w)).stops) (step_out s (take (needed_for s w) w)).next (drop (needed_for s w) w)
      (g ++ (step_out s (take (needed_for s w) w)).line)
  ended-keeps s [] g k = ended-none s g (needed_for s []) k
  ended-keeps s (x ∷ xs) g k = go (step_out s (take (needed_for s (x ∷ xs)) (x ∷ xs))).stops refl
    where
      all : (x ∷ xs) ++ rest ≡ x ∷ xs
      all = ap (λ (t : List ℕ). (x ∷ xs) ++ t) k.0.1 ∙ append-nil (x ∷ xs)

      is : step_of s ((x ∷ xs) ++ rest) ≡ step_out s (take (needed_for s (x ∷ xs)) (x ∷ xs))
      is = ap (λ (t : List ℕ). step_out s (next_record s t)) all ∙ sym (step-is-next s (x ∷ xs))

      some : is_empty ((x ∷ xs) ++ rest) ≡ false
      some = not-empty (x ∷ xs) (λ e. omega arith)

      go : (b : Bool) → (step_out s (take (needed_for s (x ∷ xs)) (x ∷ xs))).stops ≡ b
          → KeptAt (phase_after Ended b) (step_out s (take (needed_for s (x ∷ xs)) (x ∷ xs))).next (drop (needed_for s (x ∷ xs)) (x ∷ xs))
          (g ++ (step_out s (take (needed_for s (x ∷ xs)) (x ∷ xs))).line)
      go true e = (tt, stop-kept s (x ∷ xs) g (step_out s (take (needed_for s (x ∷ xs)) (x ∷ xs))) k.0.0 some is e k.1)
      go false e =
          let f : (step_out s (next_record s (x ∷ xs))).stops ≡ false = ap (λ (t : Step). t.stops) (sym (step-is-next s (x ∷ xs))) ∙ e in
          let b : behind s ((x ∷ xs) ++ rest) ≡ drop (needed_for s (x ∷ xs)) (x ∷ xs) ++ rest =
          ap (λ (t : List ℕ). behind s t) all ∙ sym (behind-is s (x ∷ xs) f) ∙ sym (append-nil (drop (needed_for s (x ∷ xs)) (x ∷ xs)))
          ∙ ap (λ (t : List ℕ). drop (needed_for s (x ∷ xs)) (x ∷ xs) ++ t) (sym k.0.1) in
          let r = goes_kept s (x ∷ xs) g (step_out s (take (needed_for s (x ∷ xs)) (x ∷ xs))) k.0.0 some is (drop (needed_for s (x ∷ xs)) (x ∷ xs)) e b
          k.1 in
          ((r.0, k.0.1, k.0.2), r.1)

  -- a read failed: what is there of the next record is cut
  failed-prints : (s : Session) (w : List ℕ) → Side rest last Failed s w → printed_on last s (w ++ rest) ≡ stop_line
  failed-prints s [] k = ap (λ (t : List ℕ). printed_on last s t) k.1 ∙ printed-last last s ∙ k.2
  failed-prints s (x ∷ xs) k =
      let all : (x ∷ xs) ++ rest ≡ x ∷ xs = ap (λ (t : List ℕ). (x ∷ xs) ++ t) k.1 ∙ append-nil (x ∷ xs) in
      let is : step_of s ((x ∷ xs) ++ rest) ≡ stopped s = ap (λ (t : List ℕ). step_out s (next_record s t)) all ∙ cut-stops s (x ∷ xs) (λ e. omega arith) k.3 in
      printed-stops last s ((x ∷ xs) ++ rest) (not-empty (x ∷ xs) (λ e. omega arith)) k.0 (ap (λ (t : Step). t.stops) is) ∙ ap (λ (t : Step). t.line) is

  failed-keeps : (s : Session) (w g : List ℕ) → KeptAt Failed s w g → whole ≡ done ++ ((g ++ stop_line) ++ [])
  failed-keeps s w g k = k.1 ∙ ap (λ (t : List ℕ). done ++ (g ++ t)) (failed-prints s w k.0)
      ∙ ap (λ (t : List ℕ). done ++ t) (sym (append-nil (g ++ stop_line)))

  at_least : (a b : ℕ) → leb a b ≡ true → a ≤ b
  at_least a b = by_le a b (λ t. t ≡ true → a ≤ b) (λ h _. h) (λ _ e. absurd (false≢true e))

  serve-keeps : (p : Phase) (s : Session) (w g : List ℕ) → ready_at p (needed_for s w) (length w) ≡ true → KeptAt p s w g
      → KeptAt (phase_after p (step_at p s (take (needed_for s w) w)).stops) (step_at p s (take (needed_for s w) w)).next (drop (needed_for s w) w)
      (g ++ (step_at p s (take (needed_for s w) w)).line)
  serve-keeps Open s w g h k = open-keeps s w g (at_least (needed_for s w) (length w) h) k
  serve-keeps Ended s w g h k = ended-keeps s w g k
  serve-keeps Failed s w g h k = (tt, failed-keeps s w g k)
  serve-keeps Done s w g h k = absurd (false≢true h)

  pub keeps : (v : View) → Kept v → Kept (advance_out v)
  keeps v k =
      advance-keeps Kept
      (λ x e. serve-keeps x.phase x.session x.waiting x.gathered
      (both (room_at (length x.gathered)) (ready_at x.phase (needs x) (length x.waiting)) e).1) v k
