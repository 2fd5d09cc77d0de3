-- Laws of taking a message out of a word, cells of one kind at a time. Assumes nothing.
use mathlib.Core.Path.{◌≡◌, refl, sym, ap, ◌∙◌}
use mathlib.Core.Bool.{true, false}
use mathlib.Core.List.{List, ◌++◌, append-nil}
use Prim.Native.Nat.{ℕ, ◌+◌, ◌-◌, ◌≤◌, ◌<◌}
use native.Mathlib.Omega.{arith}
use lib.ListN.{length, take, drop, replicate, length-drop}
use lib.Seq.{take_all}
use Rattle.combinatorics.specs.Stretch.{tabulate}
use Rattle.combinatorics.proofs.Members.{length-tabulate}
use Rattle.cells.specs.Cells.{Cell, message, is, pick}
use Rattle.cells.proofs.Walk.{tally, tally-append, tally-same, tally-other, plan-stretch, pick-append, pick_same, pick_other}
use Rattle.stretches.specs.Take.{Taken}
use Rattle.stretches.proofs.Filling.{message-most}

module _ (n : ℕ) (kd : ℕ → Cell) (w : List ℕ) where
  pub taken_start : (out : List ℕ) → tally message (tabulate n 0 kd) ≡ length out → Taken n kd w 0 out 0
  unfolding tabulate pick tally
  taken_start out e = record { made = refl; count = refl; size = e }

  module _ (x to taken : ℕ) (out : List ℕ) (s : Taken n kd w x out taken) (l : x ≤ to) (h : to ≤ n) (kind : Cell)
      (same : (y : ℕ) → x ≤ y → y < to → kd y ≡ kind) where
    longer : tabulate to 0 kd ≡ tabulate x 0 kd ++ replicate (to - x) kind
    longer = plan-stretch x to kd kind l same

    counted : tally message (tabulate to 0 kd) ≡ tally message (tabulate x 0 kd) + tally message (replicate (to - x) kind)
    counted = ap (tally message) longer ∙ tally-append message (tabulate x 0 kd) (replicate (to - x) kind)

    picked : pick message (tabulate to 0 kd) w ≡ pick message (tabulate x 0 kd) w ++ pick message (replicate (to - x) kind) (drop x w)
    picked =
        ap (λ (cs : List Cell). pick message cs w) longer ∙ pick-append message (tabulate x 0 kd) (replicate (to - x) kind) w
        ∙ ap (λ (z : ℕ). pick message (tabulate x 0 kd) w ++ pick message (replicate (to - x) kind) (drop z w)) (length-tabulate x 0 kd)

    -- a stretch of other cells gives nothing
    pub taken-other : is message kind ≡ false → Taken n kd w to out taken
    taken-other o =
        record {
          made =
              s.made
              ∙ sym (picked ∙ ap (λ (r : List ℕ). pick message (tabulate x 0 kd) w ++ r) (pick_other message kind (to - x) (drop x w) o)
              ∙ append-nil (pick message (tabulate x 0 kd) w));
          count = omega (arith, s.count, counted, tally-other message kind (to - x) o);
          size = s.size;
        }

    -- one of message cells is copied; what lies behind it may be anything
    pub taken-turn : is message kind ≡ true → length w ≡ n → (out' : List ℕ) → length out' ≡ length out
        → take (taken + (to - x)) out' ≡ take taken out ++ take (to - x) (drop x w)
        → Taken n kd w to out' (taken + (to - x))
    taken-turn c whole out' d put =
        record {
          made =
              put ∙ ap (λ (r : List ℕ). r ++ take (to - x) (drop x w)) s.made
              ∙ sym (picked ∙ ap (λ (r : List ℕ). pick message (tabulate x 0 kd) w ++ r)
              (pick_same message kind (to - x) (drop x w) c (omega (arith, whole, length-drop x w))));
          count = omega (arith, s.count, counted, tally-same message kind (to - x) c);
          size = s.size ∙ sym d;
        }

  -- there is room for one stretch more
  pub taken-room : (x to taken : ℕ) (out : List ℕ) → Taken n kd w x out taken → x ≤ to → to ≤ n → ((y : ℕ) → x ≤ y → y < to → kd y ≡ message)
      → taken + (to - x) ≤ length out
  taken-room x to taken out s l h same = omega (arith, s.count, s.size, message-most n kd x to l h same)

  pub taken-done : (taken : ℕ) (out : List ℕ) → Taken n kd w n out taken → out ≡ pick message (tabulate n 0 kd) w
  taken-done taken out s = sym (take_all taken out (omega (arith, s.size, s.count))) ∙ s.made
