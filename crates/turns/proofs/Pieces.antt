-- What is still to come does not change the step of a record that is there as a whole, and a record that is not is cut. Assumes nothing.
use mathlib.Core.Path.{◌≡◌, refl, sym, ap, ◌∙◌}
use mathlib.Core.Logic.{◌≢◌}
use mathlib.Core.Bool.{Bool, true, false, true≢false}
use mathlib.Core.List.{List, ◌++◌}
use mathlib.Core.Option.{Option, none, some}
use Prim.Native.Nat.{ℕ, ◌≤◌, ◌<◌}
use native.Mathlib.Omega.{arith}
use lib.Dec.{ltb}
use lib.ListN.{length, get_or, length-append, get_or-append}
use lib.Seq.{take_all, take-append-le, drop-append-le}
use Rattle.refusals.specs.Refusals.{must}
use Rattle.combinatorics.proofs.Cases.{by_bool, eqb-other}
use Rattle.records.specs.Session.{Session, max_records}
use Rattle.records.specs.Records.{record_head_len, letter_of, is_marked, record_len, is_whole, readable}
use Rattle.transfer.specs.Steps.{Step, stopped, step_out}
use Rattle.records.specs.Records.{reach, begun_len, needed_for}
use Rattle.transfer.specs.Program.{next_record, behind}
use Rattle.records.proofs.Readable.{reaches, needed-least, needed-within, begun-readable}
use Rattle.turns.proofs.Cut.{needed-marked, unmarked}

-- ---- What is still to come changes nothing

module _ (s : Session) (w rest : List ℕ) (h : needed_for s w ≤ length w) where
  long : record_head_len ≤ length w
  long = omega (arith, needed-least s w)

  same_at : (i : ℕ) → i < record_head_len → get_or (w ++ rest) i 0 ≡ get_or w i 0
  same_at i l = get_or-append w rest 0 i (omega (arith, long))

  same-mark : is_marked (w ++ rest) ≡ is_marked w
  same-mark = rw (same_at 0 (omega arith), same_at 1 (omega arith))

  same-letter : letter_of (w ++ rest) ≡ letter_of w
  same-letter = same_at 2 (omega arith)

  within : is_marked w ≡ true → reach (record_len s (letter_of w)) ≤ length w
  within e = omega (arith, needed-marked s w long e)

  pub same_step : step_out s (next_record s (w ++ rest)) ≡ step_out s (next_record s w)
  same_step =
      by_bool (is_marked w)
      (λ e. rw (same-letter, take-append-le (reach (record_len s (letter_of w))) w rest (within e)))
      (λ e.
      unmarked s (w ++ rest) (reach (record_len s (letter_of (w ++ rest)))) (reaches s (letter_of (w ++ rest))) (omega (arith, long, length-append w rest))
      (same-mark ∙ e)
      ∙ sym (unmarked s w (reach (record_len s (letter_of w))) (reaches s (letter_of w)) long e))

  pub same-behind : (step_out s (next_record s w)).stops ≡ false → behind s (w ++ rest) ≡ behind s w ++ rest
  same-behind goes =
      by_bool (is_marked w)
      (λ e. rw (same-letter, drop-append-le (reach (record_len s (letter_of w))) w rest (within e)))
      (λ e. absurd (true≢false (sym (ap (λ (o : Step). o.stops) (unmarked s w (reach (record_len s (letter_of w))) (reaches s (letter_of w)) long e)) ∙ goes)))

-- ---- A record that is not there as a whole is cut

unreadable-stops : (s : Session) (bytes : List ℕ) → length bytes ≢ 0 → readable s bytes ≡ false → step_out s bytes ≡ stopped s
unfolding step_out
unreadable-stops s bytes n e = rw (eqb-other (length bytes) 0 n, e) (go (ltb s.count max_records))
  where
    go : (b : Bool) → must b (stopped s) (stopped s) ≡ stopped s
    go true = refl
    go false = refl

short-whole : (w : List ℕ) (k : Option ℕ) → length w < reach k → is_whole w k ≡ false
short-whole w none h = refl
short-whole w (some k) h = eqb-other (length w) k (λ e. omega arith)

pub cut-stops : (s : Session) (w : List ℕ) → length w ≢ 0 → length w < needed_for s w → step_out s (next_record s w) ≡ stopped s
cut-stops s w n h =
    rw (take_all (reach (record_len s (letter_of w))) w (omega (arith, needed-within s w)))
    (unreadable-stops s w n (begun-readable s w ∙ short-whole w (begun_len s w) h))
