-- What is cut off the waiting bytes is the next record, and what is left is what stands behind it. Assumes nothing.
use mathlib.Core.Path.{◌≡◌, refl, sym, ap, ◌∙◌}
use mathlib.Core.Logic.{◌≢◌}
use mathlib.Core.Bool.{Bool, true, false, true≢false}
use mathlib.Core.List.{List, [], ◌∷◌}
use Prim.Native.Nat.{ℕ, zero, suc, ◌-◌, ◌≤◌, ◌<◌, min}
use native.Mathlib.Nat.{min-eq_left, min-eq_right}
use native.Mathlib.Omega.{arith}
use lib.Dec.{ltb}
use lib.ListN.{length, take, drop, length-take, drop_of_length-le}
use lib.Seq.{take_all, take-nil, take-length, drop-length, get_or-take}
use Rattle.refusals.specs.Refusals.{must}
use Rattle.combinatorics.proofs.Cases.{by_bool, by_le, eqb-other}
use Rattle.records.specs.Session.{Session, max_records}
use Rattle.records.specs.Records.{record_head_len, letter_of, is_marked, record_len, readable}
use Rattle.transfer.specs.Steps.{Step, stopped, step_out}
use Rattle.records.specs.Records.{reach, needed_for}
use Rattle.transfer.specs.Program.{next_record, behind}
use Rattle.records.proofs.Readable.{reaches, begun-unmarked, begun-marked, needed-least}

-- ---- How many bytes a record takes

module _ (s : Session) (w : List ℕ) where
  pub needed-unmarked : is_marked w ≡ false → needed_for s w ≡ record_head_len
  needed-unmarked e = ap reach (begun-unmarked s w e)

  pub needed-marked : record_head_len ≤ length w → is_marked w ≡ true → needed_for s w ≡ reach (record_len s (letter_of w))
  needed-marked h e = ap reach (begun-marked s w h e)

-- ---- A part of a list

pub drop-take : (n m : ℕ) (l : List ℕ) → n ≤ m → drop n (take m l) ≡ take (m - n) (drop n l)
drop-take zero m l h =
    let e : m ≡ m - 0 = omega arith in
    ap (λ (k : ℕ). take k l) e
drop-take (suc n) zero l h = absurd (omega arith)
drop-take (suc n) (suc m) [] h = sym (take-nil (suc m - suc n))
drop-take (suc n) (suc m) (x ∷ xs) h =
    let e : suc m - suc n ≡ m - n = omega arith in
    rw e (drop-take n m xs (omega arith))

pub take-least : (n : ℕ) (w : List ℕ) → take (min n (length w)) w ≡ take n w
take-least n w =
    by_le n (length w) (λ b. take (min n (length w)) w ≡ take n w) (λ h. rw (min-eq_left h))
    (λ h. let l : length w ≤ n = omega arith in rw (min-eq_right l) (take-length w ∙ sym (take_all n w l)))

pub drop-least : (n : ℕ) (w : List ℕ) → drop (min n (length w)) w ≡ drop n w
drop-least n w =
    by_le n (length w) (λ b. drop (min n (length w)) w ≡ drop n w) (λ h. rw (min-eq_left h))
    (λ h. let l : length w ≤ n = omega arith in rw (min-eq_right l) (drop-length w ∙ sym (drop_of_length-le w l)))

-- ---- The step of the next record

module _ (s : Session) (w : List ℕ) where
  short-or-not : {P : Type 0} → (length w < record_head_len → P) → (record_head_len ≤ length w → P) → P
  short-or-not {P} short long = by_le record_head_len (length w) (λ b. P) long short

  -- bytes without the mark stop the program, however many of them are handed over
  pub unmarked : (k : ℕ) → record_head_len ≤ k → record_head_len ≤ length w → is_marked w ≡ false → step_out s (take k w) ≡ stopped s
  unfolding step_out readable
  unmarked k g h e =
      let n : length (take k w) ≢ 0 = λ z. omega (arith, length-take k w, z) in
      let m : is_marked (take k w) ≡ false = rw (get_or-take k w 0 0 (omega arith), get_or-take k w 1 0 (omega arith)) e in
      rw (eqb-other (length (take k w)) 0 n, m) (go (ltb s.count max_records))
    where
      go : (b : Bool) → must b (stopped s) (stopped s) ≡ stopped s
      go true = refl
      go false = refl

  pub step-is-next : step_out s (take (needed_for s w) w) ≡ step_out s (next_record s w)
  step-is-next =
      short-or-not
      (λ h. rw (
        take_all (needed_for s w) w (omega (arith, needed-least s w)),
        take_all (reach (record_len s (letter_of w))) w
            (omega (arith, reaches s (letter_of w))),
      ))
      (λ h. by_bool (is_marked w)
      (λ e. rw (needed-marked s w h e))
      (λ e. unmarked (needed_for s w) (omega (arith, needed-unmarked s w e)) h e
      ∙ sym (unmarked (reach (record_len s (letter_of w))) (reaches s (letter_of w)) h e)))

  pub behind-is : (step_out s (next_record s w)).stops ≡ false → drop (needed_for s w) w ≡ behind s w
  behind-is goes =
      short-or-not
      (λ h.
      let n : length w ≤ needed_for s w = omega (arith, needed-least s w) in
      let r : length w ≤ reach (record_len s (letter_of w)) = omega (arith, reaches s (letter_of w)) in
      drop_of_length-le w n ∙ sym (drop_of_length-le w r))
      (λ h. by_bool (is_marked w)
      (λ e. rw (needed-marked s w h e))
      (λ e. absurd (true≢false (sym (ap (λ (o : Step). o.stops) (unmarked (reach (record_len s (letter_of w))) (reaches s (letter_of w)) h e)) ∙ goes))))
