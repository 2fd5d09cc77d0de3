use mathlib.Core.Path.{◌≡◌, refl, sym, ap, subst, ◌∙◌}
use mathlib.Core.List.{List, [], ◌∷◌, ◌++◌, append-nil}
use Prim.Native.Nat.{ℕ, zero, suc, ◌+◌, ◌-◌, ◌/◌, ◌%◌, ◌≤◌, ◌<◌}
use native.Mathlib.Nat.{le_of_suc-le-suc, not-suc-le-zero}
use native.Mathlib.Numerals.{sub-one}
use native.Mathlib.Omega.{arith}
use lib.ListN.{length, take, drop, set, length-set}
use lib.Seq.{slice_empty, length-take-le, take-set-lt, append_snoc}
use Rattle.text.specs.Digits.{last_digits}
use Rattle.text.proofs.number.put_last_digits.Goals as goal

-- behind a digit that is put, what stood there
drop-set : (t : List ℕ) (j g : ℕ) → j < length t → drop j (set t j g) ≡ g ∷ drop (suc j) t
drop-set [] j g h = absurd (not-suc-le-zero h)
drop-set (x ∷ xs) zero g h = refl
drop-set (x ∷ xs) (suc j) g h = drop-set xs j g (le_of_suc-le-suc h)

-- a turn moves the last of the digits that are still to come to the front of those that stand
digit-turn : (i k rest g : ℕ) (out : List ℕ) → 0 < i → i ≤ k → k ≤ length out → g ≡ 48 + rest % 10
    → last_digits (i - 1) (rest / 10) ++ drop (i - 1) (take k (set out (i - 1) g)) ≡ last_digits i rest ++ drop i (take k out)
digit-turn zero k rest g out some h room e = absurd (not-suc-le-zero some)
digit-turn (suc j) k rest g out some h room e =
    let todo = last_digits j (rest / 10) in
    let done = drop (suc j) (take k out) in
    let within : j < length (take k out) = subst (λ (n : ℕ). j < n) (sym (length-take-le k out room)) h in
    ap (λ (m : ℕ). last_digits m (rest / 10) ++ drop m (take k (set out m g))) (sub-one (suc j))
    ∙ ap (λ (l : List ℕ). todo ++ drop j l) (take-set-lt k out j g h)
    ∙ ap (λ (l : List ℕ). todo ++ l) (drop-set (take k out) j g within)
    ∙ ap (λ (x : ℕ). todo ++ x ∷ done) e
    ∙ sym (append_snoc todo (48 + rest % 10) done)

pub loop-i-init : goal.loop-i-init
loop-i-init c =
    let a = c.args in
    let all = last_digits a.count a.value in
    (refl, ap (λ (l : List ℕ). all ++ l) (slice_empty a.count a.digits.now) ∙ append-nil all)

pub loop-i-preserved : goal.loop-i-preserved
loop-i-preserved c =
    let l = c.loop-i in (
      simp length-set l.invariant.0,
      digit-turn l.i c.args.count l.rest c.digit.result l.digits (omega arith) (omega arith) (omega (arith, l.invariant.0)) c.digit.ensures ∙ l.invariant.1,
    )
