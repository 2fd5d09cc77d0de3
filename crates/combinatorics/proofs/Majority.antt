-- Laws of majorities: where more than half of the places are asked for, no two values are common, and the majority is the common one. Assumes nothing.
use mathlib.Core.Path.{◌≡◌, refl, sym, ap, ◌∙◌}
use mathlib.Core.Logic.{◌≢◌}
use mathlib.Core.Bool.{true, false, true≢false, false≢true}
use mathlib.Core.Option.{Option, none, some}
use Prim.Native.Nat.{ℕ, ◌+◌, ◌≤◌, ◌<◌}
use native.Mathlib.Omega.{arith}
use borrow.Author.Tests.{leb-true}
use Rattle.combinatorics.specs.Majority.{is_value, common, has_common, value_at_first, majority}
use Rattle.combinatorics.specs.Stretch.{count, first}
use Rattle.combinatorics.proofs.Cases.{by-eq, by_bool, eqb_same, eqb-other, eqb-true}
use Rattle.combinatorics.proofs.Members.{by_members}
use Rattle.combinatorics.proofs.Stretch.{first-in, first-true, count-three}

-- ---- One place

pub value-is : (v : ℕ) (o : Option ℕ) → is_value v o ≡ true → o ≡ some v
value-is v none e = absurd (false≢true e)
value-is v (some u) e = ap some (eqb-true u v e)

pub is-value : (v : ℕ) (o : Option ℕ) → o ≡ some v → is_value v o ≡ true
is-value v o e = rw e (eqb_same v v refl)

one_value : (u v : ℕ) (o : Option ℕ) → u ≢ v → is_value u o ≡ true → is_value v o ≡ false
one_value u v none f e = refl
one_value u v (some x) f e = eqb-other x v (λ d. f (sym (eqb-true x u e) ∙ d))

-- ---- All of them

module _ (c least : ℕ) (g : ℕ → Option ℕ) (some-asked : 0 < least) (more-than-half : c < least + least) where
  common-only : (u v : ℕ) → common c least g u ≡ true → common c least g v ≡ true → u ≡ v
  unfolding common
  common-only u v p r =
      by-eq u v (λ _. u ≡ v) (λ e. e)
      (λ f. absurd (omega (
        arith,
        count-three c 0 (λ i. is_value u (g i)) (λ i. is_value v (g i)) (λ x _ _. one_value u v (g x) f),
        leb-true least (count c 0 (λ i. is_value u (g i))) p,
        leb-true least (count c 0 (λ i. is_value v (g i))) r,
      )))

  -- the common value is the majority
  pub majority-is : (v : ℕ) → common c least g v ≡ true → majority c least g ≡ some v
  unfolding majority common
  majority-is v e =
      by_members (λ is. value_at_first g is ≡ some v) c 0 (λ i. has_common c least g (g i))
      (λ none_is.
      let at = first c 0 (λ i. is_value v (g i)) in
      let l : at < 0 + c = first-in c 0 (λ i. is_value v (g i)) (omega (arith, enough)) in
      let here : g at ≡ some v = value-is v (g at) (first-true c 0 (λ i. is_value v (g i)) l) in
      let seen : has_common c least g (g at) ≡ true = rw here e in
      absurd (true≢false (sym seen ∙ none_is at (omega arith) l)))
      (λ i r _ _ t. only (g i) t)
    where
      enough : least ≤ count c 0 (λ i. is_value v (g i))
      enough = leb-true least (count c 0 (λ i. is_value v (g i))) e

      only : (o : Option ℕ) → has_common c least g o ≡ true → o ≡ some v
      only none t = absurd (false≢true t)
      only (some u) t = ap some (common-only u v t e)

  -- and the other way round
  pub majority-common : (v : ℕ) → majority c least g ≡ some v → common c least g v ≡ true
  unfolding majority
  majority-common v =
      by_members (λ is. value_at_first g is ≡ some v → common c least g v ≡ true) c 0 (λ i. has_common c least g (g i))
      (λ _ e. absurd (let z : ◌≡◌ {A = ℕ} 0 1 = cc in omega arith))
      (λ i r _ _ t e. let u : has_common c least g (some v) ≡ true = rw e at t in u)

  -- no value is common, and none is the majority
  pub majority-none : majority c least g ≡ none → (v : ℕ) → common c least g v ≡ false
  majority-none e v =
      by_bool (common c least g v)
      (λ t. absurd (let h : some v ≡ none = sym (majority-is v t) ∙ e in let z : ◌≡◌ {A = ℕ} 0 1 = cc in omega arith)) (λ t. t)

  pub none-majority : ((v : ℕ) → common c least g v ≡ false) → majority c least g ≡ none
  none-majority h = go (majority c least g) refl
    where
      go : (o : Option ℕ) → majority c least g ≡ o → o ≡ none
      go none e = refl
      go (some v) e = absurd (true≢false (sym (majority-common v e) ∙ h v))
