-- Laws of what "figures alone" answers, and of the calls that refuse what it refuses, whatever the construction. Assumes nothing.
use mathlib.Core.Path.{◌≡◌, sym, ◌∙◌}
use mathlib.Core.Bool.{true, false}
use Prim.Native.Nat.{ℕ}
use native.Mathlib.Omega.{arith}
use Rattle.refusals.specs.Refusals.{must, invalid, unfit}
use Rattle.combinatorics.proofs.Cases.{by_bool}
use Rattle.cells.specs.Outcomes.{Coding, figured, unserved, figures_under}

module _ (d : Coding) where
  -- ---- "figures alone 1 2", refusal by refusal

  pub figures-invalid : d.in_range ≡ false → figures_under d ≡ unserved invalid
  figures-invalid e = rw e

  pub figures-unfit : d.in_range ≡ true → d.fits ≡ false → figures_under d ≡ unserved unfit
  figures-unfit i e = rw (i, e)

  pub figures-served : d.in_range ≡ true → d.fits ≡ true → figures_under d ≡ figured d.placement_count_of d.index_tail_of d.codec.message_len_of
  figures-served i e = rw (i, e)

  -- ---- What a caller learns of its own figures from the answer

  -- figures with T, r and k are in range and fit
  pub figured-fits : (t r k : ℕ) → figures_under d ≡ figured t r k → (d.in_range ≡ true) × (d.fits ≡ true)
  figured-fits t r k e =
      by_bool d.in_range
      (λ i. by_bool d.fits (λ h. (i, h))
      (λ h. let x : unserved unfit ≡ figured t r k = sym (figures-unfit i h) ∙ e in let z : ◌≡◌ {A = ℕ} 0 1 = cc in absurd (omega arith)))
      (λ i. let x : unserved invalid ≡ figured t r k = sym (figures-invalid i) ∙ e in let z : ◌≡◌ {A = ℕ} 0 1 = cc in absurd (omega arith))

  -- a call whose order of refusals begins with 1 and 2 refuses figures with the number that they have alone
  pub refused-alike : {A : Type 0} (a : ℕ) (refuse : ℕ → A) (rest : A) → figures_under d ≡ unserved a
      → must d.in_range (refuse invalid) (must d.fits (refuse unfit) rest) ≡ refuse a
  refused-alike a refuse rest e =
      by_bool d.in_range
      (λ i. by_bool d.fits
      (λ h. let x : figured d.placement_count_of d.index_tail_of d.codec.message_len_of ≡ unserved a = sym (figures-served i h) ∙ e in
      let z : ◌≡◌ {A = ℕ} 0 1 = cc in absurd (omega arith))
      (λ h. let x : unserved unfit ≡ unserved a = sym (figures-unfit i h) ∙ e in rw (i, h) (cc)))
      (λ i. let x : unserved invalid ≡ unserved a = sym (figures-invalid i) ∙ e in rw i (cc))
