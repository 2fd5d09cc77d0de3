-- Laws of the one after a number, taken round. Assumes nothing.
use mathlib.Core.Path.{◌≡◌}
use mathlib.Core.Logic.{◌≢◌}
use Prim.Native.Nat.{ℕ, suc, ◌≤◌, ◌<◌}
use native.Mathlib.Omega.{arith}
use Rattle.combinatorics.proofs.Cases.{by-eq, eqb_same, eqb-other}
use Rattle.cells.specs.Round.{next}

pub next-inner : (n x : ℕ) → suc x ≢ n → next n x ≡ suc x
unfolding next
next-inner n x f = rw (eqb-other (suc x) n f)

pub next_last : (n x : ℕ) → suc x ≡ n → next n x ≡ 0
unfolding next
next_last n x e = rw (eqb_same (suc x) n e)

pub next-lt : (n i : ℕ) → i < n → next n i < n
next-lt n i h = by-eq (suc i) n (λ _. next n i < n) (λ e. omega (arith, next_last n i e)) (λ f. omega (arith, next-inner n i f))

pub next-ne : (n i : ℕ) → 2 ≤ n → next n i ≢ i
next-ne n i h e = by-eq (suc i) n (λ _. ⊥) (λ d. omega (arith, next_last n i d)) (λ f. omega (arith, next-inner n i f))
