-- A rule of a table, at every entry, from one test that computes over the whole table, entry after entry. Assumes nothing.
use mathlib.Core.Path.{◌≡◌, subst}
use mathlib.Core.Bool.{Bool, true}
use mathlib.Core.List.{List, [], ◌∷◌}
use Prim.Native.Nat.{ℕ, zero, suc, ◌+◌, ◌<◌}
use native.Mathlib.Omega.{arith}
use lib.ListN.{length, get_or}
use Rattle.combinatorics.specs.Lists.{every}
use Rattle.combinatorics.proofs.Lists.{both}

from : (t : ℕ → ℕ → Bool) (xs : List ℕ) (k : ℕ) → every t k xs ≡ true → (i : ℕ) → i < length xs → t (k + i) (get_or xs i 0) ≡ true
unfolding every
from t [] k e i h = absurd (omega arith)
from t (x ∷ xs) k e zero h =
    let z : k ≡ k + 0 = omega arith in
    subst (λ (m : ℕ). t m x ≡ true) z (both (t k x) (every t (suc k) xs) e).0
from t (x ∷ xs) k e (suc i) h =
    let z : suc k + i ≡ k + suc i = omega arith in
    subst (λ (m : ℕ). t m (get_or xs i 0) ≡ true) z (from t xs (suc k) (both (t k x) (every t (suc k) xs) e).1 i (omega arith))

pub at_each : (t : ℕ → ℕ → Bool) (xs : List ℕ) → every t 0 xs ≡ true → (i : ℕ) → i < length xs → t i (get_or xs i 0) ≡ true
at_each t xs e i h =
    let z : 0 + i ≡ i = omega arith in
    subst (λ (m : ℕ). t m (get_or xs i 0) ≡ true) z (from t xs 0 e i h)
