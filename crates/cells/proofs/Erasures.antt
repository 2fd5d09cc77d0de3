-- Found symbols of which none is an erasure are symbols of the alphabet. Assumes nothing.
use mathlib.Core.Path.{◌≡◌, refl, sym, ap, ◌∙◌}
use mathlib.Core.Logic.{◌≢◌}
use mathlib.Core.Bool.{true, false, not, cond, true≢false}
use mathlib.Core.List.{List, [], ◌∷◌}
use Prim.Native.Nat.{ℕ, suc, ◌≤◌, ◌<◌}
use native.Mathlib.Omega.{arith}
use borrow.Author.Tests.{leb-true}
use lib.Dec.{ltb, eqb}
use Rattle.combinatorics.specs.Lists.{all, any, all_below}
use Rattle.combinatorics.proofs.Cases.{by_le, by_bool, eqb-false, eqb-other, leb-holds, leb-fails}
use Rattle.combinatorics.proofs.Lists.{both}
use Rattle.cells.specs.Bytes.{byte_values}
use Rattle.cells.specs.Erasures.{found_bound, has_erasure}

-- the bound, where a byte has room for q and where it has none
pub found-above : (q : ℕ) → q < byte_values → found_bound q ≡ suc q
unfolding found_bound
found-above q l = rw (leb-holds (suc q) byte_values l)

pub found_all : (q : ℕ) → byte_values ≤ q → found_bound q ≡ q
unfolding found_bound
found_all q l = rw (leb-fails (suc q) byte_values (omega arith))

-- every symbol of the alphabet can be found, and at most one value more
pub found-most : (q : ℕ) → found_bound q ≤ suc q
unfolding found_bound
found-most q = by_le (suc q) byte_values (λ t. cond t (suc q) q ≤ suc q) (λ _. omega arith) (λ _. omega arith)

pub found-least : (q : ℕ) → q ≤ found_bound q
unfolding found_bound
found-least q = by_le (suc q) byte_values (λ t. q ≤ cond t (suc q) q) (λ _. omega arith) (λ _. omega arith)

pub whole_below : (q : ℕ) (xs : List ℕ) → all_below (found_bound q) xs ≡ true → has_erasure q xs ≡ false → all_below q xs ≡ true
unfolding has_erasure any all
whole_below q [] l e = refl
whole_below q (x ∷ xs) l e =
    let b = both (ltb x (found_bound q)) (all_below (found_bound q) xs) l in
    by_bool (eqb x q) (λ t. absurd (true≢false (rw t at e)))
    (λ t.
    let other : x ≢ q = eqb-false x q t in
    let small : x < q = omega (arith, leb-true (suc x) (found_bound q) b.0, found-most q) in
    rw (leb-holds (suc x) q small) (whole_below q xs b.1 (rw t at e)))

pub below-whole : (q : ℕ) (xs : List ℕ) → all_below q xs ≡ true → has_erasure q xs ≡ false
unfolding has_erasure any all
below-whole q [] l = refl
below-whole q (x ∷ xs) l =
    let b = both (ltb x q) (all_below q xs) l in
    rw (eqb-other x q (omega (arith, leb-true (suc x) q b.0))) (below-whole q xs b.1)

-- so once no value above q is left, one test of symbols serves refusal 19: an erasure is a symbol that is not below q
pub erasure-is : (q : ℕ) (xs : List ℕ) → all_below (found_bound q) xs ≡ true → not (has_erasure q xs) ≡ all_below q xs
erasure-is q xs l =
    by_bool (all_below q xs) (λ t. ap not (below-whole q xs t) ∙ sym t)
    (λ t. by_bool (has_erasure q xs) (λ e. ap not e ∙ sym t) (λ e. absurd (true≢false (sym (whole_below q xs l e) ∙ t))))
