-- A bound over the larger of two symbols, and over a list as a loop goes through it. Assumes nothing.
use mathlib.Core.Path.{◌≡◌, refl, sym}
use mathlib.Core.Bool.{Bool, true, false, ◌&&◌}
use mathlib.Core.List.{List, [], ◌∷◌}
use Prim.Native.Nat.{ℕ, suc, ◌+◌, ◌≤◌, ◌<◌}
use native.Mathlib.Numerals.{add-one}
use native.Mathlib.Omega.{arith}
use Rattle.std.proofs.Common.{max}
use Rattle.std.proofs.lemmas.Bool.Decides.{nat_tests}
use lib.Dec.{ltb, eqb}
use lib.ListN.{length, get_or, drop, drop_of_length-le}
use lib.Seq.{drop-cons}
use Rattle.combinatorics.specs.Lists.{all, all_below}
use Rattle.combinatorics.proofs.Cases.{leb-fails, eqb-other}

-- a bound over the larger of two is one over both
max-below : (a b q : ℕ) → ltb (max a b) q ≡ (ltb a q && ltb b q)
max-below a b q = grind (arith, nat_tests)

and_assoc : (r s t : Bool) → ((r && s) && t) ≡ (r && (s && t))
and_assoc true s t = refl
and_assoc false s t = refl

-- one symbol further
pub below-turn : (most more q : ℕ) (xs : List ℕ) (i : ℕ) → i < length xs → more ≡ max most (get_or xs i 0)
    → (ltb more q && all_below q (drop (i + 1) xs)) ≡ (ltb most q && all_below q (drop i xs))
unfolding all
below-turn most more q xs i h e =
    rw (e, max-below most (get_or xs i 0) q, drop-cons xs i 0 h, add-one i) (and_assoc (ltb most q) (ltb (get_or xs i 0) q) (all_below q (drop (suc i) xs)))

-- behind the last symbol
pub below-done : (most q : ℕ) (xs : List ℕ) (i : ℕ) → length xs ≤ i → ltb most q ≡ (ltb most q && all_below q (drop i xs))
unfolding all
below-done most q xs i h = rw (drop_of_length-le xs h) (sym (and-true (ltb most q)))
  where
    and-true : (t : Bool) → (t && true) ≡ t
    and-true true = refl
    and-true false = refl

-- no symbol is below 0
pub none_below : (xs : List ℕ) → eqb (length xs) 0 ≡ all_below 0 xs
unfolding all
none_below [] = refl
none_below (x ∷ xs) = rw (eqb-other (suc (length xs)) 0 (λ e. absurd (omega arith)), leb-fails (suc x) 0 (omega arith)) refl
