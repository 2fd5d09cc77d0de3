-- Laws of what is kept of a list by a test of its elements. Assumes nothing.
use mathlib.Core.Path.{◌≡◌, refl, sym, ap, ◌∙◌}
use mathlib.Core.Bool.{Bool, true, false, true≢false}
use mathlib.Core.List.{List, [], ◌∷◌, map}
use Prim.Native.Nat.{ℕ, zero, suc, ◌+◌, ◌≤◌, ◌<◌}
use native.Mathlib.Omega.{arith}
use lib.ListN.{length, get_or}
use Rattle.combinatorics.specs.Stretch.{keep_if, members}
use Rattle.combinatorics.proofs.Cases.{by_bool}
use Rattle.cells.proofs.Cells.{map-keep}

unfoldable pub kept : (ℕ → Bool) → List ℕ → List ℕ
kept t [] = []
kept t (x ∷ xs) = keep_if (t x) x (kept t xs)

keep-kept : (t : ℕ → Bool) (b : Bool) (x : ℕ) (r : List ℕ) → (t x ≡ true → b ≡ true) → keep_if (t x) x (kept t r) ≡ kept t (keep_if b x r)
unfolding kept
keep-kept t true x r h = refl
keep-kept t false x r h = by_bool (t x) (λ e. absurd (true≢false (sym (h e)))) (λ e. rw e)

-- of the members of a set, those of a smaller one are its members
pub kept-members : (n k : ℕ) (s t : ℕ → Bool) → ((x : ℕ) → k ≤ x → x < k + n → t x ≡ true → s x ≡ true) → kept t (members n k s) ≡ members n k t
unfolding kept members
kept-members zero k s t h = refl
kept-members (suc n) k s t h =
    sym (keep-kept t (s k) k (members n (suc k) s) (h k (omega arith) (omega arith)))
    ∙ ap (keep_if (t k) k) (kept-members n (suc k) s t (λ x a b. h x (omega arith) (omega arith)))

members-later : (n k : ℕ) (t : ℕ → Bool) → members n (suc k) t ≡ map suc (members n k (λ x. t (suc x)))
unfolding members
members-later zero k t = refl
members-later (suc n) k t = ap (keep_if (t (suc k)) (suc k)) (members-later n (suc k) t) ∙ map-keep (t (suc k)) k (members n (suc k) (λ x. t (suc x))) suc

map-twice : (f : ℕ → ℕ) (xs : List ℕ) → map f (map suc xs) ≡ map (λ x. f (suc x)) xs
map-twice f [] = refl
map-twice f (x ∷ xs) = ap {B = List ℕ} (λ r. f (suc x) ∷ r) (map-twice f xs)

-- what is kept, by the places at which it stands
pub kept-places : (t : ℕ → Bool) (xs : List ℕ) → map (λ i. get_or xs i 0) (members (length xs) 0 (λ i. t (get_or xs i 0))) ≡ kept t xs
unfolding kept members
kept-places t [] = refl
kept-places t (x ∷ xs) =
    let at : ℕ → ℕ = λ i. get_or (x ∷ xs) i 0 in
    let rest = members (length xs) 1 (λ i. t (at i)) in
    sym (map-keep (t x) 0 rest at)
    ∙ ap (keep_if (t x) x)
    (ap (map at) (members-later (length xs) 0 (λ i. t (at i))) ∙ map-twice at (members (length xs) 0 (λ i. t (get_or xs i 0))) ∙ kept-places t xs)

pub at_map : (f : ℕ → ℕ) (xs : List ℕ) (i : ℕ) → i < length xs → get_or (map f xs) i 0 ≡ f (get_or xs i 0)
at_map f [] i h = absurd (omega arith)
at_map f (x ∷ xs) zero h = refl
at_map f (x ∷ xs) (suc i) h = at_map f xs i (omega arith)
