-- Tests over a list. Assumes nothing.
use Rattle.std.specs.Prelude.{Bool, true, false, ◌||◌, ◌&&◌, List, [], ◌∷◌, ℕ, suc, ltb, eqb}

unfoldable pub all : {A : Type 0} → (A → Bool) → List A → Bool
all t [] = true
all t (x ∷ xs) = t x && all t xs

unfoldable pub any : {A : Type 0} → (A → Bool) → List A → Bool
any t [] = false
any t (x ∷ xs) = t x || any t xs

-- every number of the list is below q
abbrev pub all_below : ℕ → List ℕ → Bool
all_below q xs = all (λ x. ltb x q) xs

-- the two lists are the same
unfoldable pub same_list : List ℕ → List ℕ → Bool
same_list [] [] = true
same_list [] (y ∷ ys) = false
same_list (x ∷ xs) [] = false
same_list (x ∷ xs) (y ∷ ys) = eqb x y && same_list xs ys

-- every number of the list passes the test with its place, counted from k on
unfoldable pub every : (ℕ → ℕ → Bool) → ℕ → List ℕ → Bool
every t k [] = true
every t k (x ∷ xs) = t k x && every t (suc k) xs
