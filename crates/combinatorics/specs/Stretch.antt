-- Sums, counts and searches over a stretch of numbers: n of them, from k on. A set of numbers is its test, ℕ → Bool. Assumes nothing.
use Rattle.std.specs.Prelude.{Bool, true, false, cond, ◌||◌, ◌&&◌, List, [], ◌∷◌, ℕ, zero, suc, ◌+◌, leb, ltb}

-- f k + f (k + 1) + .. , n terms
unfoldable pub sum : ℕ → ℕ → (ℕ → ℕ) → ℕ
sum zero k f = 0
sum (suc n) k f = f k + sum n (suc k) f

abbrev pub bit : Bool → ℕ
bit true = 1
bit false = 0

-- how many of the stretch are in the set
abbrev pub count : ℕ → ℕ → (ℕ → Bool) → ℕ
count n k w = sum n k (λ x. bit (w x))

-- the first c of the set, from 0 on: those with fewer than c before them
unfoldable pub firsts : ℕ → (ℕ → Bool) → ℕ → Bool
firsts c w x = w x && ltb (count x 0 w) c

-- whether any is
unfoldable pub has : ℕ → ℕ → (ℕ → Bool) → Bool
has zero k w = false
has (suc n) k w = w k || has n (suc k) w

-- the first that is, or k + n where none is
unfoldable pub first : ℕ → ℕ → (ℕ → Bool) → ℕ
first zero k w = k
first (suc n) k w = let r = first n (suc k) w in cond (w k) k r

abbrev pub keep_if : Bool → ℕ → List ℕ → List ℕ
keep_if true x r = x ∷ r
keep_if false x r = r

-- all that are, ascending
unfoldable pub members : ℕ → ℕ → (ℕ → Bool) → List ℕ
members zero k w = []
members (suc n) k w = keep_if (w k) k (members n (suc k) w)

-- the values of a function over the stretch
unfoldable pub tabulate : {A : Type 0} → ℕ → ℕ → (ℕ → A) → List A
tabulate zero k f = []
tabulate (suc n) k f = f k ∷ tabulate n (suc k) f

-- the numbers of the stretch themselves
abbrev pub consecutive : ℕ → ℕ → List ℕ
consecutive n k = tabulate n k (λ x. x)

-- the largest number below n at which f is at most v, or 0
unfoldable pub top : (ℕ → ℕ) → ℕ → ℕ → ℕ
top f zero v = zero
top f (suc n) v = let r = top f n v in cond (leb (f n) v) n r

-- one past the last number below n that is in the set, or 0
unfoldable pub last_end : (ℕ → Bool) → ℕ → ℕ
last_end w zero = 0
last_end w (suc n) = let r = last_end w n in cond (w n) (suc n) r
