-- The ways to take things one after another: the orders of the same things times the ways to choose them, and both fit 64 bits. Assumes nothing.
use mathlib.Core.Path.{◌≡◌, refl, sym, ◌∙◌}
use mathlib.Core.Bool.{false, true≢false}
use Prim.Native.Nat.{ℕ, zero, suc, ◌+◌, ◌*◌, ◌-◌, ◌/◌, ◌≤◌, ◌<◌}
use native.Mathlib.Numerals.{add-one}
use native.Mathlib.Nat.{mul_assoc, mul-le-mul, mul-div_cancel_left}
use native.Mathlib.Omega.{arith}
use lib.Dec.{ltb}
use Rattle.combinatorics.specs.Choose.{choose}
use Rattle.combinatorics.specs.Stretch.{has}
use Rattle.combinatorics.proofs.Cases.{by_le, leb-holds}
use Rattle.combinatorics.proofs.Choose.{choose-beyond, choose-zero, product_is}
use Rattle.combinatorics.proofs.Stretch.{has_some}
use Rattle.cells.specs.Figures.{max_word}
use Rattle.binomials.specs.Limits.{max_taken}
use Rattle.binomials.proofs.Bounds.{most_few, choose-few}

-- in how many orders k things come
unfoldable pub orders : ℕ → ℕ
orders zero = 1
orders (suc k) = orders k * suc k

pub orders-next : (k : ℕ) → orders k * (k + 1) ≡ orders (k + 1)
unfolding orders
orders-next k = rw (add-one k)

pub orders-some : (k : ℕ) → 0 < orders k
unfolding orders
orders-some zero = omega arith
orders-some (suc k) = omega (arith, mul-le-mul {n₁ = 1} {m₁ = 1} (orders-some k) (one-le k))
  where
    one-le : (k : ℕ) → 1 ≤ suc k
    one-le k = omega arith

abbrev pub most_orders : ℕ
most_orders = 120

-- one computation over every k that is served
all_fit : has (suc max_taken) 0 (λ k. ltb most_orders (orders k)) ≡ false
unfolding has orders
all_fit = refl

pub orders-fit : (k : ℕ) → k ≤ max_taken → orders k ≤ most_orders
orders-fit k l =
    by_le (suc most_orders) (orders k) (λ _. orders k ≤ most_orders)
    (λ g. absurd
    (true≢false
    (sym (has_some (suc max_taken) 0 k (λ k. ltb most_orders (orders k)) (omega arith) (omega arith) (leb-holds (suc most_orders) (orders k) g)) ∙ all_fit)))
    (λ g. omega arith)

-- none at first
pub taken_none : (n : ℕ) → 1 ≡ orders 0 * choose n 0
unfolding orders
taken_none n = rw (choose-zero n)

-- one thing more
pub taken_next : (n k : ℕ) → orders k * choose n k * (n - k) ≡ orders (k + 1) * choose n (k + 1)
unfolding orders
taken_next n k = rw (add-one k, mul_assoc (orders k) (choose n k) (n - k), product_is n k) (sym (mul_assoc (orders k) (suc k) (choose n (suc k))))

pub taken-fits : (n k : ℕ) → n ≤ max_word → k < max_taken → orders k * choose n k * (n - k) ≤ most_orders * most_few
taken-fits n k h l =
    rw (taken_next n k)
    (mul-le-mul {n₂ = most_orders} {m₂ = most_few} (orders-fit (k + 1) (omega arith)) (choose-few n (k + 1) h (omega arith)))

-- the ways to choose, where all are taken
pub choose-of-taken : (n k : ℕ) → orders k * choose n k / orders k ≡ choose n k
choose-of-taken n k = mul-div_cancel_left (choose n k) (orders-some k)

-- "there is no way to choose more things than there are"
pub choose-more : (n k : ℕ) → n < k → choose n k ≡ 0
choose-more n zero h = absurd (omega arith)
choose-more n (suc k) h = rw (← add-one k) (choose-beyond n k (omega arith))
