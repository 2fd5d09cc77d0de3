-- Laws of the ways to choose: Pascal's rule as equations, growth, and the product by which a loop goes on. Assumes nothing.
use mathlib.Core.Path.{◌≡◌, refl, sym, ◌∙◌}
use Prim.Native.Nat.{ℕ, zero, suc, ◌+◌, ◌*◌, ◌-◌, ◌/◌, ◌≤◌, ◌<◌}
use native.Mathlib.Numerals.{add-one}
use native.Mathlib.Nat.{mul-zero, zero-div, mul-div_cancel_left, zero-lt-suc, mul-sub, mul_comm}
use native.Mathlib.Decide.{le_ind}
use native.Mathlib.Omega.{arith}
use Rattle.combinatorics.specs.Choose.{choose, quick}

pub pascal : (n k : ℕ) → choose (suc n) (suc k) ≡ choose n k + choose n (suc k)
unfolding choose
pascal n k = refl

pub choose-zero : (n : ℕ) → choose n 0 ≡ 1
unfolding choose
choose-zero zero = refl
choose-zero (suc n) = refl

pub choose-none : (k : ℕ) → choose 0 (suc k) ≡ 0
unfolding choose
choose-none k = refl

-- one more to choose from
pub choose-step : (n k : ℕ) → choose n k ≤ choose (suc n) k
unfolding choose
choose-step n zero = omega arith
choose-step n (suc k) = omega arith

pub choose-mono : {a b : ℕ} (k : ℕ) → a ≤ b → choose a k ≤ choose b k
choose-mono {a} {b} k h = le_ind (λ (m : ℕ). choose a k ≤ choose m k) (omega arith) (λ m _ l. omega (arith, choose-step m k)) b h

-- (k + 1) C(n, k + 1) = (n - k) C(n, k), with no subtraction
pub absorb : (n k : ℕ) → suc k * choose n (suc k) + k * choose n k ≡ n * choose n k
unfolding choose
absorb zero zero = refl
absorb zero (suc k) = omega arith
absorb (suc n) zero = omega (arith, absorb n zero)
absorb (suc n) (suc k) = omega (arith, absorb n k, absorb n (suc k))

pub product_is : (n k : ℕ) → choose n k * (n - k) ≡ suc k * choose n (suc k)
product_is n k = mul-sub (choose n k) n k ∙ omega (arith, absorb n k, mul_comm (choose n k) n, mul_comm (choose n k) k)

pub quick-is : (n k : ℕ) → quick n k ≡ choose n k
unfolding choose quick
quick-is n zero = refl
quick-is n (suc k) = rw (quick-is n k, product_is n k) (mul-div_cancel_left (choose n (suc k)) (zero-lt-suc k))

-- as a loop goes on: its counter plus one
pub choose-next : (n k : ℕ) → choose n k * (n - k) / (k + 1) ≡ choose n (k + 1)
choose-next n k = rw (product_is n k, add-one k) (mul-div_cancel_left (choose n (suc k)) (zero-lt-suc k))

pub choose-beyond : (n k : ℕ) → n ≤ k → choose n (k + 1) ≡ 0
choose-beyond n k h =
    let e : n - k ≡ 0 = omega arith in
    sym (choose-next n k) ∙ (rw (e, mul-zero) (zero-div (k + 1)))

-- out of nothing
pub choose-of-none : (k : ℕ) → 0 < k → choose 0 k ≡ 0
choose-of-none zero h = absurd (omega arith)
choose-of-none (suc k) h = choose-none k

-- one thing fewer chosen, out of fewer
pub choose-before : (c n k : ℕ) → c < n → 0 < k → choose c (k - 1) ≤ choose n k
choose-before c n zero h l = absurd (omega arith)
choose-before c n (suc k) h l =
    let e : suc k - 1 ≡ k = omega arith in
    rw e (omega (arith, pascal c k, choose-mono {a = suc c} {b = n} (suc k) h))
