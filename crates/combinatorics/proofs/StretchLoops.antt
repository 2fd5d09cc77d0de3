-- Sums, searches and tests over a stretch of numbers, as a loop goes through it. Assumes nothing.
use mathlib.Core.Path.{◌≡◌}
use mathlib.Core.Bool.{Bool, true, false}
use Prim.Native.Nat.{ℕ, suc, ◌+◌, ◌-◌, ◌≤◌, ◌<◌}
use native.Mathlib.Numerals.{add-one}
use native.Mathlib.Omega.{arith}
use Rattle.combinatorics.specs.Stretch.{bit, count, has, first}
use Rattle.combinatorics.proofs.Stretch.{sum-next}

-- ---- As a loop goes: a search or a test that has come to i without finding, and a count that has come to i

pub first-start : (n : ℕ) (w : ℕ → Bool) → first (n - 0) 0 w ≡ first n 0 w
first-start n w =
    let e : n - 0 ≡ n = omega arith in
    rw e

pub first-here : (n i : ℕ) (w : ℕ → Bool) → i < n → w i ≡ true → first (n - i) i w ≡ i
unfolding first
first-here n i w h t =
    let e : n - i ≡ suc (n - suc i) = omega arith in
    rw (e, t)

pub first_on : (n i : ℕ) (w : ℕ → Bool) → i < n → w i ≡ false → first (n - i) i w ≡ first (n - (i + 1)) (i + 1) w
unfolding first
first_on n i w h t =
    let e : n - i ≡ suc (n - suc i) = omega arith in
    rw (e, t, add-one i)

pub first-over : (n i : ℕ) (w : ℕ → Bool) → n ≤ i → first (n - i) i w ≡ i
unfolding first
first-over n i w h =
    let e : n - i ≡ 0 = omega arith in
    rw e

pub has-start : (n : ℕ) (w : ℕ → Bool) → has (n - 0) 0 w ≡ has n 0 w
has-start n w =
    let e : n - 0 ≡ n = omega arith in
    rw e

pub has_here : (n i : ℕ) (w : ℕ → Bool) → i < n → w i ≡ true → has (n - i) i w ≡ true
unfolding has
has_here n i w h t =
    let e : n - i ≡ suc (n - suc i) = omega arith in
    rw (e, t)

pub has_on : (n i : ℕ) (w : ℕ → Bool) → i < n → w i ≡ false → has (n - i) i w ≡ has (n - (i + 1)) (i + 1) w
unfolding has
has_on n i w h t =
    let e : n - i ≡ suc (n - suc i) = omega arith in
    rw (e, t, add-one i)

pub has-over : (n i : ℕ) (w : ℕ → Bool) → n ≤ i → has (n - i) i w ≡ false
unfolding has
has-over n i w h =
    let e : n - i ≡ 0 = omega arith in
    rw e

pub count-on : (i : ℕ) (w : ℕ → Bool) → count (i + 1) 0 w ≡ count i 0 w + bit (w i)
count-on i w = rw (add-one i) (sum-next i (λ x. bit (w x)))
