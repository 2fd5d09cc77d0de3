-- The ways to choose k things out of n. Assumes nothing.
use Rattle.std.specs.Prelude.{ℕ, zero, suc, ◌+◌, ◌-◌, ◌*◌, ◌/◌}

-- by Pascal's rule: of the last of the n things, with it or without it
unfoldable pub choose : ℕ → ℕ → ℕ
choose n zero = 1
choose zero (suc k) = 0
choose (suc n) (suc k) = choose n k + choose n (suc k)

-- the same by the formula, which computes at once: `quick-is` of proofs/Choose.antt
unfoldable pub quick : ℕ → ℕ → ℕ
quick n zero = 1
quick n (suc k) = quick n k * (n - k) / suc k
