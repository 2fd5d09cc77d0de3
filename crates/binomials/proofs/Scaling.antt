-- A product by a quotient, of which only a part is multiplied at a time. Assumes nothing.
use mathlib.Core.Path.{◌≡◌, sym, ap, ◌∙◌}
use Prim.Native.Nat.{ℕ, ◌+◌, ◌*◌, ◌/◌, ◌%◌, ◌≤◌, ◌<◌}
use native.Mathlib.Nat.{add_comm, add-mul, mul_assoc, mod-add-div, mod-lt, mul-le-mul, add-mul-div_left}
use native.Mathlib.Omega.{arith}

pub scaled-is : (a b d : ℕ) → 0 < d → a / d * b + a % d * b / d ≡ a * b / d
scaled-is a b d h =
    add_comm (a / d * b) (a % d * b / d)
    ∙ sym (add-mul-div_left (a % d * b) (a / d * b) h)
    ∙ ap (λ (x : ℕ). x / d) (ap (λ (x : ℕ). a % d * b + x) (sym (mul_assoc d (a / d) b)) ∙ sym (add-mul (a % d) (d * (a / d)) b)
    ∙ ap (λ (x : ℕ). x * b) (mod-add-div a d))

-- the smaller part, by the largest divisor and factor
pub rest-small : (a b d most_d most_b : ℕ) → 0 < d → d ≤ most_d → b ≤ most_b → a % d * b ≤ most_d * most_b
rest-small a b d most_d most_b h l k = mul-le-mul {n₂ = most_d} {m₂ = most_b} (omega (arith, mod-lt a h)) k
