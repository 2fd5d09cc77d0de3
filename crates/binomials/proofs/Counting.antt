-- What a caller learns from a count. Assumes nothing.
use mathlib.Core.Path.{◌≡◌, sym, ap, ◌∙◌}
use Prim.Native.Nat.{ℕ, ◌≤◌, ◌<◌}
use native.Mathlib.Omega.{arith}
use Rattle.combinatorics.proofs.Cases.{by_le}
use Rattle.cells.specs.Figures.{counted, too_many, count_out, max_count}
use Rattle.cells.proofs.Figures.{count-given, count-over}
use Rattle.binomials.specs.Limits.{counted_as}
use Rattle.std.specs.Prelude.{Option, Some, None}

-- its value
pub ways-learnt : (t v : ℕ) (r : Option ℕ) → r ≡ Some v → counted_as r ≡ count_out t → (v ≡ t) × (t ≤ max_count)
ways-learnt t v r e is =
    by_le t max_count (λ _. (v ≡ t) × (t ≤ max_count))
    (λ h. let x : counted v ≡ counted t = sym (ap counted_as e) ∙ is ∙ count-given t h in (cc, h))
    (λ h. let x : counted v ≡ too_many = sym (ap counted_as e) ∙ is ∙ count-over t h in let z : ◌≡◌ {A = ℕ} 0 1 = cc in absurd (omega arith))

-- or that it is too large
pub many-learnt : (t : ℕ) (r : Option ℕ) → r ≡ None → counted_as r ≡ count_out t → max_count < t
many-learnt t r e is =
    by_le t max_count (λ _. max_count < t)
    (λ h. let x : too_many ≡ counted t = sym (ap counted_as e) ∙ is ∙ count-given t h in let z : ◌≡◌ {A = ℕ} 0 1 = cc in absurd (omega arith))
    (λ h. h)
