-- `least_factors` meets its contract: the values are those of r factors, stopped at the count, and no number below r was enough. Assumes nothing.
use mathlib.Core.Path.{◌≡◌}
use mathlib.Core.Bool.{Bool, false}
use Prim.Native.Nat.{ℕ, ◌*◌, ◌^◌, ◌<◌, min}
use lib.Dec.{leb}
use Rattle.params.proofs.tail.least_factors.Given as goal

-- whether r factors are enough
abbrev pub enough : ℕ → ℕ → ℕ → ℕ → Bool
enough start step count r = leb count (start * step ^ r)

abbrev pub invariant-loop-r : goal.invariant-loop-r
invariant-loop-r l =
    (l.values ≡ min (l.start * l.step ^ l.r) l.count) × ((x : ℕ) → x < l.r → enough l.start l.step l.count x ≡ false)
