-- `least_tail` meets its contract: index blocks spell by factors, and stopping the first and each further one at the count changes nothing.
-- Assumes nothing.
use mathlib.Core.Path.{◌≡◌, sym, ap, ◌∙◌, fun_ext}
use Prim.Native.Nat.{ℕ, zero, suc, ◌-◌, ◌*◌, ◌^◌, min}
use native.Mathlib.Nat.{mul_assoc, pow-zero, pow-suc}
use native.Mathlib.Omega.{arith}
use lib.Dec.{leb}
use Rattle.combinatorics.specs.Stretch.{first}
use Rattle.cells.specs.Digits.{span, places}
use Rattle.cells.proofs.Digits.{span-first, span-longer, span-places}
use Rattle.cells.specs.Figures.{least_tail}
use Rattle.params.proofs.Capped.{factors-capped, reached-alike}
use Rattle.params.proofs.tail.least_tail.Goals as goal

-- each further symbol is one more factor
span-factors : (q blocks r : ℕ) → span q (places blocks r) ≡ (q - 1) ^ blocks * (q ^ blocks) ^ r
span-factors q blocks zero = span-first q blocks ∙ (rw (pow-zero (q ^ blocks)) (omega arith))
span-factors q blocks (suc r) =
    span-longer q blocks r ∙ (rw (span-factors q blocks r, pow-suc (q ^ blocks) r) (mul_assoc ((q - 1) ^ blocks) ((q ^ blocks) ^ r) (q ^ blocks)))

-- what the definition seeks, by factors that are stopped at the count
least-capped : (q blocks count limit : ℕ)
    → first limit 0 (λ r. leb count (min ((q - 1) ^ blocks) count * min (q ^ blocks) count ^ r)) ≡ least_tail q blocks count limit
unfolding least_tail
least-capped q blocks count limit =
    ap (first limit 0)
    (fun_ext (λ r. reached-alike (min ((q - 1) ^ blocks) count * min (q ^ blocks) count ^ r) ((q - 1) ^ blocks * (q ^ blocks) ^ r) count
    (factors-capped ((q - 1) ^ blocks) (q ^ blocks) count r)
    ∙ ap (leb count) (sym (span-factors q blocks r) ∙ span-places q blocks r)))

pub returns : goal.returns
returns c =
    let a = c.args in
    c.least_factors.ensures ∙ (rw (c.capped_power-values.ensures, c.capped_power-step.ensures)
    (least-capped a.q a.blocks a.count a.limit))
