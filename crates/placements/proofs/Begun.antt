-- Starts that are read from the first to the last, and stored as they are read. Assumes nothing.
use mathlib.Core.Path.{◌≡◌, refl, sym, ap, ◌∙◌}
use mathlib.Core.List.{List, [], ◌∷◌, ◌++◌}
use Prim.Native.Nat.{ℕ, zero, suc, ◌+◌, ◌-◌, ◌<◌}
use native.Mathlib.Numerals.{add-one}
use native.Mathlib.Omega.{arith}
use lib.ListN.{set, replicate}
use lib.Seq.{append_snoc, set_at}
use Rattle.combinatorics.specs.Stretch.{tabulate}
use Rattle.combinatorics.proofs.Members.{length-tabulate}
use Rattle.cells.specs.Figures.{max_bursts}
use Rattle.construction_a.specs.Outcomes.{held}

-- the first j starts, and 0 in the other places
abbrev pub begun : (ℕ → ℕ) → ℕ → List ℕ
begun f j = tabulate j 0 f ++ replicate (max_bursts - j) 0

tabulate-next : (n k : ℕ) (f : ℕ → ℕ) → tabulate (suc n) k f ≡ tabulate n k f ++ (f (k + n) ∷ [])
unfolding tabulate
tabulate-next zero k f = let e : k ≡ k + 0 = omega arith in ap (λ (x : ℕ). f x ∷ []) e
tabulate-next (suc n) k f =
    let e : suc k + n ≡ k + suc n = omega arith in
    ap {B = List ℕ} (λ r. f k ∷ r) (tabulate-next n (suc k) f ∙ ap (λ (x : ℕ). tabulate n (suc k) f ++ (f x ∷ [])) e)

pub begun-none : (f : ℕ → ℕ) → replicate max_bursts 0 ≡ begun f 0
unfolding tabulate
begun-none f = refl

pub begun-next : (f : ℕ → ℕ) (j : ℕ) → j < max_bursts → set (begun f j) j (f j) ≡ begun f (j + 1)
begun-next f j h =
    let z : max_bursts - j ≡ suc (max_bursts - suc j) = omega arith in
    let e : 0 + j ≡ j = omega arith in
    rw (add-one j, z, tabulate-next j 0 f, e)
    (set_at (tabulate j 0 f) 0 (replicate (max_bursts - suc j) 0) (f j) j (length-tabulate j 0 f)
    ∙ sym (append_snoc (tabulate j 0 f) (f j) (replicate (max_bursts - suc j) 0)))

pub begun_all : (f : ℕ → ℕ) (m : ℕ) → record { starts = begun f m; count = m } ≡ held (tabulate m 0 f)
begun_all f m = rw (length-tabulate m 0 f)
