-- Laws of what "figures alone" answers, and of the calls that refuse what it refuses: those of cells/proofs/Outcomes, under Construction A's figures.
-- Assumes nothing.
use mathlib.Core.Path.{◌≡◌}
use mathlib.Core.Bool.{true, false}
use Prim.Native.Nat.{ℕ}
use Rattle.refusals.specs.Refusals.{must, invalid, unfit}
use Rattle.cells.proofs.Outcomes as AnyOutcomes
use Rattle.cells.specs.Figures.{Params, in_range, placement_count_of}
use Rattle.construction_a.specs.Figures.{fits, index_tail_of, message_len_of}
use Rattle.construction_a.specs.Outcomes.{coding, figured, unserved, figures_out}
use Rattle.construction_a.proofs.Figures.{Served, serve}

module _ (f : Params) where
  pub figures-invalid : in_range f ≡ false → figures_out f ≡ unserved invalid
  unfolding figures_out
  figures-invalid = AnyOutcomes.figures-invalid (coding f)

  pub figures-unfit : in_range f ≡ true → fits f ≡ false → figures_out f ≡ unserved unfit
  unfolding figures_out
  figures-unfit = AnyOutcomes.figures-unfit (coding f)

  pub figures-served : in_range f ≡ true → fits f ≡ true → figures_out f ≡ figured (placement_count_of f) (index_tail_of f) (message_len_of f)
  unfolding figures_out
  figures-served = AnyOutcomes.figures-served (coding f)

  -- figures with T, r and k are in range and fit, and can be served
  pub figured-fits : (t r k : ℕ) → figures_out f ≡ figured t r k → (in_range f ≡ true) × (fits f ≡ true)
  unfolding figures_out
  figured-fits = AnyOutcomes.figured-fits (coding f)

  pub figured-served : (t r k : ℕ) → figures_out f ≡ figured t r k → Served f
  figured-served t r k e = let b = figured-fits t r k e in serve f b.0 b.1

-- a call whose order of refusals begins with 1 and 2 refuses figures with the number that they have alone
pub refused-alike : {A : Type 0} (f : Params) (a : ℕ) (refuse : ℕ → A) (rest : A) → figures_out f ≡ unserved a
    → must (in_range f) (refuse invalid) (must (fits f) (refuse unfit) rest) ≡ refuse a
unfolding figures_out
refused-alike f = AnyOutcomes.refused-alike (coding f)
