-- Laying Construction B's figures out step by step: the numbers found are its L, T, r and k, and show whether the figures fit. Assumes nothing.
use mathlib.Core.Path.{◌≡◌, refl, sym}
use mathlib.Core.Bool.{Bool, true, false, ◌&&◌}
use Prim.Native.Nat.{ℕ, suc, ◌+◌, ◌-◌, ◌/◌, ◌≤◌, ◌<◌}
use native.Mathlib.Omega.{arith}
use lib.Dec.{leb}
use Rattle.refusals.specs.Refusals.{unfit}
use Rattle.combinatorics.proofs.Cases.{leb-holds, leb-fails}
use Rattle.cells.specs.Outcomes.{figured, unserved, figures_under}
use Rattle.cells.proofs.Outcomes.{figures-unfit, figures-served}
use Rattle.cells.specs.Figures.{max_word, max_alphabet, params, least_tail}
use Rattle.cells.specs.Figures as Base
use Rattle.construction_b.specs.Figures.{LongParams, parts, in_range, part_min, part_most, placement_count_of, index_tail_of, fits, message_len_of}
use Rattle.construction_b.specs.Outcomes.{coding}

-- the base's test of the ranges, with one burst
pub range_same : (f : LongParams) → Base.in_range (params f.n f.q 1 f.b) ≡ in_range f
unfolding Base.in_range in_range
range_same f = go (leb 3 f.n && leb f.n max_word && leb 2 f.q && leb f.q max_alphabet)
  where
    go : (t : Bool) → (t && leb 1 1 && leb 1 8 && leb 1 f.b) ≡ (t && leb 1 f.b)
    go true = refl
    go false = refl

-- T, as it is worked out
pub count-is : (f : LongParams) → f.n - f.b + 1 ≡ placement_count_of f
unfolding placement_count_of
count-is f = refl

module _ (f : LongParams) (range : in_range f ≡ true) where
  -- "It needs b at most L", which fails
  pub burst-unfit : f.n / parts < f.b → figures_under (coding f) ≡ unserved unfit
  unfolding fits part_min
  burst-unfit l = figures-unfit (coding f) range (rw (leb-fails f.b (f.n / parts) l))

  module _ (r : ℕ) (found : r ≡ least_tail f.q 1 ((f.n + 2) / parts) (f.n / parts)) where
    pub tail-is : r ≡ index_tail_of f
    unfolding index_tail_of part_most part_min
    tail-is = found

    -- ".. and r below L", which fails
    pub tail-unfit : f.b ≤ f.n / parts → f.n / parts ≤ r → figures_under (coding f) ≡ unserved unfit
    unfolding fits part_min
    tail-unfit b l =
        figures-unfit (coding f) range (rw (leb-holds f.b (f.n / parts) b, leb-fails (suc (index_tail_of f)) (f.n / parts) (omega (arith, tail-is))))

    module _ (b : f.b ≤ f.n / parts) (l : r < f.n / parts) where
      fit : fits f ≡ true
      unfolding fits part_min
      fit = rw (leb-holds f.b (f.n / parts) b, leb-holds (suc (index_tail_of f)) (f.n / parts) (omega (arith, tail-is)))

      pub len_is : f.n - f.b - r - 2 ≡ message_len_of f
      unfolding message_len_of
      len_is = rw tail-is

      pub figured-as : figured (f.n - f.b + 1) r (f.n - f.b - r - 2) ≡ figures_under (coding f)
      unfolding placement_count_of
      figured-as = rw (len_is, tail-is) (sym (figures-served (coding f) range fit))
