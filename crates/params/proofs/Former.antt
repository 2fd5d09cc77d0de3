-- Within the former limits every count fits, so the same figures do. Assumes nothing.
use mathlib.Core.Path.{◌≡◌, refl}
use mathlib.Core.Bool.{◌&&◌}
use Prim.Native.Nat.{◌-◌, ◌*◌, ◌≤◌, ◌<◌}
use native.Mathlib.Nat.{le-mul_of_pos_right}
use native.Mathlib.Omega.{arith}
use lib.Dec.{leb, ltb}
use Rattle.combinatorics.specs.Bursts.{contracted, placements}
use Rattle.combinatorics.proofs.Cases.{by_le, leb-holds, eqb-other, le_of}
use Rattle.combinatorics.proofs.Lists.{both}
use Rattle.cells.specs.Figures.{Params, max_count, in_range, placement_count_of, max_word}
use Rattle.construction_a.specs.Figures.{index_tail_of, block_min, fits}
use Rattle.construction_a.specs.Former.{SameFigures}
use Rattle.cells.proofs.Figures.{ranged}
use Rattle.binomials.specs.Limits.{most_things}
use Rattle.binomials.proofs.Bounds.{ways-fit}

-- C(1024, 6) is far below the limit
count_fits : (f : Params) → 0 < f.b → f.n ≤ 1024 → f.m ≤ 6 → f.m * f.b ≤ f.n → placement_count_of f ≤ max_count
unfolding placements
count_fits f b n m total =
    let most : most_things f.m ≡ max_word = rw (eqb-other f.m 7 (λ e. omega arith), eqb-other f.m 8 (λ e. omega arith)) in
    ways-fit (contracted f.n f.m f.b) f.m f.m (omega (arith, most, le-mul_of_pos_right f.m b)) (omega arith) (omega arith)

pub same-figures : SameFigures
unfolding fits
same-figures f h =
    let x = both (in_range f && leb f.n 1024) (leb f.m 6) h in
    let y = both (in_range f) (leb f.n 1024) x.0 in
    by_le (f.m * f.b) f.n
    (λ t. (t && leb (placement_count_of f) max_count && ltb (index_tail_of f) (block_min f) && leb f.b (block_min f - index_tail_of f))
    ≡ (t && ltb (index_tail_of f) (block_min f) && leb f.b (block_min f - index_tail_of f)))
    (λ l. rw (leb-holds (placement_count_of f) max_count (count_fits f (ranged f y.0).b-least (le_of f.n 1024 y.1) (le_of f.m 6 x.1) l)))
    (λ _. refl)
