-- "Document 003's reduced count (4.2) is not used": the figures with which it fails, as one table. The proof is `reduced-count-holds` of
-- proofs/ReducedCount.antt. Assumes nothing.
use Rattle.std.specs.Prelude.{◌≡◌, true, ◌&&◌, List, [], ◌∷◌, ℕ, ◌-◌, ◌*◌, ltb}
use Rattle.combinatorics.specs.Bursts.{apart}
use Rattle.combinatorics.specs.Examples.{Example, example, comes_true}
use Rattle.combinatorics.specs.Lists.{all, same_list}
use Rattle.combinatorics.specs.Stretch.{bit, count, sum}
use Rattle.cells.specs.Digits.{span, places}
use Rattle.cells.specs.Figures.{Params, params, placement_count_of, least_tail}
use Rattle.construction_a.specs.Figures.{block_min, index_tail_of}
use Rattle.construction_a.specs.Writing.{index_blocks}

abbrev f : Params
f = params 60 17 2 10

-- the reduced count: the placements in a word that is shorter by m blocks of the least length, those of the I-blocks
abbrev reduced : ℕ
reduced = placement_count_of (params (f.n - f.m * block_min f) f.q f.m f.b)

-- the placements whose I-blocks are these blocks
abbrev sharing : List ℕ → ℕ
sharing ks = sum f.n 0 (λ s. count f.n 0 (λ t. apart f.b f.n 0 (s ∷ t ∷ []) && same_list (index_blocks f (s ∷ t ∷ [])) ks))

unfoldable pub reduced_count : List Example
reduced_count =
    -- "With n 60, q 17, m 2, b 10 it gives 231 and r 0, .."
    example (reduced ∷ least_tail f.q f.m reduced (block_min f) ∷ []) (231 ∷ 0 ∷ [])
    -- ".. yet 410 placements share the first part as their I-blocks, .."
    ∷ example (sharing (0 ∷ 1 ∷ []) ∷ []) (410 ∷ [])
    -- ".. and two symbols other than the fixed one spell 256 values.": fewer
    ∷ example (span f.q (places f.m 0) ∷ []) (256 ∷ [])
    ∷ example (bit (ltb (span f.q (places f.m 0)) (sharing (0 ∷ 1 ∷ []))) ∷ []) (1 ∷ [])
    -- T itself, and its r
    ∷ example (placement_count_of f ∷ index_tail_of f ∷ []) (861 ∷ 1 ∷ [])
    ∷ []

abbrev pub ReducedCountHolds : Type 0
ReducedCountHolds = all comes_true reduced_count ≡ true
