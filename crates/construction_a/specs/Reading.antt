-- Document 01, "Reading": from a found word to its placement and message; and document 02, "Cells without a reading". Assumes nothing.
use Rattle.std.specs.Prelude.{Bool, not, cond, ◌&&◌, ℕ, zero, suc, ◌+◌, ◌*◌, ltb, eqb, get_or}
use mathlib.Core.List.{List, [], ◌∷◌, flat_map}
use Rattle.std.proofs.Math.Option.{Option, none, some}
use Rattle.combinatorics.specs.Lists.{same_list}
use Rattle.combinatorics.specs.Stretch.{has, members, tabulate, consecutive}
use Rattle.cells.specs.Cells.{message, pick}
use Rattle.cells.specs.Codec.{Reading, accepted, refused}
use Rattle.cells.specs.Digits.{value, places}
use Rattle.cells.specs.Erasures.{has_erasure}
use Rattle.refusals.specs.Refusals.{must, no_pattern, value_too_large, disagrees, erased}
use Rattle.cells.specs.Figures.{Params, placement_count_of, placement_of}
use Rattle.cells.specs.Round.{later}
use Rattle.construction_a.specs.Figures.{parts, blocks, head_of, index_tail_of}
use Rattle.construction_a.specs.Writing.{row, is_fixed, index_blocks, plan}

-- "A block starting with 0 looks F." "As a first symbol such a cell isn't the fixed symbol."
unfoldable pub looks_fixed : Params → List ℕ → ℕ → Bool
looks_fixed f w k = eqb (get_or w (head_of f k) 0) 0

-- ---- The listed patterns, for p parts of m blocks of which some look F

-- the parts without a block that looks F
unfoldable pub bare_parts : ℕ → ℕ → (ℕ → Bool) → List ℕ
bare_parts p m looks = members p 0 (λ i. not (has m 0 (row m looks i)))

abbrev pub within : ℕ → ℕ → Option ℕ → Option ℕ
within m i none = none
within m i (some j) = some (i * m + j)

-- the blocks of part i that don't look F, counted within the part
unfoldable pub open_blocks : ℕ → (ℕ → Bool) → ℕ → List ℕ
open_blocks m looks i = members m 0 (λ j. not (row m looks i j))

-- "in each part the blocks that don't look F are one (it is I), or two, where neighbours give the later and blocks 0 and m − 1 give block 0"
unfoldable pub index_in_part : ℕ → (ℕ → Bool) → ℕ → Option ℕ
index_in_part m looks i = within m i (later m (open_blocks m looks i))

-- one of each, or none where one lacks
abbrev pub cons_both : Option ℕ → Option (List ℕ) → Option (List ℕ)
cons_both none r = none
cons_both (some x) none = none
cons_both (some x) (some xs) = some (x ∷ xs)

unfoldable pub collect : ℕ → ℕ → (ℕ → Option ℕ) → Option (List ℕ)
collect zero k g = some []
collect (suc n) k g = cons_both (g k) (collect n (suc k) g)

-- "One part without such a block: its blocks are I. Two such parts: .. No such part, with m above 2: .. Every other pattern is refused."
abbrev pub index_by : ℕ → ℕ → (ℕ → Bool) → List ℕ → Option ℕ → Option (List ℕ)
index_by p m looks bare (some i) = some (consecutive m (i * m))
index_by p m looks [] none = cond (ltb 2 m) (collect p 0 (index_in_part m looks)) none
index_by p m looks (x ∷ xs) none = none

unfoldable pub index_found : ℕ → ℕ → (ℕ → Bool) → Option (List ℕ)
index_found p m looks = index_by p m looks (bare_parts p m looks) (later p (bare_parts p m looks))

-- ---- From the I-blocks to the answer

-- the first 1 + r symbols of the I-blocks, from left to right
abbrev pub first_symbols_with : ℕ → Params → List ℕ → List ℕ → List ℕ
first_symbols_with r f w ks = flat_map (λ k. tabulate (suc r) (head_of f k) (λ x. get_or w x 0)) ks

unfoldable pub first_symbols : Params → List ℕ → List ℕ → List ℕ
first_symbols f = first_symbols_with (index_tail_of f) f

-- and what they spell
abbrev pub written_with : ℕ → Params → List ℕ → List ℕ → ℕ
written_with r f w ks = value f.q (places f.m r) (first_symbols_with r f w ks)

unfoldable pub written : Params → List ℕ → List ℕ → ℕ
written f w ks = value f.q (places f.m (index_tail_of f)) (first_symbols f w ks)

-- "the I-blocks the rule gives for it must be those read, and each F-block it gives must start with 0"
unfoldable pub agrees : Params → List ℕ → List ℕ → List ℕ → Bool
agrees f w ks ss = same_list (index_blocks f ss) ks && not (has (blocks f) 0 (λ k. is_fixed f ss k && not (looks_fixed f w k)))

-- "Then the rank gives the placement": 8, 9 and, for "a q among message symbols, after 9", 19 are left to refuse with
unfoldable pub read_rank : Params → List ℕ → List ℕ → ℕ → Reading
read_rank f w ks v =
    let ss = placement_of f v in
    let ms = pick message (plan f ss) w in
    must (ltb v (placement_count_of f)) (refused value_too_large)
    (must (agrees f w ks ss) (refused disagrees)
    (must (not (has_erasure f.q ms)) (refused erased)
    (accepted ss ms)))

-- "It refuses with 19 a q in an I-block's first r + 1 symbols, between 7 and 8"
abbrev pub read_from : Params → List ℕ → Option (List ℕ) → Reading
read_from f w none = refused no_pattern
read_from f w (some ks) =
    must (not (has_erasure f.q (first_symbols f w ks))) (refused erased)
    (read_rank f w ks (written f w ks))

unfoldable pub read : Params → List ℕ → Reading
read f w = read_from f w (index_found (parts f) f.m (looks_fixed f w))
