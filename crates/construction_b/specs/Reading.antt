-- Document 02, ticket 1: reading a word of Construction B. Assumes nothing.
use Rattle.std.specs.Prelude.{Bool, not, cond, List, [], ◌∷◌, ℕ, suc, ◌+◌, ◌-◌, leb, ltb, eqb, get_or}
use Rattle.std.proofs.Math.Option.{Option, none, some}
use Rattle.refusals.specs.Refusals.{must, no_pattern, value_too_large, disagrees, erased}
use Rattle.combinatorics.specs.Stretch.{members, tabulate}
use Rattle.cells.specs.Cells.{message, pick}
use Rattle.cells.specs.Codec.{Reading, accepted, refused}
use Rattle.cells.specs.Digits.{value, places}
use Rattle.cells.specs.Erasures.{has_erasure}
use Rattle.cells.specs.Round.{later}
use Rattle.construction_b.specs.Figures.{LongParams, parts, head_of, part_len, index_tail_of}
use Rattle.construction_b.specs.Writing.{plan}

-- the base's "A block starting with 0 looks F", of a part
unfoldable pub looks_fixed : LongParams → List ℕ → ℕ → Bool
looks_fixed f w i = eqb (get_or w (head_of f i) 0) 0

-- the base's patterns: the one part that does not look F, or the later of two "round", is I; none and all three are refused
unfoldable pub index_found : (ℕ → Bool) → Option ℕ
index_found looks = later parts (members parts 0 (λ i. not (looks i)))

-- the part before i "round": the B part of an I part
unfoldable pub before : ℕ → ℕ
before i = cond (eqb i 0) (parts - 1) (i - 1)

-- the first 1 + r symbols of part i
abbrev pub first_symbols : LongParams → List ℕ → ℕ → List ℕ
first_symbols f w i = tabulate (suc (index_tail_of f)) (head_of f i) (λ x. get_or w x 0)

-- what they spell
unfoldable pub written : LongParams → List ℕ → ℕ → ℕ
written f w i = value f.q (places 1 (index_tail_of f)) (first_symbols f w i)

-- one past the last position of a run that ends so far into part e
unfoldable pub end_at : LongParams → ℕ → ℕ → ℕ
end_at f e v = suc (head_of f e + v)

-- "A value not below the B part's length is 8; a run starting before position 0 is 9"; "19 .. a q among message symbols, after 9" (02, 6)
unfoldable pub read_part : LongParams → List ℕ → ℕ → ℕ → Reading
read_part f w e v =
    let s = end_at f e v - f.b in
    must (ltb v (part_len f e)) (refused value_too_large)
    (must (leb f.b (end_at f e v)) (refused disagrees)
    (must (not (has_erasure f.q (pick message (plan f s) w))) (refused erased)
    (accepted (s ∷ []) (pick message (plan f s) w))))

-- "19 a q in an I-block's first r + 1 symbols, between 7 and 8" (02, 6)
abbrev pub read_from : LongParams → List ℕ → Option ℕ → Reading
read_from f w none = refused no_pattern
read_from f w (some i) = must (not (has_erasure f.q (first_symbols f w i))) (refused erased) (read_part f w (before i) (written f w i))

unfoldable pub read : LongParams → List ℕ → Reading
read f w = read_from f w (index_found (looks_fixed f w))
