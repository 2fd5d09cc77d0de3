-- Worked examples of moving as one table: n 11, q 256, m 2, b 1, where the Larsson code's payload has 6 bytes and Construction A's 5; and n 30, q 16, m 1,
-- b 3, where they have 11 and 12, and Construction B's 12. The proof is `examples-hold` of proofs/Examples.antt. Assumes nothing.
use Rattle.std.specs.Prelude.{◌≡◌, true, List, [], ◌∷◌, ◌++◌, ℕ, replicate}
use Rattle.combinatorics.specs.Examples.{Example, example, comes_true}
use Rattle.combinatorics.specs.Lists.{all}
use Rattle.cells.specs.Figures.{Params, params}
use Rattle.cells.specs.Outcomes.{Coding, Encoded}
use Rattle.construction_a.specs.DemandTwo.{construction_a}
use Rattle.construction_a.specs.Outcomes.{coding as coding_a}
use Rattle.construction_b.specs.Figures.{LongParams, long_params}
use Rattle.construction_b.specs.DemandTwo.{construction_b}
use Rattle.construction_b.specs.Outcomes.{coding as coding_b}
use Rattle.larsson.specs.DemandTwo.{larsson}
use Rattle.larsson.specs.Outcomes.{coding as coding_larsson}
use Rattle.jobs.specs.declared.Entry.{Entry}
use Rattle.jobs.specs.declared.Entry.TheVariants.{Free, Open, OnHold, Cancelled}
use Rattle.jobs.specs.declared.Before.TheVariants.{WasOpen}
use Rattle.moving.specs.Move.{payload_bytes, move_under, to_construction_a, to_larsson}

abbrev figures : Params
figures = params 11 256 2 1

abbrev hex_figures : Params
hex_figures = params 30 16 1 3

-- the same under Construction B
abbrev long_figures : LongParams
long_figures = long_params 30 16 3

abbrev sample_table : List Entry
sample_table = Open 7 ∷ Cancelled 9 WasOpen ∷ Open 0 ∷ OnHold 8 ∷ Free ∷ []

-- the answer, then the lent word, which held 1
abbrev shown : Encoded → List ℕ
shown e = e.answer ∷ e.word

abbrev unchanged : ℕ → List ℕ
unchanged n = replicate n 1

-- a strip of the Larsson code with runs at 2 and 7, spoilt there, whose payload is 0 0 0, the number, 65 and a last byte
abbrev older : ℕ → ℕ → List ℕ
older number last = 23 ∷ 0 ∷ 255 ∷ 0 ∷ 23 ∷ 0 ∷ number ∷ 255 ∷ 65 ∷ last ∷ 23 ∷ []

-- and one of Construction A, with a symbol in both runs
abbrev newer : ℕ → ℕ → List ℕ
newer spoilt last = 0 ∷ 0 ∷ spoilt ∷ 1 ∷ 0 ∷ 24 ∷ 0 ∷ spoilt ∷ 7 ∷ 0 ∷ last ∷ []

-- a strip of the Larsson code with a run at 4, by what is in it and in the three sub-blocks: two have the rank, and the third the payload's last symbol
-- and a leftover; job 7, and text 65 to 71
abbrev hex_older : ℕ → List ℕ → List ℕ → List ℕ → List ℕ
hex_older spoilt first second third =
    first ++ (0 ∷ 0 ∷ spoilt ∷ spoilt ∷ spoilt ∷ 0 ∷ 0 ∷ 0 ∷ 0 ∷ 0 ∷ 7 ∷ 4 ∷ []) ++ second
    ++ (1 ∷ 4 ∷ 2 ∷ 4 ∷ 3 ∷ 4 ∷ 4 ∷ 4 ∷ 5 ∷ 4 ∷ 6 ∷ 4 ∷ []) ++ third

-- the same job in one of Construction A, by what is in the run, the I-block's first symbols, and the last byte
abbrev hex_newer : ℕ → List ℕ → List ℕ → List ℕ
hex_newer spoilt index last =
    (0 ∷ 0 ∷ 0 ∷ 0 ∷ spoilt ∷ spoilt ∷ spoilt ∷ 0 ∷ 0 ∷ 0 ∷ []) ++ index
    ++ (7 ∷ 4 ∷ 1 ∷ 4 ∷ 2 ∷ 4 ∷ 3 ∷ 4 ∷ 0 ∷ 4 ∷ 4 ∷ 5 ∷ 4 ∷ 6 ∷ 4 ∷ 7 ∷ []) ++ last

-- and in one of Construction B: the I part's head says that the run ends at 6, and a leftover is behind the last byte
abbrev hex_long : ℕ → ℕ → List ℕ → List ℕ
hex_long spoilt head last =
    (0 ∷ 0 ∷ 0 ∷ 0 ∷ spoilt ∷ spoilt ∷ spoilt ∷ 0 ∷ 0 ∷ 0 ∷ head ∷ [])
    ++ (7 ∷ 4 ∷ 1 ∷ 4 ∷ 2 ∷ 4 ∷ 3 ∷ 4 ∷ 4 ∷ 0 ∷ 4 ∷ 5 ∷ 4 ∷ 6 ∷ 4 ∷ 7 ∷ []) ++ last

abbrev rank4 : List ℕ
rank4 = 0 ∷ 4 ∷ []

abbrev index4 : List ℕ
index4 = 1 ∷ 4 ∷ []

abbrev ending : List ℕ
ending = 7 ∷ 0 ∷ []

abbrev to_hex_a : List ℕ → List ℕ
to_hex_a w = shown (to_construction_a hex_figures sample_table w (unchanged 30))

abbrev to_hex_larsson : List ℕ → List ℕ
to_hex_larsson w = shown (to_larsson hex_figures sample_table w (unchanged 30))

abbrev long_to : Coding → List ℕ → List ℕ
long_to e w = shown (move_under (coding_b long_figures) e sample_table w (unchanged 30))

unfoldable pub examples : List Example
examples =
    example (payload_bytes (larsson figures) ∷ payload_bytes (construction_a figures) ∷ []) (6 ∷ 5 ∷ [])
    -- there, and back: "the longer payload ends in zero bytes"
    ∷ example (shown (to_construction_a figures sample_table (older 7 0) (unchanged 11))) (0 ∷ newer 0 65)
    ∷ example (shown (to_larsson figures sample_table (newer 200 65) (unchanged 11))) (0 ∷ 23 ∷ 0 ∷ 0 ∷ 0 ∷ 23 ∷ 0 ∷ 7 ∷ 0 ∷ 65 ∷ 0 ∷ 23 ∷ [])
    -- "22, after the reader's refusals and before the writer's 17"
    ∷ example (shown (to_construction_a figures sample_table (older 7 66) (unchanged 11))) (22 ∷ unchanged 11)
    ∷ example (shown (to_construction_a figures sample_table (older 0 66) (unchanged 11))) (22 ∷ unchanged 11)
    ∷ example (shown (to_construction_a figures sample_table (older 0 0) (unchanged 11))) (17 ∷ unchanged 11)
    ∷ example (shown (to_construction_a figures sample_table (older 9 66) (unchanged 11))) (12 ∷ unchanged 11)
    ∷ example (shown (to_construction_a figures sample_table (older 8 66) (unchanged 11))) (23 ∷ unchanged 11)
    ∷ example (shown (to_construction_a figures sample_table (older 5 66) (unchanged 11))) (14 ∷ unchanged 11)
    -- there, and back, where Construction A's payload is the longer; 22 on the way back
    ∷ example (payload_bytes (larsson hex_figures) ∷ payload_bytes (construction_a hex_figures) ∷ []) (11 ∷ 12 ∷ [])
    ∷ example (to_hex_a (hex_older 16 rank4 rank4 ending)) (0 ∷ hex_newer 0 index4 (0 ∷ 0 ∷ []))
    ∷ example (to_hex_larsson (hex_newer 16 index4 (0 ∷ 0 ∷ []))) (0 ∷ hex_older 0 rank4 rank4 ending)
    ∷ example (to_hex_larsson (hex_newer 0 index4 (4 ∷ 8 ∷ []))) (22 ∷ unchanged 30)
    -- a book with a number twice; figures that fit Construction A alone, and the Larsson code alone; 4 bytes in Construction A, 5 in the Larsson code
    ∷ example (shown (to_construction_a hex_figures (Open 7 ∷ Open 7 ∷ []) (hex_older 0 rank4 rank4 ending) (unchanged 30))) (1 ∷ unchanged 30)
    ∷ example (shown (to_construction_a (params 6 5 2 1) sample_table (unchanged 6) (unchanged 6))) (2 ∷ unchanged 6)
    ∷ example (shown (to_larsson (params 3 2 3 1) sample_table (unchanged 3) (unchanged 3))) (2 ∷ unchanged 3)
    ∷ example (shown (to_construction_a (params 10 256 2 1) sample_table (unchanged 10) (unchanged 10))) (10 ∷ unchanged 10)
    -- either lent strip too short; a symbol above q
    ∷ example (shown (to_construction_a hex_figures sample_table (hex_older 0 rank4 rank4 ending) (unchanged 29))) (3 ∷ unchanged 29)
    ∷ example (shown (to_larsson hex_figures sample_table (older 7 0) (unchanged 30))) (3 ∷ unchanged 30)
    ∷ example (to_hex_a (hex_older 17 rank4 rank4 ending)) (4 ∷ unchanged 30)
    -- the older strip: no majority; a value of T or more; an untouched sub-block without it; a silent cell in the message; a leftover symbol not 0
    ∷ example (to_hex_a (hex_older 0 rank4 index4 ending)) (21 ∷ unchanged 30)
    ∷ example (to_hex_a (hex_older 0 (15 ∷ 15 ∷ []) (15 ∷ 15 ∷ []) ending)) (8 ∷ unchanged 30)
    ∷ example (to_hex_a (hex_older 0 rank4 index4 rank4)) (9 ∷ unchanged 30)
    ∷ example (to_hex_a (hex_older 0 rank4 rank4 (16 ∷ 0 ∷ []))) (19 ∷ unchanged 30)
    ∷ example (to_hex_a (hex_older 0 rank4 rank4 (7 ∷ 1 ∷ []))) (10 ∷ unchanged 30)
    -- the newer: no listed pattern; a silent cell in the I-block; a value of T or more; a placement whose I-block isn't the one read
    ∷ example (to_hex_larsson (hex_newer 0 rank4 (0 ∷ 0 ∷ []))) (7 ∷ unchanged 30)
    ∷ example (to_hex_larsson (hex_newer 0 (1 ∷ 16 ∷ []) (0 ∷ 0 ∷ []))) (19 ∷ unchanged 30)
    ∷ example (to_hex_larsson (hex_newer 0 (15 ∷ 15 ∷ []) (0 ∷ 0 ∷ []))) (8 ∷ unchanged 30)
    ∷ example (to_hex_larsson (hex_newer 0 (1 ∷ 15 ∷ []) (0 ∷ 0 ∷ []))) (9 ∷ unchanged 30)
    -- from Construction B to A, and back
    ∷ example (payload_bytes (construction_b long_figures) ∷ []) (12 ∷ [])
    ∷ example (long_to (coding_a hex_figures) (hex_long 16 7 (0 ∷ 0 ∷ 0 ∷ []))) (0 ∷ hex_newer 0 index4 (0 ∷ 0 ∷ []))
    ∷ example (shown (move_under (coding_a hex_figures) (coding_b long_figures) sample_table (hex_newer 16 index4 (4 ∷ 8 ∷ [])) (unchanged 30)))
    (0 ∷ hex_long 0 7 (4 ∷ 8 ∷ 0 ∷ []))
    -- and to the Larsson code, whose payload is the shorter; a value not below the B part's length
    ∷ example (long_to (coding_larsson hex_figures) (hex_long 16 7 (0 ∷ 0 ∷ 0 ∷ []))) (0 ∷ hex_older 0 rank4 rank4 ending)
    ∷ example (long_to (coding_larsson hex_figures) (hex_long 16 7 (4 ∷ 8 ∷ 0 ∷ []))) (22 ∷ unchanged 30)
    ∷ example (long_to (coding_a hex_figures) (hex_long 16 11 (0 ∷ 0 ∷ 0 ∷ []))) (8 ∷ unchanged 30)
    -- another b, another m; b 11 doesn't fit Construction B, and b 0 is out of range: 1 before 2
    ∷ example (long_to (coding_a (params 30 16 1 4)) (hex_long 16 7 (0 ∷ 0 ∷ 0 ∷ []))) (2 ∷ unchanged 30)
    ∷ example (long_to (coding_a (params 30 16 2 3)) (hex_long 16 7 (0 ∷ 0 ∷ 0 ∷ []))) (2 ∷ unchanged 30)
    ∷ example (long_to (coding_a (params 30 16 1 0)) (hex_long 16 7 (0 ∷ 0 ∷ 0 ∷ []))) (1 ∷ unchanged 30)
    ∷ example (shown (move_under (coding_b (long_params 30 16 11)) (coding_a (params 30 16 1 0)) sample_table (unchanged 30) (unchanged 30))) (1 ∷ unchanged 30)
    ∷ example (shown (move_under (coding_b (long_params 30 16 11)) (coding_a (params 30 16 1 11)) sample_table (unchanged 30) (unchanged 30))) (2 ∷ unchanged 30)
    ∷ []

abbrev pub ExamplesHold : Type 0
ExamplesHold = all comes_true examples ≡ true
