-- Document 01's example of the transfer program, input and printed lines in full, with a few inputs more. They hold by `rows-hold` of
-- proofs/Example.antt. Assumes nothing.
use Rattle.std.specs.Prelude.{◌≡◌, true, List, [], ◌∷◌, ◌++◌, ℕ}
use Rattle.combinatorics.specs.Examples.{Example, example, comes_true}
use Rattle.combinatorics.specs.Lists.{all}
use Rattle.lines.specs.Lines.{line, end_line}
use Rattle.transfer.specs.Program.{printed}

-- "4C54 53 000F FF 01 0002"
abbrev record_s : List ℕ
record_s = 76 ∷ 84 ∷ 83 ∷ 0 ∷ 15 ∷ 255 ∷ 1 ∷ 0 ∷ 2 ∷ []

-- "4C54 4F 00000007"
abbrev record_o : List ℕ
record_o = 76 ∷ 84 ∷ 79 ∷ 0 ∷ 0 ∷ 0 ∷ 7 ∷ []

-- "4C54 57 0006 0000000741424344454647"
abbrev record_w : List ℕ
record_w = 76 ∷ 84 ∷ 87 ∷ 0 ∷ 6 ∷ 0 ∷ 0 ∷ 0 ∷ 7 ∷ 65 ∷ 66 ∷ 67 ∷ 68 ∷ 69 ∷ 70 ∷ 71 ∷ []

-- "4C54 52 000000000741FFFF42430744454647"
abbrev record_r : List ℕ
record_r = 76 ∷ 84 ∷ 82 ∷ 0 ∷ 0 ∷ 0 ∷ 0 ∷ 7 ∷ 65 ∷ 255 ∷ 255 ∷ 66 ∷ 67 ∷ 7 ∷ 68 ∷ 69 ∷ 70 ∷ 71 ∷ []

-- "4C54 43 00000007"
abbrev record_c : List ℕ
record_c = 76 ∷ 84 ∷ 67 ∷ 0 ∷ 0 ∷ 0 ∷ 7 ∷ []

-- ".. the R record again; the O record again."
unfoldable pub example_input : List ℕ
example_input = record_s ++ record_o ++ record_w ++ record_r ++ record_c ++ record_r ++ record_o

-- an S with q 1
abbrev refused_s : List ℕ
refused_s = 76 ∷ 84 ∷ 83 ∷ 0 ∷ 15 ∷ 0 ∷ 1 ∷ 0 ∷ 2 ∷ []

-- an O, a C and a W of number 0
abbrev zero_o : List ℕ
zero_o = 76 ∷ 84 ∷ 79 ∷ 0 ∷ 0 ∷ 0 ∷ 0 ∷ []

abbrev zero_c : List ℕ
zero_c = 76 ∷ 84 ∷ 67 ∷ 0 ∷ 0 ∷ 0 ∷ 0 ∷ []

abbrev zero_w : List ℕ
zero_w = 76 ∷ 84 ∷ 87 ∷ 0 ∷ 6 ∷ 0 ∷ 0 ∷ 0 ∷ 0 ∷ 65 ∷ 66 ∷ 67 ∷ 68 ∷ 69 ∷ 70 ∷ 71 ∷ []

-- document 02, ticket 1: "letter L carries n (2 bytes), q−1 (1) and b (2)": n 15, q 256, b 5
abbrev record_l : List ℕ
record_l = 76 ∷ 84 ∷ 76 ∷ 0 ∷ 15 ∷ 255 ∷ 0 ∷ 5 ∷ []

-- with q 1
abbrev refused_l : List ℕ
refused_l = 76 ∷ 84 ∷ 76 ∷ 0 ∷ 15 ∷ 0 ∷ 0 ∷ 5 ∷ []

-- a W and an R that follow it: one start, and a payload of 8 bytes; the burst's symbols are 255
abbrev long_w : List ℕ
long_w = 76 ∷ 84 ∷ 87 ∷ 0 ∷ 6 ∷ 0 ∷ 0 ∷ 0 ∷ 7 ∷ 65 ∷ 66 ∷ 67 ∷ 68 ∷ []

abbrev long_r : List ℕ
long_r = 76 ∷ 84 ∷ 82 ∷ 1 ∷ 0 ∷ 0 ∷ 0 ∷ 7 ∷ 0 ∷ 255 ∷ 255 ∷ 255 ∷ 255 ∷ 255 ∷ 65 ∷ 66 ∷ 67 ∷ 68 ∷ []

-- 010000000700000000000041424344
abbrev long_text : List ℕ
long_text = 48 ∷ 49 ∷ 48 ∷ 48 ∷ 48 ∷ 48 ∷ 48 ∷ 48 ∷ 48 ∷ 55 ∷ 48 ∷ 48 ∷ 48 ∷ 48 ∷ 48 ∷ 48 ∷ 48 ∷ 48 ∷ 48 ∷ 48 ∷ 48 ∷ 48 ∷ 52 ∷ 49 ∷ 52 ∷ 50 ∷ 52 ∷ 51 ∷ 52 ∷
    52 ∷ []

-- 000000000741000042430744454647
abbrev word_text : List ℕ
word_text = 48 ∷ 48 ∷ 48 ∷ 48 ∷ 48 ∷ 48 ∷ 48 ∷ 48 ∷ 48 ∷ 55 ∷ 52 ∷ 49 ∷ 48 ∷ 48 ∷ 48 ∷ 48 ∷ 52 ∷ 50 ∷ 52 ∷ 51 ∷ 48 ∷ 55 ∷ 52 ∷ 52 ∷ 52 ∷ 53 ∷ 52 ∷ 54 ∷ 52 ∷
    55 ∷ []

-- "Printed in full", line by line
unfoldable pub example_printed : List ℕ
example_printed =
    -- S 0 14 0 11
    (83 ∷ 32 ∷ 48 ∷ 32 ∷ 49 ∷ 52 ∷ 32 ∷ 48 ∷ 32 ∷ 49 ∷ 49 ∷ 10 ∷ [])
    -- O 0
    ++ (79 ∷ 32 ∷ 48 ∷ 10 ∷ [])
    -- W 0 000000000741000042430744454647
    ++ (87 ∷ 32 ∷ 48 ∷ 32 ∷ 48 ∷ 48 ∷ 48 ∷ 48 ∷ 48 ∷ 48 ∷ 48 ∷ 48 ∷ 48 ∷ 55 ∷ 52 ∷ 49 ∷ 48 ∷ 48 ∷ 48 ∷ 48 ∷ 52 ∷ 50 ∷ 52 ∷ 51 ∷ 48 ∷ 55 ∷ 52 ∷ 52 ∷ 52 ∷ 53
    ∷ 52 ∷ 54 ∷ 52 ∷ 55 ∷ 10 ∷ [])
    -- R 0 00000007 41424344454647
    ++ (82 ∷ 32 ∷ 48 ∷ 32 ∷ 48 ∷ 48 ∷ 48 ∷ 48 ∷ 48 ∷ 48 ∷ 48 ∷ 55 ∷ 32 ∷ 52 ∷ 49 ∷ 52 ∷ 50 ∷ 52 ∷ 51 ∷ 52 ∷ 52 ∷ 52 ∷ 53 ∷ 52 ∷ 54 ∷ 52 ∷ 55 ∷ 10 ∷ [])
    -- C 0
    ++ (67 ∷ 32 ∷ 48 ∷ 10 ∷ [])
    -- R 12
    ++ (82 ∷ 32 ∷ 49 ∷ 50 ∷ 10 ∷ [])
    -- O 12
    ++ (79 ∷ 32 ∷ 49 ∷ 50 ∷ 10 ∷ [])
    -- end
    ++ (101 ∷ 110 ∷ 100 ∷ 10 ∷ [])

-- stop 11
abbrev stop_text : List ℕ
stop_text = 115 ∷ 116 ∷ 111 ∷ 112 ∷ 32 ∷ 49 ∷ 49 ∷ 10 ∷ []

-- the example, and inputs that no line of it shows
unfoldable pub rows : List Example
rows =
    example (printed example_input) example_printed
    -- "end of input prints "end""
    ∷ example (printed []) end_line
    -- "A wrong mark, unknown letter": 4C 55, and X
    ∷ example (printed (76 ∷ 85 ∷ 79 ∷ 0 ∷ 0 ∷ 0 ∷ 7 ∷ [])) stop_text
    ∷ example (printed (76 ∷ 84 ∷ 88 ∷ 0 ∷ 0 ∷ 0 ∷ 7 ∷ [])) stop_text
    -- "cut record": within the mark, and within the number
    ∷ example (printed (76 ∷ [])) stop_text
    ∷ example (printed (76 ∷ 84 ∷ 79 ∷ 0 ∷ 0 ∷ 0 ∷ [])) stop_text
    -- "prints "stop 11" and ends": no "end" behind it
    ∷ example (printed (record_o ++ 76 ∷ [])) (line 79 ((48 ∷ []) ∷ []) ++ stop_text)
    -- "W or R before an accepted S"
    ∷ example (printed record_w) stop_text
    ∷ example (printed record_r) stop_text
    -- "A refused S keeps the former figures": q 1 is refused with 1, and W is served after it
    ∷ example (printed (record_s ++ refused_s ++ record_o ++ record_w))
    (line 83 ((48 ∷ []) ∷ (49 ∷ 52 ∷ []) ∷ (48 ∷ []) ∷ (49 ∷ 49 ∷ []) ∷ []) ++ line 83 ((49 ∷ []) ∷ []) ++ line 79 ((48 ∷ []) ∷ [])
    ++ line 87 ((48 ∷ []) ∷ word_text ∷ []) ++ end_line)
    -- The table "outlasts an S"
    ∷ example (printed (record_o ++ record_s ++ record_o))
    (line 79 ((48 ∷ []) ∷ []) ++ line 83 ((48 ∷ []) ∷ (49 ∷ 52 ∷ []) ∷ (48 ∷ []) ∷ (49 ∷ 49 ∷ []) ∷ []) ++ line 79 ((49 ∷ 51 ∷ []) ∷ []) ++ end_line)
    -- document 02, ticket 3: "the opening or writing of 0 and the cancelling of a 0 that the book doesn't hold"
    ∷ example (printed (zero_o ++ zero_c ++ record_s ++ zero_w))
    (line 79 ((49 ∷ 55 ∷ []) ∷ []) ++ line 67 ((49 ∷ 55 ∷ []) ∷ []) ++ line 83 ((48 ∷ []) ∷ (49 ∷ 52 ∷ []) ∷ (48 ∷ []) ∷ (49 ∷ 49 ∷ []) ∷ [])
    ++ line 87 ((49 ∷ 55 ∷ []) ∷ []) ++ end_line)
    -- ticket 1: "it prints as S does, T being n − b + 1, and later W and R records follow it"
    ∷ example (printed (record_l ++ record_o ++ long_w ++ long_r))
    (line 76 ((48 ∷ []) ∷ (49 ∷ 49 ∷ []) ∷ (48 ∷ []) ∷ (56 ∷ []) ∷ []) ++ line 79 ((48 ∷ []) ∷ []) ++ line 87 ((48 ∷ []) ∷ long_text ∷ [])
    ++ line 82 ((48 ∷ []) ∷ (48 ∷ 48 ∷ 48 ∷ 48 ∷ 48 ∷ 48 ∷ 48 ∷ 55 ∷ []) ∷ (52 ∷ 49 ∷ 52 ∷ 50 ∷ 52 ∷ 51 ∷ 52 ∷ 52 ∷ []) ∷ []) ++ end_line)
    -- "until the next accepted S or L"
    ∷ example (printed (record_l ++ record_s ++ record_o ++ record_w))
    (line 76 ((48 ∷ []) ∷ (49 ∷ 49 ∷ []) ∷ (48 ∷ []) ∷ (56 ∷ []) ∷ []) ++ line 83 ((48 ∷ []) ∷ (49 ∷ 52 ∷ []) ∷ (48 ∷ []) ∷ (49 ∷ 49 ∷ []) ∷ [])
    ++ line 79 ((48 ∷ []) ∷ []) ++ line 87 ((48 ∷ []) ∷ word_text ∷ []) ++ end_line)
    -- "A refused L keeps the former figures"
    ∷ example (printed (record_s ++ refused_l ++ record_o ++ record_w))
    (line 83 ((48 ∷ []) ∷ (49 ∷ 52 ∷ []) ∷ (48 ∷ []) ∷ (49 ∷ 49 ∷ []) ∷ []) ++ line 76 ((49 ∷ []) ∷ []) ++ line 79 ((48 ∷ []) ∷ [])
    ++ line 87 ((48 ∷ []) ∷ word_text ∷ []) ++ end_line)
    -- an L that is cut
    ∷ example (printed (76 ∷ 84 ∷ 76 ∷ 0 ∷ 15 ∷ 255 ∷ 0 ∷ [])) stop_text
    ∷ []

abbrev pub RowsHold : Type 0
RowsHold = all comes_true rows ≡ true
