-- The lines that the transfer program prints, as ASCII codes. Assumes nothing.
use Rattle.std.specs.Prelude.{List, [], ◌∷◌, ◌++◌, ℕ, ◌+◌, ◌*◌}
use Rattle.refusals.specs.Refusals.{served, bad_record}
use Rattle.cells.specs.Figures.{max_word}
use Rattle.text.specs.Text.{decimal}

-- the letters S, W and R, and L (document 02, ticket 1); O, C and F are those of calls
abbrev pub letter_s : ℕ
letter_s = 83

abbrev pub letter_l : ℕ
letter_l = 76

abbrev pub letter_w : ℕ
letter_w = 87

abbrev pub letter_r : ℕ
letter_r = 82

-- the characters between fields and behind a line
abbrev pub space : ℕ
space = 32

abbrev pub line_feed : ℕ
line_feed = 10

-- "fields parted by one space": each behind a space, and the line's end
abbrev pub spaced : List (List ℕ) → List ℕ
spaced [] = line_feed ∷ []
spaced (t ∷ ts) = space ∷ (t ++ spaced ts)

-- the letter, and what stands behind it
abbrev pub line : ℕ → List (List ℕ) → List ℕ
line letter fields = letter ∷ spaced fields

-- "the letter, 0 or the refusal"
abbrev pub refusal_line : ℕ → ℕ → List ℕ
refusal_line letter a = line letter (decimal a ∷ [])

-- .. and what comes behind the 0 of an accepted record
abbrev pub served_line : ℕ → List (List ℕ) → List ℕ
served_line letter fields = line letter (decimal served ∷ fields)

-- prints "stop 11"
abbrev pub stop_line : List ℕ
stop_line = 115 ∷ 116 ∷ 111 ∷ 112 ∷ spaced (decimal bad_record ∷ [])

-- prints "end"
abbrev pub end_line : List ℕ
end_line = 101 ∷ 110 ∷ 100 ∷ line_feed ∷ []

-- room for the longest line: a word or a payload in hex, and six characters more
abbrev pub max_line : ℕ
max_line = 2 * max_word + 6
