-- The refusal numbers of documents 01 and 02 under their names, and how an order of refusals is written. Assumes nothing.
use Rattle.std.specs.Prelude.{Bool, true, false, List, [], ◌∷◌, ℕ}

-- "Each call answers as the ledger does, 0 for accepted."
abbrev pub served : ℕ
served = 0

-- ---- From the input

-- "1: a figure out of range, or a book with one number twice."
abbrev pub invalid : ℕ
invalid = 1

-- "2: figures don't fit." Document 02, ticket 8: "Runs and sub-blocks must each fit in n, and b is at most the shortest gap plus 1, else 2"; ticket 9: "Both
-- layouts must fit, else 2"
abbrev pub unfit : ℕ
unfit = 2

-- "3: a lent list, placement or buffer has another length than its figures give."
abbrev pub wrong_length : ℕ
wrong_length = 3

-- "4: a symbol of q or more, or a map byte above 1." Document 02, ticket 6: "Refusal 4 is, in reading and in taking lanes apart, for values above q"
abbrev pub bad_symbol : ℕ
bad_symbol = 4

-- "5: starts too close, descending, or past the end."
abbrev pub bad_starts : ℕ
bad_starts = 5

-- "6: no placement covers the map."
abbrev pub uncovered : ℕ
uncovered = 6

-- "7: first symbols in no listed pattern."
abbrev pub no_pattern : ℕ
no_pattern = 7

-- "8: the written value is T or more."
abbrev pub value_too_large : ℕ
value_too_large = 8

-- "9: the placement disagrees with the I- or F-blocks." Document 02, ticket 8: "a placement whose first m + 1 untouched sub-blocks don't all hold it is 9"
abbrev pub disagrees : ℕ
disagrees = 9

-- "10: K below 5, a byte's symbols spelling 256 or more, or a leftover symbol not 0." Document 02, ticket 9: "both payloads have 5 bytes or more, else 10"
abbrev pub bad_payload : ℕ
bad_payload = 10

-- "11: record unreadable, or one too many."
abbrev pub bad_record : ℕ
bad_record = 11

-- document 02, ticket 2: "The prescription calls refuse with 16, after all other input refusals, any text or value in memory outside these rules (minus zero
-- and a part of an eighth included) or a payload below 17 bytes."
abbrev pub bad_prescription : ℕ
bad_prescription = 16

-- "It refuses with 18, .., a depth outside 1 to 16." (02, 5)
abbrev pub bad_depth : ℕ
bad_depth = 18

-- "It refuses with 19 a q in an I-block's first r + 1 symbols, .., and a q among message symbols" (02, 6)
abbrev pub erased : ℕ
erased = 19

-- "It refuses with 21, in the place of 7, a word with no such majority." (02, 8)
abbrev pub no_majority : ℕ
no_majority = 21

-- "It refuses with 22, .., a payload whose surplus bytes aren't all zero." (02, 9)
abbrev pub surplus_bytes : ℕ
surplus_bytes = 22

-- ---- From the state

-- "12: number cancelled."
abbrev pub job_cancelled : ℕ
job_cancelled = 12

-- "13: already open."
abbrev pub already_open : ℕ
already_open = 13

-- "14: not open."
abbrev pub not_open : ℕ
not_open = 14

-- "15: 64 numbers held and a new one needed."
abbrev pub table_full : ℕ
table_full = 15

-- document 02, ticket 3: "It refuses with 17, itself a state refusal .., the opening or writing of 0 and the cancelling of a 0 that the book doesn't hold."
abbrev pub number_zero : ℕ
number_zero = 17

-- document 02, ticket 7: "It refuses with 20, after 1, a number that isn't cancelled."
abbrev pub not_cancelled : ℕ
not_cancelled = 20

-- document 02, ticket 10: "It refuses with 23, after 12 and before 14, reading, writing, finishing or holding a held job"
abbrev pub job_held : ℕ
job_held = 23

-- document 02, ticket 10: ".. and with 24, after 12, releasing one that isn't held."
abbrev pub not_held : ℕ
not_held = 24

-- ---- What a reader refuses a found word with, in order, once its length and its values are right

-- "word read .. 7 8 9"; document 02, ticket 6: 19 "between 7 and 8", and "after 9"
abbrev pub pattern_refusals : List ℕ
pattern_refusals = no_pattern ∷ erased ∷ value_too_large ∷ disagrees ∷ erased ∷ []

-- document 02, ticket 8: "21, in the place of 7"; "A value of T or more is 8; .. is 9; a silent cell in the message is 19."
abbrev pub majority_refusals : List ℕ
majority_refusals = no_majority ∷ value_too_large ∷ disagrees ∷ erased ∷ []

-- ---- All

-- both lists
abbrev pub refusals : List ℕ
refusals =
    invalid ∷ unfit ∷ wrong_length ∷ bad_symbol ∷ bad_starts ∷ uncovered ∷ no_pattern ∷ value_too_large ∷ disagrees ∷ bad_payload ∷ bad_record
    ∷ bad_prescription ∷ bad_depth ∷ erased ∷ no_majority ∷ surplus_bytes
    ∷ job_cancelled ∷ already_open ∷ not_open ∷ table_full ∷ number_zero ∷ not_cancelled ∷ job_held ∷ not_held ∷ []

-- An order of refusals, "1 2 3 ..", reads downward: where a test fails the outcome is `else`, and otherwise the next test decides.
abbrev pub must : {A : Type 0} → Bool → A → A → A
must true else rest = rest
must false else rest = else
