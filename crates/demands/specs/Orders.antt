-- "Orders: ..": the numbers that each call can refuse with, in document 01's order; document 02, ticket 3: 17, "itself a state refusal and ahead of the
-- others"; ticket 7: 20, "after 1"; ticket 10: 23, "after 12 and before 14", and 24, "after 12"; ticket 5: 18; ticket 6: 19;
-- ticket 8: 21; ticket 2: 16; ticket 9: 22. Where lent bytes add a refusal, it stands at its place. Which of them comes first is seen in the outcomes.
-- Assumes nothing.
use Rattle.std.specs.Prelude.{List, [], ◌∷◌, ◌++◌, ℕ}
use Rattle.std.proofs.Math.Option.{Option, none, some}
use Rattle.refusals.specs.Refusals.{invalid, unfit, wrong_length, bad_symbol, bad_starts, uncovered, bad_payload, bad_record, bad_prescription, bad_depth, surplus_bytes, job_cancelled, already_open, not_open, table_full}
use Rattle.refusals.specs.Refusals.{number_zero, not_cancelled, job_held, not_held}
use Rattle.codes.specs.declared.Figures.{Figures}
use Rattle.codes.specs.Bridge.{coding_of}
use Rattle.jobs.specs.Jobs.{Kind, opening, cancelling, finishing, reinstating, holding, releasing}

-- "figures alone 1 2"
abbrev pub figures_alone : List ℕ
figures_alone = invalid ∷ unfit ∷ []

-- into lent numbers: 3 where there are other than four
abbrev pub lent_figures : List ℕ
lent_figures = invalid ∷ unfit ∷ wrong_length ∷ []

-- "word write 1 2 3 5 4"
abbrev pub word_write : List ℕ
word_write = invalid ∷ unfit ∷ wrong_length ∷ bad_starts ∷ bad_symbol ∷ []

-- "covering 1 2 3 4 6"
abbrev pub covering : List ℕ
covering = invalid ∷ unfit ∷ wrong_length ∷ bad_symbol ∷ uncovered ∷ []

-- what a code's reader refuses a found word with: 7 19 8 9 19, or 21 8 9 19
abbrev pub own_of : Figures → List ℕ
own_of f = (coding_of f).codec.word_refusals

-- "word read 1 2 3 4 7 8 9", with the code's own in the place of 7 8 9
abbrev pub word_read : List ℕ → List ℕ
word_read own = invalid ∷ unfit ∷ wrong_length ∷ bad_symbol ∷ own

-- document 02, "Strips side by side": 18 "right after 2 and before 3 and 4"
abbrev pub rearrangement : List ℕ
rearrangement = invalid ∷ unfit ∷ bad_depth ∷ wrong_length ∷ bad_symbol ∷ []

-- "job write 1 2 10 3 5 12 14", with 17 before 12 and 23 before 14
abbrev pub job_write : List ℕ
job_write = invalid ∷ unfit ∷ bad_payload ∷ wrong_length ∷ bad_starts ∷ number_zero ∷ job_cancelled ∷ job_held ∷ not_open ∷ []

-- "job read 1 2, 10 for K, 3 4 7 8 9, 10, 12 14", likewise, and 23 before 14
abbrev pub job_read : List ℕ → List ℕ
job_read own = invalid ∷ unfit ∷ bad_payload ∷ wrong_length ∷ bad_symbol ∷ (own ++ bad_payload ∷ job_cancelled ∷ job_held ∷ not_open ∷ [])

-- document 02, "Moving the racks over", once a word is accepted: the reader's "10, 12 14" with 23 before 14, then "22, after the reader's refusals and before
-- the writer's 17"
abbrev pub move_accepted : List ℕ
move_accepted = bad_payload ∷ job_cancelled ∷ job_held ∷ not_open ∷ surplus_bytes ∷ number_zero ∷ []

-- 1 2 10 3 4 and the reader's own before
abbrev pub moving : List ℕ → List ℕ
moving own = invalid ∷ unfit ∷ bad_payload ∷ wrong_length ∷ bad_symbol ∷ (own ++ move_accepted)

-- document 02, "The prescription on the tray": 16 "after all other input refusals"; alone where a value in memory or a text is all that is given
abbrev pub prescription_alone : List ℕ
prescription_alone = bad_prescription ∷ []

abbrev pub prescription_write : List ℕ
prescription_write =
    invalid ∷ unfit ∷ bad_payload ∷ wrong_length ∷ bad_starts ∷ bad_prescription ∷ number_zero ∷ job_cancelled ∷ job_held ∷ not_open ∷ []

abbrev pub prescription_read : List ℕ → List ℕ
prescription_read own =
    invalid ∷ unfit ∷ bad_payload ∷ wrong_length ∷ bad_symbol ∷ (own ++ bad_payload ∷ bad_prescription ∷ job_cancelled ∷ job_held ∷ not_open ∷ [])

-- transposing and the spherical equivalent into lent buffers: 3 for their lengths before
abbrev pub prescription_lent : List ℕ
prescription_lent = wrong_length ∷ prescription_alone

-- "open 1 12 13 15; cancel 1 12 15; finish 1 12 14", with 17 before 12 in the first two and 23 before 14 in the third; reinstate 1 20; hold 1 12 23 14;
-- release 1 12 24
abbrev pub call : Kind → List ℕ
call opening = invalid ∷ number_zero ∷ job_cancelled ∷ already_open ∷ table_full ∷ []
call cancelling = invalid ∷ number_zero ∷ job_cancelled ∷ table_full ∷ []
call finishing = invalid ∷ job_cancelled ∷ job_held ∷ not_open ∷ []
call reinstating = invalid ∷ not_cancelled ∷ []
call holding = invalid ∷ job_cancelled ∷ job_held ∷ not_open ∷ []
call releasing = invalid ∷ job_cancelled ∷ not_held ∷ []

-- a call by its letter: 11 for a letter that is no call's
abbrev pub call_by_letter : Option Kind → List ℕ
call_by_letter none = bad_record ∷ []
call_by_letter (some k) = call k

-- a call on a table in bytes: 3 before all
abbrev pub call_on_bytes : Kind → List ℕ
call_on_bytes k = wrong_length ∷ call k

-- a list of calls: 3 for lists of other lengths, 11 for a letter
abbrev pub list_of_calls : List ℕ
list_of_calls = wrong_length ∷ bad_record ∷ []
