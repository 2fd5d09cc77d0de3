-- What the word reader for C answers, and what its two lent buffers hold afterwards, for every input. Assumes nothing.
use Rattle.std.specs.Prelude.{List, [], ◌∷◌, ℕ, ◌*◌, ◌/◌, ◌%◌, eqb, length}
use Rattle.refusals.specs.Refusals.{must, invalid, unfit, wrong_length}
use Rattle.cells.specs.Bytes.{byte_values}
use Rattle.cells.specs.Outcomes.{Coding, Held, in_use, WordAnswer, rank_is, refusal, answer_number, Decoded, decode_under}
use Rattle.cells.specs.Figures.{Params}
use Rattle.construction_a.specs.Outcomes.{coding}

-- "two lent byte buffers, for k message symbols and for m starts ..; the answer is 0 or the refusal"
pub record Exported : Type 0 where
  pub answer : ℕ
  pub message : List ℕ
  pub starts : List ℕ

abbrev pub lent_as : ℕ → List ℕ → List ℕ → Exported
lent_as a out bytes = record { answer = a; message = out; starts = bytes }

-- "starts of 2 bytes each, high byte first"
unfoldable pub start_bytes : List ℕ → List ℕ
start_bytes [] = []
start_bytes (s ∷ ss) = s / byte_values ∷ s % byte_values ∷ start_bytes ss

-- what the word reader answers, with its placement as bytes; a refusal leaves the starts alone, as it does the message
abbrev pub exported_answer : List ℕ → WordAnswer → Held → List ℕ → Exported
exported_answer bytes (rank_is v) at ms = lent_as (answer_number (rank_is v)) ms (start_bytes (in_use at))
exported_answer bytes (refusal a) at ms = lent_as (answer_number (refusal a)) ms bytes

abbrev pub exported_as : List ℕ → Decoded → Exported
exported_as bytes d = exported_answer bytes d.answer d.placement d.message

-- "word read 1 2 3 4 7 8 9", with 19 "between 7 and 8" and "after 9", by the Larsson code 1 2 3 4 21 8 9 19, where 3 stands for the buffer of starts too
abbrev pub exported_under : Coding → List ℕ → List ℕ → List ℕ → Exported
exported_under d w out bytes =
    must d.in_range (lent_as invalid out bytes)
    (must d.fits (lent_as unfit out bytes)
    (must (eqb (length bytes) (2 * d.bursts)) (lent_as wrong_length out bytes)
    (exported_as bytes (decode_under d w out))))

-- of Construction A
unfoldable pub exported_out : Params → List ℕ → List ℕ → List ℕ → Exported
exported_out f = exported_under (coding f)
