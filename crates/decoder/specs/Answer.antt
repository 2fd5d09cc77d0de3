-- What an answer of the word reader says: its number and values case by case. Assumes nothing.
use Rattle.std.specs.Prelude.{Result, Ok, Err, List, ℕ}
use Rattle.refusals.specs.declared.Refusal.{Refusal}
use Rattle.refusals.specs.Refusals.{served}
use Rattle.refusals.specs.Numbers.{number_of}
use Rattle.construction_a.specs.Outcomes.{WordAnswer, rank_is, refusal, Decoded as Outcome}
use Rattle.placements.specs.Bridge.{held_as}
use Rattle.decoder.specs.declared.Decoded.{Decoded}

-- "0 for accepted", or the refusal by its number
abbrev pub number_by : {A E : Type 0} → (E → ℕ) → Result A E → ℕ
number_by number (Ok x) = served
number_by number (Err e) = number e

-- "An accepted word is answered with its rank as a number", a refused one with its refusal, by its number
abbrev pub answer_by : {E : Type 0} → (E → ℕ) → Result ℕ E → WordAnswer
answer_by number (Ok v) = rank_is v
answer_by number (Err e) = refusal (number e)

abbrev pub answer_as : Result ℕ Refusal → WordAnswer
answer_as = answer_by number_of

-- "the placement stands beside that answer", and the message is what the lent buffer holds afterwards
abbrev pub decoded_by : {E : Type 0} → (E → ℕ) → Decoded E → List ℕ → Outcome
decoded_by number d out = record { answer = answer_by number d.answer; placement = held_as d.placement; message = out }

abbrev pub decoded_as : Decoded Refusal → List ℕ → Outcome
decoded_as = decoded_by number_of
