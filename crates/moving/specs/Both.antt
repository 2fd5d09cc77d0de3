-- What the figures of two codes answer. Assumes nothing.
use Rattle.std.specs.Prelude.{◌≡◌, ◌&&◌, Result, Ok, Err, ℕ, ltb, eqb}
use Rattle.refusals.specs.Refusals.{must, invalid, unfit, wrong_length, bad_payload}
use Rattle.refusals.specs.declared.Refusal.{Refusal}
use Rattle.refusals.specs.Numbers.{number_of}
use Rattle.cells.specs.Outcomes.{Coding, FiguresOut, figured, unserved, Encoded}
use Rattle.payloads.specs.Payload.{carries_job}
use Rattle.codes.specs.declared.WordLayout.{WordLayout}
use Rattle.codes.specs.Given.{coding_in}
use Rattle.moving.specs.Given.{BothReady}
use Rattle.moving.specs.Move.{same_figures}

-- "10 3", and on
abbrev pub after_fitting : Coding → Coding → ℕ → ℕ → (ℕ → Encoded) → Encoded → Encoded
after_fitting d e strip moved refuse rest =
    must (carries_job d.codec.alphabet d.codec.message_len_of && carries_job e.codec.alphabet e.codec.message_len_of) (refuse bad_payload)
    (must (eqb strip d.codec.word_len && eqb moved e.codec.word_len) (refuse wrong_length)
    rest)

-- "1 2 10 3", and on
abbrev pub from_figures : Coding → Coding → ℕ → ℕ → (ℕ → Encoded) → Encoded → Encoded
from_figures d e strip moved refuse rest =
    must (d.in_range && e.in_range) (refuse invalid)
    (must (same_figures d e && d.fits && e.fits) (refuse unfit)
    (after_fitting d e strip moved refuse rest))

-- "1 2": what two codes are refused with where one is refused with a, by the other's own answer
abbrev pub first_refusal : ℕ → FiguresOut → ℕ
first_refusal a (figured t r k) = a
first_refusal a (unserved b) = must (ltb b a) a b

-- every order that begins so ends in the refusal, or is past all four
abbrev pub BothIn : Coding → Coding → ℕ → ℕ → Result (WordLayout × WordLayout) Refusal → Type 0
BothIn d e strip moved (Ok x) = (coding_in x.0 ≡ d) × (coding_in x.1 ≡ e) × BothReady x.0 x.1 strip moved
BothIn d e strip moved (Err r) = (refuse : ℕ → Encoded) (rest : Encoded) → from_figures d e strip moved refuse rest ≡ refuse (number_of r)
