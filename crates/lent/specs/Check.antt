-- What the check of a word answers a program in another language, for every input. Assumes nothing.
use Rattle.std.specs.Prelude.{List, ℕ, ◌*◌, eqb, length}
use Rattle.refusals.specs.Refusals.{must, served, invalid, unfit, wrong_length}
use Rattle.cells.specs.Outcomes.{Coding, held}
use Rattle.verifier.specs.Verify.{Verdict, agreeing, differing, unchecked, verify_under}
use Rattle.lent.specs.Starts.{starts_from}

-- "1 2 3 5 4", where 3 stands for the bytes of the starts too
unfoldable pub verify_bytes_under : Coding → List ℕ → List ℕ → List ℕ → Verdict
verify_bytes_under d starts ms w =
    must d.in_range (unchecked invalid)
    (must d.fits (unchecked unfit)
    (must (eqb (length starts) (2 * d.bursts)) (unchecked wrong_length)
    (verify_under d (held (starts_from starts)) ms w)))

-- the number for "no", which is none of a refusal
abbrev pub differs : ℕ
differs = 255

-- the answer as a number: 0 is "yes", and nothing else is
abbrev pub verdict_number : Verdict → ℕ
verdict_number agreeing = served
verdict_number differing = differs
verdict_number (unchecked a) = a
