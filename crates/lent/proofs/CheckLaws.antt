-- Laws of the check of a word on bytes, under any figures: refusal by refusal. Assumes nothing.
use mathlib.Core.Path.{◌≡◌}
use mathlib.Core.Logic.{◌≢◌}
use mathlib.Core.Bool.{true}
use mathlib.Core.List.{List}
use Prim.Native.Nat.{ℕ, ◌*◌}
use lib.Dec.{eqb}
use lib.ListN.{length}
use Rattle.refusals.specs.Refusals.{must, wrong_length}
use Rattle.combinatorics.proofs.Cases.{eqb_same, eqb-other}
use Rattle.cells.specs.Outcomes.{Coding, held, unserved, figures_under}
use Rattle.cells.proofs.Outcomes.{refused-alike}
use Rattle.verifier.specs.Verify.{unchecked, verify_under}
use Rattle.lent.specs.Starts.{starts_from}
use Rattle.lent.specs.Check.{verify_bytes_under}

module _ (d : Coding) (starts ms w : List ℕ) where
  -- 1 and 2, with the number that the figures have alone
  pub verify-unfit : (a : ℕ) → figures_under d ≡ unserved a → verify_bytes_under d starts ms w ≡ unchecked a
  unfolding verify_bytes_under
  verify-unfit a e =
      refused-alike d a unchecked
      (must (eqb (length starts) (2 * d.bursts)) (unchecked wrong_length) (verify_under d (held (starts_from starts)) ms w)) e

  module _ (range : d.in_range ≡ true) (fit : d.fits ≡ true) where
    -- 3 for the bytes of the starts
    pub verify-length : length starts ≢ 2 * d.bursts → verify_bytes_under d starts ms w ≡ unchecked wrong_length
    unfolding verify_bytes_under
    verify-length e = rw (range, fit, eqb-other (length starts) (2 * d.bursts) e)

    -- and otherwise the check
    pub verify-placed : length starts ≡ 2 * d.bursts → verify_bytes_under d starts ms w ≡ verify_under d (held (starts_from starts)) ms w
    unfolding verify_bytes_under
    verify-placed e = rw (range, fit, eqb_same (length starts) (2 * d.bursts) e)
