-- Laws of figures alone in lent numbers, refusal by refusal. Assumes nothing.
use mathlib.Core.Path.{◌≡◌}
use mathlib.Core.Logic.{◌≢◌}
use mathlib.Core.Bool.{true}
use mathlib.Core.List.{List, [], ◌∷◌}
use Prim.Native.Nat.{ℕ}
use lib.Dec.{eqb}
use lib.ListN.{length}
use Rattle.refusals.specs.Refusals.{must, served, wrong_length}
use Rattle.combinatorics.proofs.Cases.{eqb_same, eqb-other}
use Rattle.cells.specs.Bytes.{payload_len}
use Rattle.cells.specs.Outcomes.{Coding, unserved, figures_under}
use Rattle.cells.proofs.Outcomes.{refused-alike}
use Rattle.codes.specs.Given.{count_by, tail_by, HasNumbers}
use Rattle.codes.specs.declared.WordLayout.{WordLayout}
use Rattle.lent.specs.Figures.{figures_lent, figure_numbers, figures_lent_under}

module _ (d : Coding) (out : List ℕ) where
  -- 1 and 2
  pub lent-unfit : (a : ℕ) → figures_under d ≡ unserved a → figures_lent_under d out ≡ figures_lent a out
  unfolding figures_lent_under
  lent-unfit a e =
      refused-alike d a (λ x. figures_lent x out)
      (must (eqb (length out) 4) (figures_lent wrong_length out) (figures_lent served (figure_numbers d))) e

  module _ (range : d.in_range ≡ true) (fit : d.fits ≡ true) where
    -- 3
    pub lent_length : length out ≢ 4 → figures_lent_under d out ≡ figures_lent wrong_length out
    unfolding figures_lent_under
    lent_length e = rw (range, fit, eqb-other (length out) 4 e)

    pub lent-served : length out ≡ 4 → figures_lent_under d out ≡ figures_lent served (figure_numbers d)
    unfolding figures_lent_under
    lent-served e = rw (range, fit, eqb_same (length out) 4 e)

-- the numbers of a layout are its code's
pub layout-numbers : (d : Coding) (l : WordLayout) → HasNumbers d l → (t r p : ℕ) → t ≡ count_by l.laid → r ≡ tail_by l.laid
    → p ≡ payload_len l.q l.message_len → t ∷ r ∷ l.message_len ∷ p ∷ [] ≡ figure_numbers d
unfolding figure_numbers
layout-numbers d l is t r p e₁ e₂ e₃ = rw (e₁, e₂, e₃, is.count-is, is.tail-is, is.alphabet-is, is.len_is)
