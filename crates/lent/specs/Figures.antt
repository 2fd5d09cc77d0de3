-- What "figures alone" answers a program in another language, and what the lent numbers hold afterwards, for every input. Assumes nothing.
use Rattle.std.specs.Prelude.{List, [], ◌∷◌, ℕ, eqb, length}
use Rattle.refusals.specs.Refusals.{must, served, invalid, unfit, wrong_length}
use Rattle.cells.specs.Bytes.{payload_len}
use Rattle.cells.specs.Outcomes.{Coding}

pub record FiguresLent : Type 0 where
  pub answer : ℕ
  pub figures : List ℕ

abbrev pub figures_lent : ℕ → List ℕ → FiguresLent
figures_lent a numbers = record { answer = a; figures = numbers }

-- T, r (the Larsson code's R), k and K
unfoldable pub figure_numbers : Coding → List ℕ
figure_numbers d = let k = d.codec.message_len_of in d.placement_count_of ∷ d.index_tail_of ∷ k ∷ payload_len d.codec.alphabet k ∷ []

-- "figures alone 1 2", and 3 where other than four numbers are lent
unfoldable pub figures_lent_under : Coding → List ℕ → FiguresLent
figures_lent_under d out =
    must d.in_range (figures_lent invalid out)
    (must d.fits (figures_lent unfit out)
    (must (eqb (length out) 4) (figures_lent wrong_length out)
    (figures_lent served (figure_numbers d))))
