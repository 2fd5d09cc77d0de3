-- What a caller learns of a layout that was answered. Assumes nothing.
use mathlib.Core.Path.{◌≡◌, sym, ap, ◌∙◌}
use Prim.Native.Nat.{◌*◌, ◌≤◌, ◌<◌}
use Rattle.cells.specs.Figures.{Params, max_word, max_alphabet, max_bursts}
use Rattle.construction_a.specs.Outcomes.{unserved, figures_number, figures_out}
use Rattle.params.specs.declared.Layout.{Layout}
use Rattle.std.specs.Prelude.{Result, Ok, Err}
use Rattle.refusals.specs.declared.Refusal.{Refusal}
use Rattle.refusals.specs.Numbers.{number_of, answer_of}
use Rattle.params.specs.Answer.{blocks_figured}

-- an answer's number follows from its values
pub number_is : (f : Params) (r : Result Layout Refusal) → blocks_figured r ≡ figures_out f → answer_of r ≡ figures_number (figures_out f)
number_is f (Ok l) answer = ap figures_number answer
number_is f (Err a) answer = ap figures_number answer

-- of an answer that was taken apart: a refusal is that of the figures alone
pub refused-learnt : (f : Params) (r : Result Layout Refusal) (a : Refusal) → r ≡ Err a → blocks_figured r ≡ figures_out f → figures_out f ≡ unserved (number_of a)
refused-learnt f r a e answer = sym answer ∙ ap blocks_figured e

-- the layout's numbers, as facts that arithmetic can use
pub record Bounds (l : Layout) : Type 0 where
  pub n-most : l.n ≤ max_word
  pub q-least : 2 ≤ l.q
  pub q-most : l.q ≤ max_alphabet
  pub m-least : 1 ≤ l.m
  pub m-most : l.m ≤ max_bursts
  pub b-least : 1 ≤ l.b
  pub parts-least : 3 ≤ l.parts
  pub parts-most : l.parts ≤ max_bursts
  pub blocks-most : l.parts * l.m ≤ max_bursts * max_bursts
  pub tail-room : l.index_tail < l.n
