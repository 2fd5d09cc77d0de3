-- Laws of the value of a sub-block, and of comparing the bearers with it. Assumes nothing.
use mathlib.Core.Path.{◌≡◌, refl, sym, ap, ap₂, ◌∙◌}
use mathlib.Core.Bool.{Bool, true, false, not, cond, ◌&&◌}
use mathlib.Core.List.{List}
use Prim.Native.Nat.{ℕ, ◌+◌, ◌*◌}
use native.Mathlib.Omega.{arith}
use lib.Dec.{eqb}
use lib.ListN.{get_or, replicate}
use Rattle.combinatorics.specs.Lists.{same_list}
use Rattle.combinatorics.specs.Majority.{is_value}
use Rattle.combinatorics.specs.Stretch.{has}
use Rattle.combinatorics.proofs.Stretch.{has-ext}
use Rattle.cells.specs.Digits.{plain, span, value}
use Rattle.larsson.specs.Figures.{sub_blocks}
use Rattle.larsson.specs.Reading.{sub_symbols, sub_value, agrees}
use Rattle.larsson.specs.Writing.{rank_places, bears}
use Rattle.larsson.proofs.SubBlocks.{length_symbols}
use Rattle.larsson.proofs.Walking.{holds_same}
use Rattle.blocks.specs.Blocks.{burst_kind, index_kind}
use Rattle.heads.specs.Written.{plain_places}
use Rattle.larsson_params.specs.declared.LarssonLayout.{LarssonLayout}
use Rattle.larsson_params.specs.Given.{larsson_figures_of}
use Rattle.sub_blocks.specs.Given.{BearersOf}
use Rattle.sub_blocks.specs.Found.{FoundWord, SubBlockValued, spelled_at}
use Rattle.sub_blocks.proofs.Voting.{small}

module _ (l : LarssonLayout) (w : List ℕ) (i : ℕ) where
  -- what Horner's rule gives for its symbols
  pub spelled_is : (part : List ℕ) → part ≡ sub_symbols (larsson_figures_of l) w i
      → 0 * span l.q (plain_places part) + value l.q (plain_places part) part ≡ spelled_at (larsson_figures_of l) w i
  unfolding spelled_at
  spelled_is part e =
      let xs = sub_symbols (larsson_figures_of l) w i in
      let is : plain_places xs ≡ rank_places (larsson_figures_of l) = ap (λ (n : ℕ). replicate n plain) (length_symbols (larsson_figures_of l) w i) in
      rw (e, is) (omega arith)

  -- a bearer with other symbols, by the array of kinds
  abbrev pub Other : List ℕ → ℕ → Bool
  Other kinds x = eqb (get_or kinds x 0) index_kind && not (same_list (sub_symbols (larsson_figures_of l) w x) (sub_symbols (larsson_figures_of l) w i))

kind-test : (b : Bool) → eqb (cond b index_kind burst_kind) index_kind ≡ b
kind-test true = refl
kind-test false = refl

-- by what an array of kinds says of a placement's bearers
pub agrees-by : (l : LarssonLayout) (w : List ℕ) (i : ℕ) → FoundWord l w → SubBlockValued (larsson_figures_of l) w i → (ss kinds : List ℕ)
    → BearersOf (larsson_figures_of l) ss kinds
    → not (has (sub_blocks (larsson_figures_of l)) 0 (Other l w i kinds)) ≡ agrees (larsson_figures_of l) w (spelled_at (larsson_figures_of l) w i) ss
unfolding agrees
agrees-by l w i g h ss kinds is =
    let f = larsson_figures_of l in
    let v = spelled_at f w i in
    ap not (has-ext (sub_blocks f) 0 (Other l w i kinds) (λ x. bears f ss x && not (is_value v (sub_value f w x)))
    (λ x _ k. ap₂ (λ (a b : Bool). a && not b) (ap (λ (y : ℕ). eqb y index_kind) (is x (omega arith)) ∙ kind-test (bears f ss x))
    (sym (holds_same f w (small l w g) x i v h.valued))))
