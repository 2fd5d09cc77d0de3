-- What stands in a sub-block, and its value: the digits of a rank give the rank, and a value found is that of its digits. Assumes nothing.
use mathlib.Core.Path.{◌≡◌, sym, ap, ◌∙◌}
use mathlib.Core.Bool.{true}
use mathlib.Core.List.{List, map, flat_map}
use mathlib.Core.Option.{none, some}
use Prim.Native.Nat.{ℕ, ◌+◌, ◌<◌}
use native.Mathlib.Omega.{arith}
use lib.ListN.{length, get_or}
use Rattle.combinatorics.specs.Lists.{all_below}
use Rattle.combinatorics.proofs.Cases.{by_bool}
use Rattle.combinatorics.proofs.Lists.{at-below}
use Rattle.combinatorics.proofs.Members.{flat-map, length-tabulate, tabulate-at}
use Rattle.cells.specs.Cells.{digit, pick}
use Rattle.cells.specs.Digits.{span, spell, value}
use Rattle.cells.specs.Erasures.{found_bound, has_erasure}
use Rattle.cells.proofs.Cells.{pick_at}
use Rattle.cells.proofs.Digits.{spell-spelled, value-spell, spell-value, plain-spelled, spelled-plain}
use Rattle.cells.proofs.Erasures.{below-whole, whole_below}
use Rattle.cells.specs.Figures.{Params}
use Rattle.larsson.specs.Figures.{sub_len_of, sub_start}
use Rattle.larsson.specs.Writing.{bearers, kind_at, plan, rank_places}
use Rattle.larsson.specs.Reading.{sub_symbols, sub_value}
use Rattle.larsson.proofs.Figures.{Served}
use Rattle.larsson.proofs.Plan.{digit-places}

module _ (f : Params) (w : List ℕ) where
  pub length_symbols : (i : ℕ) → length (sub_symbols f w i) ≡ sub_len_of f
  unfolding sub_symbols
  length_symbols i = length-tabulate (sub_len_of f) (sub_start f i) (λ x. get_or w x 0)

  -- the digits of a value give the value
  pub value_found : (i v : ℕ) → v < span f.q (rank_places f) → sub_symbols f w i ≡ spell f.q (rank_places f) v → sub_value f w i ≡ some v
  unfolding sub_value
  value_found i v l e =
      let ds = spell f.q (rank_places f) v in
      let small : all_below f.q ds ≡ true = spelled-plain f.q (sub_len_of f) ds (spell-spelled f.q (rank_places f) v l) in
      rw (e, below-whole f.q ds small, value-spell f.q (rank_places f) v l)

  module _ (small : (x : ℕ) → get_or w x 0 < found_bound f.q) where
    pub symbols-small : (i : ℕ) → all_below (found_bound f.q) (sub_symbols f w i) ≡ true
    unfolding sub_symbols
    symbols-small i =
        at-below (found_bound f.q) (sub_symbols f w i)
        (λ j l. rw (tabulate-at (sub_len_of f) (sub_start f i) j (λ x. get_or w x 0) (omega (arith, length_symbols i))) (small (sub_start f i + j)))

    -- a value found is spelled there
    pub found-value : (i v : ℕ) → sub_value f w i ≡ some v → sub_symbols f w i ≡ spell f.q (rank_places f) v
    unfolding sub_value
    found-value i v =
        by_bool (has_erasure f.q xs)
        (λ t e. let h : none ≡ some v = rw t at e in absurd (let z : ◌≡◌ {A = ℕ} 0 1 = cc in omega arith))
        (λ t e.
        let h : some (value f.q (rank_places f) xs) ≡ some v = rw t at e in
        let same : value f.q (rank_places f) xs ≡ v = cc in
        sym (spell-value f.q (rank_places f) xs (plain-spelled f.q (sub_len_of f) xs (length_symbols i) (whole_below f.q xs (symbols-small i) t)))
        ∙ ap (spell f.q (rank_places f)) same)
      where
        xs : List ℕ
        xs = sub_symbols f w i

  -- what is taken from the digit cells of a plan stands in its bearers
  pub digits_are : Served f → (ss : List ℕ) → flat_map (sub_symbols f w) (bearers f ss) ≡ pick digit (plan f ss) w
  unfolding sub_symbols plan
  digits_are ok ss =
      flat-map (λ x. get_or w x 0) (sub_len_of f) (sub_start f) (bearers f ss)
      ∙ ap (map (λ x. get_or w x 0)) (sym (digit-places f ok ss))
      ∙ sym (pick_at digit f.n 0 (kind_at f ss) w)
