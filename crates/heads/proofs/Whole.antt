-- Laws of testing the first symbols of index blocks, block by block. Assumes nothing.
use mathlib.Core.Path.{◌≡◌, refl, sym, ◌∙◌}
use mathlib.Core.Bool.{true, false, ◌&&◌}
use mathlib.Core.List.{List, flat_map}
use Prim.Native.Nat.{ℕ, suc, ◌+◌, ◌≤◌, ◌<◌}
use native.Mathlib.Omega.{arith}
use lib.Dec.{ltb}
use lib.ListN.{length, get_or, take, drop}
use lib.Seq.{take_all}
use Rattle.combinatorics.specs.Lists.{all, all_below}
use Rattle.combinatorics.specs.Stretch.{tabulate}
use Rattle.combinatorics.proofs.Lists.{all_both}
use Rattle.combinatorics.proofs.Loops.{left-next, left-none}
use Rattle.combinatorics.proofs.Members.{take-is}
use Rattle.cells.specs.Figures.{Params}
use Rattle.construction_a.specs.Figures.{head_of}
use Rattle.construction_a.specs.Reading.{first_symbols_with}

module _ (r : ℕ) (f : Params) (w ks : List ℕ) where
  -- those of the blocks from j on decide for all
  abbrev pub Tested : ℕ → Type 0
  Tested j = all_below f.q (first_symbols_with r f w (drop j (take f.m ks))) ≡ all_below f.q (first_symbols_with r f w (take f.m ks))

  pub tested-none : Tested 0
  tested-none = refl

  -- the first 1 + r symbols of block j, lent as a part of the word
  module _ (j : ℕ) (part : List ℕ) (l : j < f.m) (long : f.m ≤ length ks) (size : length part ≡ suc r)
      (at : (i : ℕ) → i < suc r → get_or part i 0 ≡ get_or w (head_of f (get_or ks j 0) + i) 0) where
    one_block : all_below f.q (first_symbols_with r f w (drop j (take f.m ks)))
        ≡ (all_below f.q part && all_below f.q (first_symbols_with r f w (drop (j + 1) (take f.m ks))))
    unfolding flat_map
    one_block =
        let here = tabulate (suc r) (head_of f (get_or ks j 0)) (λ x. get_or w x 0) in
        let is : part ≡ here =
        sym (take_all (suc r) part (omega (arith, size))) ∙ take-is (suc r) (head_of f (get_or ks j 0)) part (λ x. get_or w x 0) (omega (arith, size)) at in
        rw (left-next f.m j ks l long, is) (all_both (λ x. ltb x f.q) here (first_symbols_with r f w (drop (j + 1) (take f.m ks))))

    pub tested-on : all_below f.q part ≡ true → Tested j → Tested (j + 1)
    tested-on e t = (rw e at (sym one_block)) ∙ t

    pub tested-fails : all_below f.q part ≡ false → Tested j → all_below f.q (first_symbols_with r f w (take f.m ks)) ≡ false
    tested-fails e t = sym t ∙ (rw e at one_block)

  pub tested-all : (j : ℕ) → f.m ≤ j → Tested j → all_below f.q (first_symbols_with r f w (take f.m ks)) ≡ true
  unfolding flat_map all
  tested-all j l t = sym t ∙ (rw (left-none f.m j ks l))
