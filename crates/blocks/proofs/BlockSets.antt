-- Laws of an array of block kinds as a set of burst blocks. Assumes nothing.
use mathlib.Core.Path.{◌≡◌, sym, ap, ◌∙◌, fun_ext}
use mathlib.Core.Bool.{Bool, true, false, not, cond, ◌||◌}
use mathlib.Core.List.{List}
use Prim.Native.Nat.{ℕ, ◌+◌, ◌-◌, ◌*◌, ◌≤◌, ◌<◌}
use native.Mathlib.Omega.{arith}
use lib.Dec.{eqb}
use lib.ListN.{length, get_or, set}
use lib.Seq.{get_or-set_same, get_or-set_other}
use Rattle.combinatorics.specs.Stretch.{bit, count, first}
use Rattle.combinatorics.proofs.Cases.{by-eq, by_bool}
use Rattle.combinatorics.proofs.StretchLoops.{count-on}
use Rattle.combinatorics.proofs.Stretch.{sum-append, count-le, some-false, first-most}
use Rattle.construction_a.specs.Writing.{becomes, with_burst, row, chosen, is_index_in, is_index, is_burst}
use Rattle.cells.specs.Figures.{Params}
use Rattle.construction_a.specs.Figures.{parts}
use Rattle.blocks.specs.Blocks.{fixed_kind, burst_kind, index_kind, burst_set, marked, block_kind, BurstsOf}

-- one block more
pub set-burst : (kinds : List ℕ) (blocks last at : ℕ) → at < length kinds → at ≡ becomes blocks (burst_set kinds) last
    → burst_set (set kinds at 1) ≡ with_burst blocks (burst_set kinds) last
unfolding burst_set with_burst
set-burst kinds blocks last at h e =
    fun_ext (λ x. rw (← e)
    (by-eq x at (λ t. eqb (get_or (set kinds at 1) x 0) 1 ≡ (t || eqb (get_or kinds x 0) 1)) (λ d. rw (d, get_or-set_same kinds at 1 0 h))
    (λ d. rw (get_or-set_other kinds at x 1 0 d))))

-- ---- A part, block by block

module _ (kinds : List ℕ) (m i j found : ℕ) (so_far : found ≡ count j 0 (row m (burst_set kinds) i)) where
  pub one_more : burst_set kinds (i * m + j) ≡ true → found + 1 ≡ count (j + 1) 0 (row m (burst_set kinds) i)
  one_more e =
      let t = ap bit e in
      omega (arith, count-on j (row m (burst_set kinds) i))

  pub none_more : burst_set kinds (i * m + j) ≡ false → found ≡ count (j + 1) 0 (row m (burst_set kinds) i)
  none_more e =
      let t = ap bit e in
      omega (arith, count-on j (row m (burst_set kinds) i))

-- ---- How many of a part's blocks are burst blocks, once some are seen

-- the count of all, by the count of the first j
pub count-rest : (j m : ℕ) (w : ℕ → Bool) → j ≤ m → (count j 0 w ≤ count m 0 w) × (count m 0 w ≤ count j 0 w + (m - j))
count-rest j m w h =
    let e : j + (m - j) ≡ m = omega arith in
    let d : count m 0 w ≡ count j 0 w + count (m - j) (0 + j) w = ap (λ (n : ℕ). count n 0 w) (sym e) ∙ sum-append j (m - j) 0 (λ x. bit (w x)) in
    (omega (arith, d), omega (arith, d, count-le (m - j) (0 + j) w))

-- ---- Which block becomes a burst block

module _ (kinds : List ℕ) (blocks last : ℕ) where
  pub spare-taken : burst_set kinds last ≡ true → becomes blocks (burst_set kinds) last ≡ first blocks 0 (λ k. not (burst_set kinds k))
  unfolding becomes
  spare-taken e = rw e

  pub last_taken : burst_set kinds last ≡ false → becomes blocks (burst_set kinds) last ≡ last
  unfolding becomes
  last_taken e = rw e

  pub spare-in : count blocks 0 (burst_set kinds) < blocks → first blocks 0 (λ k. not (burst_set kinds k)) < blocks
  spare-in h =
      let s = some-false blocks 0 (burst_set kinds) h in
      omega (arith, s.2, first-most blocks 0 s.0 (λ k. not (burst_set kinds k)) s.1 s.2 (rw s.3))

  pub becomes-in : last < blocks → count blocks 0 (burst_set kinds) < blocks → becomes blocks (burst_set kinds) last < blocks
  unfolding becomes
  becomes-in l h = by_bool (burst_set kinds last) (λ t. rw t (spare-in h)) (λ t. rw t l)

-- ---- From marks to kinds

-- where the burst blocks are marked and no others, the index blocks marked over them give each block's kind
pub kind-is : (f : Params) (ss kinds : List ℕ) → BurstsOf f ss kinds → (k : ℕ)
    → marked (is_index_in f.m (burst_set kinds) (chosen (parts f) f.m (burst_set kinds))) kinds k ≡ block_kind (is_index f ss k) (is_burst f ss k)
unfolding marked is_index burst_set
kind-is f ss kinds h k = rw (← h.set) (ap (cond (is_index_in f.m (burst_set kinds) (chosen (parts f) f.m (burst_set kinds)) k) index_kind) plainly)
  where
    plainly : get_or kinds k 0 ≡ cond (burst_set kinds k) burst_kind fixed_kind
    plainly = by-eq (get_or kinds k 0) 1 (λ t. get_or kinds k 0 ≡ cond t burst_kind fixed_kind) (λ e. e) (λ e. omega (arith, h.two k))
