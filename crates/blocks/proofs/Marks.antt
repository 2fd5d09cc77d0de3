-- Laws of marking index blocks in an array of block kinds, one after the other. Assumes nothing.
use mathlib.Core.Path.{◌≡◌, refl, sym, ap, ◌∙◌, fun_ext}
use mathlib.Core.Logic.{◌≢◌}
use mathlib.Core.Bool.{Bool, false, cond, ◌||◌, ◌&&◌}
use mathlib.Core.List.{List}
use Prim.Native.Nat.{ℕ, suc, ◌+◌, ◌-◌, ◌*◌, ◌/◌, ◌≤◌, ◌<◌}
use native.Mathlib.Nat.{div-eq_of_lt-le, div-mul-le_self, lt-div-mul-add}
use native.Mathlib.Omega.{arith}
use lib.Dec.{leb, ltb, eqb}
use lib.ListN.{length, get_or, set}
use lib.Seq.{get_or-set_same, get_or-set_other}
use Rattle.combinatorics.specs.Stretch.{count, first}
use Rattle.combinatorics.proofs.Cases.{by_le, by-eq, eqb_same, eqb-other, eqb-false, leb-holds, leb-fails}
use Rattle.combinatorics.proofs.Stretch.{first-in, first-false}
use Rattle.cells.specs.Round.{next}
use Rattle.construction_a.specs.Writing.{row, part_count, part_with, whole, one_each, chosen, beside, is_chosen, is_index_in}
use Rattle.cells.proofs.Round.{next-lt}
use Rattle.construction_a.proofs.Rule.{at_row, chosen_by}
use Rattle.blocks.specs.Blocks.{burst_set, marked}

-- none yet
pub mark-none : (I : ℕ → Bool) (kinds : List ℕ) (k : ℕ) → I k ≡ false → get_or kinds k 0 ≡ marked I kinds k
unfolding marked
mark-none I kinds k e = rw e

-- one block more
pub mark-more : (I J : ℕ → Bool) (kinds next : List ℕ) (at : ℕ) → at < length next → ((k : ℕ) → get_or next k 0 ≡ marked I kinds k)
    → ((k : ℕ) → J k ≡ (eqb k at || I k)) → (k : ℕ) → get_or (set next at 2) k 0 ≡ marked J kinds k
unfolding marked
mark-more I J kinds next at h so_far more k =
    rw (more k)
    (by-eq k at (λ t. get_or (set next at 2) k 0 ≡ cond (t || I k) 2 (get_or kinds k 0)) (λ e. rw (e, get_or-set_same next at 2 0 h))
    (λ e. get_or-set_other next at k 2 0 e ∙ so_far k))

-- the same marks by another test
pub mark-same : (I J : ℕ → Bool) (kinds next : List ℕ) (k : ℕ) → get_or next k 0 ≡ marked I kinds k → I k ≡ J k → get_or next k 0 ≡ marked J kinds k
unfolding marked
mark-same I J kinds next k h e = h ∙ ap (λ (t : Bool). cond t 2 (get_or kinds k 0)) e

-- ---- A stretch of blocks

abbrev pub within : ℕ → ℕ → ℕ → Bool
within from j k = leb from k && ltb k (from + j)

pub within_none : (from k : ℕ) → within from 0 k ≡ false
within_none from k = by_le from k (λ t. (t && ltb k (from + 0)) ≡ false) (λ l. leb-fails (suc k) (from + 0) (omega arith)) (λ _. refl)

pub within_more : (from j k : ℕ) → within from (j + 1) k ≡ (eqb k (from + j) || within from j k)
within_more from j k =
    by-eq k (from + j) (λ t. within from (j + 1) k ≡ (t || within from j k))
    (λ e. rw (leb-holds from k (omega arith), leb-holds (suc k) (from + (j + 1)) (omega arith)))
    (λ e. by_le from k (λ t. (t && ltb k (from + (j + 1))) ≡ (t && ltb k (from + j)))
    (λ l. by_le (suc k) (from + j) (λ t. ltb k (from + (j + 1)) ≡ t) (λ g. leb-holds (suc k) (from + (j + 1)) (omega arith))
    (λ g. leb-fails (suc k) (from + (j + 1)) (omega arith)))
    (λ _. refl))

-- a whole part
pub within-part : (m part k : ℕ) (B : ℕ → Bool) → 0 < m → within (part * m) m k ≡ is_index_in m B (whole part) k
unfolding is_index_in is_chosen
within-part m part k B h =
    by_le (part * m) k (λ t. (t && ltb k (part * m + m)) ≡ eqb (k / m) part)
    (λ l. by_le (suc k) (part * m + m) (λ t. t ≡ eqb (k / m) part) (λ g. sym (eqb_same (k / m) part (div-eq_of_lt-le m l (omega arith))))
    (λ g. sym (eqb-other (k / m) part (λ e. omega (arith, ap (λ (y : ℕ). y * m) e, lt-div-mul-add {a = k} h)))))
    (λ g. sym (eqb-other (k / m) part (λ e. omega (arith, ap (λ (y : ℕ). y * m) e, div-mul-le_self k m))))

-- ---- One block of each part

module _ (m : ℕ) (B : ℕ → Bool) where
  pub beside-lt : (i : ℕ) → 0 < part_count m B i → beside m B i < m
  unfolding beside part_count
  beside-lt i h = next-lt m (first m 0 (row m B i)) (omega (arith, first-in m 0 (row m B i) h))

  abbrev pub before : ℕ → ℕ → Bool
  before i k = ltb k (i * m) && is_index_in m B one_each k

  pub before-none : (i k : ℕ) → i * m ≤ k → before i k ≡ false
  before-none i k h = rw (leb-fails (suc k) (i * m) (omega arith))

  pub before_more : (i k : ℕ) → beside m B i < m → before (i + 1) k ≡ (eqb k (i * m + beside m B i) || before i k)
  unfolding is_chosen
  before_more i k l =
      by_le (suc k) (i * m) (λ t. before (i + 1) k ≡ (eqb k (i * m + beside m B i) || (t && is_index_in m B one_each k)))
      (λ g. rw (leb-holds (suc k) ((i + 1) * m) (omega arith), eqb-other k (i * m + beside m B i) (omega arith)))
      (λ g. by_le (suc k) ((i + 1) * m) (λ t. (t && is_index_in m B one_each k) ≡ (eqb k (i * m + beside m B i) || false))
      (λ u. let e : i * m + (k - i * m) ≡ k = omega arith in
      let r = at_row m i (k - i * m) B one_each (omega arith) in
      (rw e at r) ∙ by-eq k (i * m + beside m B i) (λ t. eqb (k - i * m) (beside m B i) ≡ (t || false)) (λ d. eqb_same (k - i * m) (beside m B i) (omega arith))
      (λ d. eqb-other (k - i * m) (beside m B i) (omega arith)))
      (λ u. rw (eqb-other k (i * m + beside m B i) (omega arith))))

  pub before-all : (parts k : ℕ) → k < parts * m → before parts k ≡ is_index_in m B one_each k
  before-all parts k l = rw (leb-holds (suc k) (parts * m) l)

-- which block that is goes by the part's own entries
pub beside_same : (m i : ℕ) (old new : List ℕ) → ((k : ℕ) → i * m ≤ k → get_or new k 0 ≡ get_or old k 0) → beside m (burst_set new) i ≡ beside m (burst_set old) i
unfolding beside burst_set
beside_same m i old new same =
    ap (λ (w : ℕ → Bool). next m (first m 0 w)) (fun_ext (λ j. ap (λ (y : ℕ). eqb y 1) (same (i * m + j) (omega arith))))

-- ---- The three cases of the rule

module _ (p m : ℕ) (B : ℕ → Bool) (all : count (p * m) 0 B ≡ m) where
  pub chosen-full : part_with p m B m < p → chosen p m B ≡ whole (next p (part_with p m B m))
  chosen-full h = rw (chosen_by p m B all, leb-holds (suc (part_with p m B m)) p h)

  pub chosen-bare : p ≤ part_with p m B m → part_with p m B 0 < p → chosen p m B ≡ whole (part_with p m B 0)
  chosen-bare l h = rw (chosen_by p m B all, leb-fails (suc (part_with p m B m)) p (omega arith), leb-holds (suc (part_with p m B 0)) p h)

  pub chosen-each : p ≤ part_with p m B m → p ≤ part_with p m B 0 → chosen p m B ≡ one_each
  chosen-each l h = rw (chosen_by p m B all, leb-fails (suc (part_with p m B m)) p (omega arith), leb-fails (suc (part_with p m B 0)) p (omega arith))

-- where no part is without burst blocks each has some
module _ (p m : ℕ) (B : ℕ → Bool) where
  pub each-some : p ≤ part_with p m B 0 → (i : ℕ) → i < p → 0 < part_count m B i
  unfolding part_with
  each-some h i l =
      let e : part_count m B i ≢ 0 = eqb-false (part_count m B i) 0 (first-false p 0 i (λ x. eqb (part_count m B x) 0) (omega arith) (omega arith)) in
      omega arith
