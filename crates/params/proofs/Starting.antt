-- Filling the array of the blocks' first positions, block by block and part by part. Assumes nothing.
use mathlib.Core.Path.{◌≡◌, sym, ap, ◌∙◌}
use mathlib.Core.List.{List}
use Prim.Native.Nat.{ℕ, ◌+◌, ◌-◌, ◌*◌, ◌≤◌, ◌<◌}
use native.Mathlib.Omega.{arith}
use lib.ListN.{length, get_or, set}
use lib.Seq.{get_or-set_same, get_or-set_other}
use Rattle.combinatorics.proofs.Cases.{by_le, by-eq}
use Rattle.cells.specs.Cut.{piece_start, piece_len, block_at, block_head}
use Rattle.cells.proofs.Cut.{block-place, block-end}

-- what stands elsewhere stays
pub set-stays : (xs : List ℕ) (i a k : ℕ) → k < i → get_or (set xs i a) k 0 ≡ get_or xs k 0
set-stays xs i a k h = get_or-set_other xs i k a 0 (λ e. absurd (omega arith))

-- one entry more of those from `first` on
pub entry_more : (xs : List ℕ) (first j a : ℕ) (v : ℕ → ℕ) → first + j < length xs → a ≡ v j → ((x : ℕ) → x < j → get_or xs (first + x) 0 ≡ v x)
    → (x : ℕ) → x < j + 1 → get_or (set xs (first + j) a) (first + x) 0 ≡ v x
entry_more xs first j a v h e so_far x l =
    by-eq x j (λ _. get_or (set xs (first + j) a) (first + x) 0 ≡ v x)
    (λ d. rw d (get_or-set_same xs (first + j) a 0 h ∙ e))
    (λ d. get_or-set_other xs (first + j) (first + x) a 0 (λ g. d (omega arith)) ∙ so_far x (omega arith))

-- one part more
module _ (n p m i : ℕ) (some : 0 < m) (old new : List ℕ)
    (so_far : (k : ℕ) → k < i * m → get_or old k 0 ≡ block_head n p m k)
    (before : (k : ℕ) → k < i * m → get_or new k 0 ≡ get_or old k 0)
    (part : (j : ℕ) → j < m → get_or new (i * m + j) 0 ≡ piece_start n p i + piece_start (piece_len n p i) m j) where
  pub part-more : (k : ℕ) → k < (i + 1) * m → get_or new k 0 ≡ block_head n p m k
  unfolding block_at
  part-more k l =
      by_le (i * m) k (λ _. get_or new k 0 ≡ block_head n p m k)
      (λ h.
      let j = k - i * m in
      let e : k ≡ i * m + j = omega arith in
      let b : j < m = omega arith in
      ap (λ (x : ℕ). get_or new x 0) e ∙ part j b ∙ sym (block-place n p m i j k e b))
      (λ h. before k h ∙ so_far k h)

-- the end behind the last part
pub end_more : (n p m : ℕ) (xs : List ℕ) → 0 < p → 0 < m → p * m < length xs → ((k : ℕ) → k < p * m → get_or xs k 0 ≡ block_head n p m k)
    → (k : ℕ) → k ≤ p * m → get_or (set xs (p * m) n) k 0 ≡ block_head n p m k
end_more n p m xs g h room so_far k l =
    by-eq k (p * m) (λ _. get_or (set xs (p * m) n) k 0 ≡ block_head n p m k)
    (λ d. rw d (get_or-set_same xs (p * m) n 0 room ∙ sym (block-end n p m g h)))
    (λ d. get_or-set_other xs (p * m) k n 0 d ∙ so_far k (omega arith))
