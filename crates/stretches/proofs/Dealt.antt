-- The digits of each index block, out of those that are lent. Assumes nothing.
use mathlib.Core.Path.{◌≡◌, refl}
use mathlib.Core.List.{List, [], ◌∷◌, ◌++◌, flat_map}
use Prim.Native.Nat.{ℕ, zero, suc, ◌+◌, ◌*◌, ◌≤◌, ◌<◌}
use native.Mathlib.Omega.{arith}
use lib.ListN.{length, take, drop, length-append, length-drop, take-append-drop}
use lib.Seq.{length-take-le, take_at, take_all, drop_at, drop-drop}
use Rattle.stretches.specs.Walk.{dealt}

-- digits for each of so many blocks
abbrev pub Lent : ℕ → ℕ → ℕ → List ℕ → Type 0
Lent k len step ds = (j : ℕ) → j < k → j * step + len ≤ length ds

module _ (len step : ℕ) where
  rest : (k : ℕ) (ds : List ℕ) → Lent (suc k) len step ds → Lent k len step (drop step ds)
  rest k ds h j l = omega (arith, h (suc j) (omega arith), length-drop step ds)

  first-few : (k : ℕ) (ds : List ℕ) → Lent (suc k) len step ds → length (take len ds) ≡ len
  first-few k ds h = length-take-le len ds (omega (arith, h 0 (omega arith)))

  pub length-dealt : (k : ℕ) (ds : List ℕ) → Lent k len step ds → length (dealt k len step ds) ≡ k * len
  unfolding dealt
  length-dealt zero ds h = omega arith
  length-dealt (suc k) ds h =
      omega (arith, length-append (take len ds) (dealt k len step (drop step ds)), first-few k ds h, length-dealt k (drop step ds) (rest k ds h))

  -- those of block j
  pub dealt-at : (k j : ℕ) (ds : List ℕ) → Lent k len step ds → j < k → take len (drop (j * len) (dealt k len step ds)) ≡ take len (drop (j * step) ds)
  unfolding dealt
  dealt-at zero j ds h l = absurd (omega arith)
  dealt-at (suc k) zero ds h l =
      let e : 0 * len ≡ 0 = omega arith in
      let d : 0 * step ≡ 0 = omega arith in
      rw (e, d) (take_at (take len ds) (dealt k len step (drop step ds)) len (first-few k ds h))
  dealt-at (suc k) (suc j) ds h l =
      let e : suc j * len ≡ len + j * len = omega arith in
      let d : suc j * step ≡ step + j * step = omega arith in
      let p = take len ds in
      let q = dealt k len step (drop step ds) in
      rw (e, d, ← drop-drop (j * len) len (p ++ q), drop_at p q len (first-few k ds h), ← drop-drop (j * step) step ds)
      (dealt-at k j (drop step ds) (rest k ds h) (omega arith))

-- where each block has its own, they are those that are lent
pub dealt-own : (k len : ℕ) (ds : List ℕ) → length ds ≡ k * len → dealt k len len ds ≡ ds
unfolding dealt
dealt-own zero len [] e = refl
dealt-own zero len (d ∷ ds) e = absurd (omega arith)
dealt-own (suc k) len ds e =
    rw (dealt-own k len (drop len ds) (omega (arith, length-drop len ds))) (take-append-drop len ds)

-- where each has the same, they are those, over and over
pub dealt-same : (k : ℕ) (ds ks : List ℕ) → length ks ≡ k → dealt k (length ds) 0 ds ≡ flat_map (λ _. ds) ks
unfolding dealt flat_map
dealt-same zero ds [] e = refl
dealt-same zero ds (x ∷ ks) e = absurd (omega arith)
dealt-same (suc k) ds [] e = absurd (omega arith)
dealt-same (suc k) ds (x ∷ ks) e = rw (take_all (length ds) ds (omega arith), dealt-same k ds ks (omega arith))
