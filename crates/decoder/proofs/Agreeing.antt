-- Laws of comparing what a placement's rule gives with what a word shows, as a loop over the blocks goes. Assumes nothing.
use mathlib.Core.Path.{◌≡◌, refl, sym, ap, ap₂, ◌∙◌}
use mathlib.Core.Logic.{◌≢◌}
use mathlib.Core.Bool.{Bool, true, false, not, ◌&&◌}
use mathlib.Core.List.{List, [], ◌∷◌}
use Prim.Native.Nat.{ℕ, suc, ◌+◌, ◌-◌, ◌≤◌, ◌<◌}
use native.Mathlib.Numerals.{add-one}
use native.Mathlib.Omega.{arith}
use lib.Dec.{eqb}
use lib.ListN.{length, get_or, drop, drop_of_length-le}
use lib.Seq.{drop-cons}
use Rattle.combinatorics.specs.Lists.{same_list}
use Rattle.combinatorics.specs.Stretch.{has, members}
use Rattle.combinatorics.proofs.Cases.{by-eq, eqb_same, eqb-other}
use Rattle.combinatorics.proofs.Stretch.{has-ext, members-ext}
use Rattle.combinatorics.proofs.StretchLoops.{has_here, has_on, has-over}
use Rattle.cells.specs.Figures.{Params}
use Rattle.construction_a.specs.Figures.{blocks}
use Rattle.construction_a.specs.Reading.{looks_fixed, agrees}
use Rattle.construction_a.specs.Writing.{is_index, is_burst, is_fixed, index_blocks}
use Rattle.blocks.specs.Blocks.{fixed_kind, index_kind, block_kind, KindsOf}

-- ---- The blocks of a kind

-- the blocks that an array marks with a kind, as a set
unfoldable pub of_kind : ℕ → List ℕ → ℕ → Bool
of_kind kind kinds k = eqb (get_or kinds k 0) kind

module _ (kind : ℕ) (kinds : List ℕ) (k : ℕ) where
  pub marked : get_or kinds k 0 ≡ kind → of_kind kind kinds k ≡ true
  unfolding of_kind
  marked e = eqb_same (get_or kinds k 0) kind e

  pub unmarked : get_or kinds k 0 ≢ kind → of_kind kind kinds k ≡ false
  unfolding of_kind
  unmarked e = eqb-other (get_or kinds k 0) kind e

index-kind : (i b : Bool) → eqb (block_kind i b) index_kind ≡ i
index-kind true b = refl
index-kind false true = refl
index-kind false false = refl

fixed-kind : (i b : Bool) → eqb (block_kind i b) fixed_kind ≡ (not i && not b)
fixed-kind true b = refl
fixed-kind false true = refl
fixed-kind false false = refl

-- the fixed blocks that don't start with 0
abbrev pub Off : Params → List ℕ → List ℕ → ℕ → Bool
Off f w kinds k = of_kind fixed_kind kinds k && not (looks_fixed f w k)

module _ (f : Params) (w kinds : List ℕ) (k : ℕ) where
  pub fixed_off : get_or kinds k 0 ≡ fixed_kind → Off f w kinds k ≡ not (looks_fixed f w k)
  fixed_off e = rw (marked fixed_kind kinds k e)

  pub other-off : get_or kinds k 0 ≢ fixed_kind → Off f w kinds k ≡ false
  other-off e = rw (unmarked fixed_kind kinds k e)

-- ---- The walk over the blocks

-- from block i on, with `met` index blocks before it: whether the index blocks, S, are the others of those read, and no block is in O
abbrev pub AgreesLeft : ℕ → (ℕ → Bool) → (ℕ → Bool) → List ℕ → ℕ → ℕ → Bool
AgreesLeft n S O ks i met = same_list (members (n - i) i S) (drop met ks) && not (has (n - i) i O)

and-false : (b : Bool) → (b && false) ≡ false
and-false true = refl
and-false false = refl

module _ (n : ℕ) (S O : ℕ → Bool) (ks : List ℕ) (i met : ℕ) where
  -- a fixed block that doesn't look so
  pub left-off : i < n → O i ≡ true → AgreesLeft n S O ks i met ≡ false
  left-off h o = rw (has_here n i O h o) (and-false (same_list (members (n - i) i S) (drop met ks)))

  pub left-skip : i < n → S i ≡ false → O i ≡ false → AgreesLeft n S O ks i met ≡ AgreesLeft n S O ks (i + 1) met
  unfolding members
  left-skip h t o =
      let e : n - i ≡ suc (n - suc i) = omega arith in
      rw (has_on n i O h o, e, t, add-one i)

  here : i < n → S i ≡ true → members (n - i) i S ≡ i ∷ members (n - suc i) (suc i) S
  unfolding members
  here h t =
      let e : n - i ≡ suc (n - suc i) = omega arith in
      rw (e, t)

  -- more than were read
  pub left-more : i < n → S i ≡ true → length ks ≤ met → AgreesLeft n S O ks i met ≡ false
  unfolding same_list
  left-more h t l = rw (here h t, drop_of_length-le ks l)

  -- another than was read
  pub left_other : i < n → S i ≡ true → met < length ks → get_or ks met 0 ≢ i → AgreesLeft n S O ks i met ≡ false
  unfolding same_list
  left_other h t l f = rw (here h t, drop-cons ks met 0 l, eqb-other i (get_or ks met 0) (λ e. f (sym e)))

  pub left-next : i < n → S i ≡ true → O i ≡ false → met < length ks → get_or ks met 0 ≡ i
      → AgreesLeft n S O ks i met ≡ AgreesLeft n S O ks (i + 1) (met + 1)
  unfolding same_list
  left-next h t o l f = rw (has_on n i O h o, here h t, drop-cons ks met 0 l, eqb_same i (get_or ks met 0) (sym f), add-one i, add-one met)

  -- fewer than were read, or as many
  pub left_over : n ≤ i → met ≤ length ks → AgreesLeft n S O ks i met ≡ eqb met (length ks)
  unfolding same_list members
  left_over h l =
      let e : n - i ≡ 0 = omega arith in
      rw (has-over n i O h, e) (by-eq met (length ks) (λ t. (same_list [] (drop met ks) && true) ≡ t)
      (λ d. rw (drop_of_length-le ks {i = met} (omega arith)))
      (λ d. rw (drop-cons ks met 0 (omega arith))))

-- ---- By the kinds of a placement's blocks

module _ (f : Params) (ss kinds : List ℕ) (is : KindsOf f ss kinds) where
  index-marked : members (blocks f) 0 (of_kind index_kind kinds) ≡ index_blocks f ss
  unfolding of_kind index_blocks
  index-marked =
      members-ext (blocks f) 0 (of_kind index_kind kinds) (is_index f ss)
      (λ k _ l. ap (λ (x : ℕ). eqb x index_kind) (is k (omega arith)) ∙ index-kind (is_index f ss k) (is_burst f ss k))

  fixed-marked : (k : ℕ) → k < blocks f → of_kind fixed_kind kinds k ≡ is_fixed f ss k
  unfolding of_kind is_fixed
  fixed-marked k l = ap (λ (x : ℕ). eqb x fixed_kind) (is k l) ∙ fixed-kind (is_index f ss k) (is_burst f ss k)

  -- before the first block all is left
  pub agrees-by : (w ks : List ℕ) (n : ℕ) → n ≡ blocks f → AgreesLeft n (of_kind index_kind kinds) (Off f w kinds) ks 0 0 ≡ agrees f w ks ss
  unfolding agrees
  agrees-by w ks n e =
      let d : n - 0 ≡ blocks f = omega arith in
      rw d (ap₂ {C = Bool} (λ a b. same_list a ks && not b) index-marked
      (has-ext (blocks f) 0 (Off f w kinds) (λ k. is_fixed f ss k && not (looks_fixed f w k))
      (λ k _ l. ap (λ (x : Bool). x && not (looks_fixed f w k)) (fixed-marked k (omega arith)))))
