-- Laws of a found word's blocks, each as its own stretch of the word. Assumes nothing.
use mathlib.Core.Path.{◌≡◌, sym, ap, ◌∙◌}
use mathlib.Core.Bool.{Bool, true, not}
use mathlib.Core.List.{List}
use mathlib.Core.Option.{some}
use Prim.Native.Nat.{ℕ, ◌+◌, ◌-◌, ◌*◌, ◌≤◌, ◌<◌}
use native.Mathlib.Nat.{add-zero, mul-le-mul_right}
use native.Mathlib.Omega.{arith}
use lib.ListN.{length, get_or, take, drop, length-drop}
use lib.Seq.{take_all, get_or-take, get_or-drop}
use Rattle.combinatorics.proofs.Cases.{leb-fails}
use Rattle.combinatorics.proofs.Members.{each_at}
use Rattle.cells.specs.Cut.{block_head}
use Rattle.cells.specs.Figures.{max_bursts}
use Rattle.construction_a.specs.Figures.{parts, head_of}
use Rattle.construction_a.specs.Reading.{looks_fixed, index_found}
use Rattle.construction_a.proofs.Pattern.{taken-bare, found_within, found-count}
use Rattle.construction_a.proofs.Rule.{not-true}
use Rattle.params.specs.declared.Layout.{Layout}
use Rattle.params.proofs.Shape.{bound, blocks-fit, head-room, head-is}
use Rattle.params.specs.Given.{figures_of, max_blocks, Shaped}
use Rattle.heads.specs.Given.{CompleteWord}
use Rattle.heads.specs.Looks.{starts_fixed}
use Rattle.heads.specs.Written.{OpenHeads}

-- ---- A layout's parts and blocks

-- how many there can be
pub record Parted (p m : ℕ) : Type 0 where
  pub some-parts : 0 < p
  pub some-blocks : 0 < m
  pub few-parts : p ≤ max_bursts
  pub few-blocks : m ≤ max_bursts
  pub alike : 2 < m → p ≡ m

module _ (l : Layout) (h : Shaped l) where
  pub parted : Parted l.parts l.m
  unfolding parts
  parted =
      let b = bound l h in
      record {
        some-parts = omega arith;
        some-blocks = omega arith;
        few-parts = b.parts-most;
        few-blocks = b.m-most;
        alike = λ g. h.parts_is ∙ (rw (leb-fails l.m 2 g));
      }

  -- a part's blocks are among the blocks of the word
  module _ (i : ℕ) (g : i < l.parts) where
    pub part-block : (j : ℕ) → j < l.m → i * l.m + j < l.parts * l.m
    part-block j s = omega (arith, mul-le-mul_right l.m g)

    pub part-fits : i * l.m + l.m ≤ max_blocks
    part-fits = omega (arith, mul-le-mul_right l.m g, blocks-fit l h)

-- ---- The part of a word from a position on

module _ (at : ℕ) (w : List ℕ) where
  pub part-is : take (length w - at) (drop at w) ≡ drop at w
  part-is = take_all (length w - at) (drop at w) (omega (arith, length-drop at w))

  pub part_at : (i : ℕ) → get_or (take (length w - at) (drop at w)) i 0 ≡ get_or w (at + i) 0
  part_at i = ap (λ (y : List ℕ). get_or y i 0) part-is ∙ get_or-drop at w i 0

  pub part_length : length (take (length w - at) (drop at w)) ≡ length w - at
  part_length = ap length part-is ∙ length-drop at w

  pub part-head : get_or (take (length w - at) (drop at w)) 0 0 ≡ get_or w at 0
  part-head = part_at 0 ∙ rw (add-zero at)

-- a block of a found word, as the stretch from its first position on
module _ {l : Layout} {w : List ℕ} (h : CompleteWord l w) where
  module _ (k : ℕ) {at : ℕ} (e : at ≡ block_head l.n l.parts l.m k) where
    pub head-inside : k < l.parts * l.m → at < length w
    head-inside g = omega (arith, h.complete, head-room l h.layout k g)

    -- it looks fixed by its own stretch exactly where it does in the word
    pub stretch-looks : {r : Bool} → r ≡ starts_fixed (take (length w - at) (drop at w)) → looks_fixed (figures_of l) w k ≡ r
    unfolding looks_fixed
    stretch-looks s =
        let d : at ≡ head_of (figures_of l) k = e ∙ head-is l h.layout k in
        sym (s ∙ rw (part-head at w, d))

  -- block j of part i
  pub part-head-inside : (i j : ℕ) {at : ℕ} → i < l.parts → j < l.m → at ≡ block_head l.n l.parts l.m (i * l.m + j) → at < length w
  part-head-inside i j g s e = head-inside (i * l.m + j) e (part-block l h.layout i g j s)

-- ---- The index blocks read are blocks of the word, and none looks fixed

pub shown : (l : Layout) (w blocks : List ℕ) → CompleteWord l w
    → some (take l.m blocks) ≡ index_found (parts (figures_of l)) l.m (looks_fixed (figures_of l) w) → OpenHeads l w blocks
shown l w blocks h e =
    record {
      finding = h;
      within = λ j g. rw (← same j g) (each_at (λ k. k < p * l.m) ks j (rw count g) (found_within p l.m looks ks found));
      open-heads = λ j g. rw (← same j g) (not-true (looks (get_or ks j 0))
          (each_at (λ k. not (looks k) ≡ true) ks j (rw count g) (taken-bare p l.m looks ks found)));
    }
  where
    p : ℕ
    p = parts (figures_of l)

    ks : List ℕ
    ks = take l.m blocks

    looks : ℕ → Bool
    looks = looks_fixed (figures_of l) w

    found : index_found p l.m looks ≡ some ks
    found = sym e

    count : length ks ≡ l.m
    count = found-count p l.m looks ks (λ g. sym h.layout.parts_is ∙ (parted l h.layout).alike g) found

    same : (j : ℕ) → j < l.m → get_or ks j 0 ≡ get_or blocks j 0
    same j g = get_or-take l.m blocks j 0 g
