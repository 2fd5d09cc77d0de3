-- What a layout of figures that fit and a placement of theirs give, and the loop that marks the burst blocks. Assumes nothing.
use mathlib.Core.Path.{◌≡◌, refl, ap, ◌∙◌, fun_ext}
use mathlib.Core.Bool.{false}
use mathlib.Core.List.{List, [], ◌∷◌, map}
use Prim.Native.Nat.{ℕ, zero, suc, ◌+◌, ◌-◌, ◌≤◌, ◌<◌}
use native.Mathlib.Numerals.{add-one}
use native.Mathlib.Omega.{arith}
use lib.ListN.{length, get_or, drop, set, replicate, length-map, length-set, drop_of_length-le}
use lib.Seq.{get_or-set_same, get_or-set_other}
use Rattle.combinatorics.specs.Stretch.{count}
use Rattle.combinatorics.proofs.Cases.{by-eq, eqb-other}
use Rattle.combinatorics.proofs.Stretch.{count_none}
use Rattle.cells.specs.Figures.{Params}
use Rattle.construction_a.specs.Figures.{blocks, block_of}
use Rattle.construction_a.specs.Writing.{becomes, with_burst, with_bursts, last_blocks, is_burst}
use Rattle.construction_a.proofs.Rule.{with_burst-count}
use Rattle.params.specs.Given.{max_blocks}
use Rattle.blocks.specs.Blocks.{burst_kind, burst_set, BurstsOf}
use Rattle.blocks.proofs.BlockSets.{set-burst, becomes-in}

-- ---- The loop over the bursts

-- the first j bursts have their blocks
pub record Bursting (f : Params) (ss : List ℕ) (j : ℕ) (kinds : List ℕ) : Type 0 where
  pub rest : with_bursts (blocks f) (drop j (last_blocks f ss)) (burst_set kinds) ≡ is_burst f ss
  pub marked : count (blocks f) 0 (burst_set kinds) ≡ j
  pub two : (k : ℕ) → get_or kinds k 0 ≤ burst_kind
  pub size : length kinds ≡ max_blocks

zeros : (n k : ℕ) → ◌≡◌ {A = ℕ} (get_or (replicate n 0) k 0) 0
zeros zero k = refl
zeros (suc n) zero = refl
zeros (suc n) (suc k) = zeros n k

none-marked : (n : ℕ) → burst_set (replicate n 0) ≡ (λ _. false)
unfolding burst_set
none-marked n = fun_ext (λ k. rw (zeros n k) (eqb-other 0 1 (omega arith)))

pub bursting-start : (f : Params) (ss : List ℕ) → Bursting f ss 0 (replicate max_blocks 0)
unfolding is_burst
bursting-start f ss =
    record {
      rest = ap (with_bursts (blocks f) (last_blocks f ss)) (none-marked max_blocks);
      marked = rw (none-marked max_blocks) (count_none (blocks f) 0 (λ _. false) (λ x _ _. refl));
      two = λ k. omega (arith, zeros max_blocks k);
      size = refl;
    }

next_of : {A : Type 0} (g : ℕ → A) (ss : List ℕ) (j : ℕ) → j < length ss → drop j (map g ss) ≡ g (get_or ss j 0) ∷ drop (suc j) (map g ss)
next_of g [] j h = absurd (omega arith)
next_of g (s ∷ ss) zero h = refl
next_of g (s ∷ ss) (suc j) h = next_of g ss j (omega arith)

pub bursting-turn : (f : Params) (ss : List ℕ) (j last : ℕ) (kinds : List ℕ) → Bursting f ss j kinds → j < length ss → last ≡ block_of f (get_or ss j 0 + f.b - 1)
    → last < blocks f → j < blocks f → blocks f ≤ max_blocks → Bursting f ss (j + 1) (set kinds (becomes (blocks f) (burst_set kinds) last) burst_kind)
unfolding with_bursts
bursting-turn f ss j last kinds s h e l c m =
    let n = blocks f in
    let B = burst_set kinds in
    let at = becomes n B last in
    let room : count n 0 B < n = omega (arith, s.marked) in
    let in_array : at < length kinds = omega (arith, s.size, becomes-in kinds n last l room) in
    let more : burst_set (set kinds at burst_kind) ≡ with_burst n B last = set-burst kinds n last at in_array refl in
    record {
      rest = rw (add-one j, more) (rw (next_of (λ x. block_of f (x + f.b - 1)) ss j h, ← e) at s.rest);
      marked = rw more (with_burst-count n last B l room ∙ omega (arith, s.marked));
      two = λ k. by-eq k at (λ _. get_or (set kinds at burst_kind) k 0 ≤ burst_kind) (λ d. rw (d, get_or-set_same kinds at burst_kind 0 in_array) (omega arith))
          (λ d. rw (get_or-set_other kinds at k burst_kind 0 d) (s.two k));
      size = length-set kinds at burst_kind ∙ s.size;
    }

pub bursting-done : (f : Params) (ss : List ℕ) (kinds : List ℕ) → Bursting f ss (length ss) kinds → BurstsOf f ss kinds
unfolding with_bursts
bursting-done f ss kinds s =
    let e : drop (length ss) (last_blocks f ss) ≡ [] = drop_of_length-le (last_blocks f ss) {i = length ss}
    (omega (arith, length-map ss (λ x. block_of f (x + f.b - 1)))) in
    record { set = rw e at s.rest; two = s.two }
