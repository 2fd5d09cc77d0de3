-- Starts that are found from the last to the first, and stored as they are found. Assumes nothing.
use mathlib.Core.Path.{◌≡◌, refl, sym, ap, ap₂, ◌∙◌}
use mathlib.Core.List.{List, [], ◌∷◌, ◌++◌, reverse_aux}
use Prim.Native.Nat.{ℕ, ◌-◌, ◌≤◌, ◌<◌}
use native.Mathlib.Omega.{arith}
use lib.ListN.{length, drop, set, replicate, length-set}
use Rattle.combinatorics.proofs.Loops.{fill-next, drop-replicate}
use Rattle.cells.specs.Figures.{max_bursts}
use Rattle.construction_a.specs.Outcomes.{Held, held}
use Rattle.placements.specs.declared.Placement.{Placement}
use Rattle.placements.specs.Bridge.{held_as}

abbrev pub placement_of : ℕ → List ℕ → Placement
placement_of m ss = record { starts = ss; count = m }

-- i of the m starts are still to come, falling as in `todo`; with them the placement will hold `all`
pub record Filling (all todo : List ℕ) (m i : ℕ) (p : Placement) : Type 0 where
  pub count : p.count ≡ m
  pub size : length p.starts ≡ max_bursts
  pub fills : reverse_aux todo (drop i p.starts) ≡ all ++ replicate (max_bursts - m) 0

pub fill-first : (all todo : List ℕ) (m : ℕ) → ((rest : List ℕ) → reverse_aux todo rest ≡ all ++ rest)
    → Filling all todo m m (placement_of m (replicate max_bursts 0))
fill-first all todo m h = record {
  count = refl;
  size = refl;
  fills = h (drop m (replicate max_bursts 0)) ∙ ap (λ (zs : List ℕ). all ++ zs) (drop-replicate m max_bursts 0);
}

pub fill-turn : {all todo : List ℕ} {m i : ℕ} {p : Placement} (s : ℕ) (ts : List ℕ) → Filling all todo m i p → todo ≡ s ∷ ts → 0 < i → i ≤ max_bursts
    → Filling all ts m (i - 1) (placement_of p.count (set p.starts (i - 1) s))
fill-turn {all} {todo} {m} {i} {p} s ts f e some few = record {
  count = f.count;
  size = length-set p.starts (i - 1) s ∙ f.size;
  fills = ap (reverse_aux ts) (fill-next p.starts i s some (omega (arith, f.size))) ∙ ap (λ (ds : List ℕ). reverse_aux ds (drop i p.starts)) (sym e)
      ∙ f.fills;
}

pub fill-last : {all : List ℕ} {m : ℕ} {p : Placement} → Filling all [] m 0 p → length all ≡ m → held_as p ≡ held all
fill-last {all} {m} {p} f e =
    let h : List ℕ → ℕ → Held = λ ss k. record { starts = ss; count = k } in
    ap₂ h (f.fills ∙ ap (λ (k : ℕ). all ++ replicate (max_bursts - k) 0) (sym e)) (f.count ∙ sym e)
