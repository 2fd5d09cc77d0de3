-- A test of each lane, one after another, and what a word's answer says. Assumes nothing.
use mathlib.Core.Path.{◌≡◌, refl}
use mathlib.Core.Bool.{Bool, true, false, not}
use Prim.Native.Nat.{ℕ, zero, suc, ◌+◌, ◌≤◌, ◌<◌, ◌-◌}
use native.Mathlib.Omega.{arith}
use Rattle.combinatorics.specs.Lists.{all}
use Rattle.combinatorics.specs.Stretch.{tabulate, consecutive}
use Rattle.combinatorics.proofs.Cases.{by-eq}
use Rattle.combinatorics.proofs.Lists.{both}
use mathlib.Core.List.{List}
use Rattle.combinatorics.proofs.Cases.{eqb-other}
use Rattle.std.specs.Prelude.{Result, Ok, Err}
use Rattle.std.specs.Result.{is_err}
use Rattle.refusals.specs.Refusals.{served}
use Rattle.refusals.specs.Numbers.{number_of}
use Rattle.refusals.specs.declared.Refusal.{Refusal}
use Rattle.refusals.proofs.Numbers.{never-served}
use Rattle.placements.specs.declared.Placement.{Placement}
use Rattle.placements.specs.Bridge.{covered_as}
use lib.Dec.{eqb}
use Rattle.cells.specs.Outcomes.{Coding, unplaced, encode_under}
use Rattle.cells.proofs.Figures.{ranged}
use Rattle.params.specs.Bridge.{given}
use Rattle.codes.specs.declared.Figures.{Figures}
use Rattle.codes.specs.declared.Figures.TheVariants.{Ranked, Long, Larsson}
use Rattle.codes.specs.declared.WordLayout.{WordLayout}
use Rattle.codes.specs.Bridge.{coding_of}
use Rattle.codes.specs.Given.{coding_in, Serves}
use Rattle.codes.proofs.Layouts.{in_order, under-layout}

module _ (p : ℕ → Bool) (d j : ℕ) where
  -- lane j passes, and those behind it are left
  pub passes_on : j < d → p j ≡ true → all p (consecutive (d - j) j) ≡ all p (consecutive (d - (j + 1)) (j + 1))
  unfolding all tabulate
  passes_on l e =
      let s : d - j ≡ suc (d - (j + 1)) = omega arith in
      let z : j + 1 ≡ suc j = omega arith in
      rw (s, e, z)

  pub fails-here : j < d → p j ≡ false → all p (consecutive (d - j) j) ≡ false
  unfolding all tabulate
  fails-here l e = let s : d - j ≡ suc (d - (j + 1)) = omega arith in rw (s, e)

  pub none_left : d ≤ j → all p (consecutive (d - j) j) ≡ true
  unfolding all tabulate
  none_left l = let s : d - j ≡ 0 = omega arith in rw s

-- ---- A map that can't be covered keeps its place: every code has a burst, and the placement beside the refusal has none

least : (f : Figures) → (coding_of f).in_range ≡ true → (coding_of f).fits ≡ true → 1 ≤ (coding_of f).bursts
least (Ranked p) i h = (ranged (given p) i).m-least
least (Long p) i h = omega arith
least (Larsson p) i h = (ranged (given p) i).m-least

pub uncovered-keeps : (l : WordLayout) → Serves l → (a : ℕ) (ms map : List ℕ) → (encode_under (coding_in l) (unplaced a).placement ms map).word ≡ map
uncovered-keeps l g a ms map =
    let some = under-layout (λ (d : Coding). 1 ≤ d.bursts) least l g in
    rw ((in_order l g).0, (in_order l g).1, eqb-other 0 (coding_in l).bursts (λ e. omega (arith, e, some)))

-- what covering answers is 0 exactly where it isn't refused
pub covers : (r : Result Placement Refusal) → eqb (covered_as r).answer served ≡ not (is_err r)
covers (Ok at) = refl
covers (Err x) = eqb-other (number_of x) served (never-served x)

-- ---- Lane by lane

-- what holds of a stretch holds of each in it
pub each-passes : (p : ℕ → Bool) (n k : ℕ) → all p (consecutive n k) ≡ true → (j : ℕ) → k ≤ j → j < k + n → p j ≡ true
unfolding all tabulate
each-passes p zero k e j a b = absurd (omega arith)
each-passes p (suc n) k e j a b =
    let h = both (p k) (all p (consecutive n (suc k))) e in
    by-eq j k (λ _. p j ≡ true) (λ s. rw s h.0) (λ s. each-passes p n (suc k) h.1 j (omega arith) (omega arith))

pub all_of_each : (p : ℕ → Bool) (n k : ℕ) → ((j : ℕ) → k ≤ j → j < k + n → p j ≡ true) → all p (consecutive n k) ≡ true
unfolding all tabulate
all_of_each p zero k h = refl
all_of_each p (suc n) k h = rw (h k (omega arith) (omega arith)) (all_of_each p n (suc k) (λ j a b. h j (omega arith) (omega arith)))
