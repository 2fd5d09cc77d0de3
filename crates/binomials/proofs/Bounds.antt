-- Which counts fit: out of how many things k can be chosen in at most max_count ways, and what is met on the way there. Assumes nothing.
use mathlib.Core.Path.{◌≡◌, refl, sym, ◌∙◌}
use mathlib.Core.Bool.{Bool, true, false, ◌&&◌, true≢false}
use Prim.Native.Nat.{ℕ, suc, ◌≤◌, ◌<◌}
use native.Mathlib.Omega.{arith}
use lib.Dec.{leb, ltb}
use Rattle.combinatorics.specs.Choose.{choose, quick}
use Rattle.combinatorics.specs.Stretch.{has}
use Rattle.combinatorics.proofs.Cases.{by_le, by_bool, leb-holds}
use Rattle.combinatorics.proofs.Choose.{quick-is, choose-mono}
use Rattle.combinatorics.proofs.Stretch.{has_some}
use Rattle.cells.specs.Figures.{max_count, max_word, max_bursts}
use Rattle.binomials.specs.Limits.{max_taken, most_things}

-- none of a stretch passes
none_has : (n k : ℕ) (w : ℕ → Bool) → has n 0 w ≡ false → k < n → w k ≡ false
none_has n k w none l = by_bool (w k) (λ t. absurd (true≢false (sym (has_some n 0 k w (omega arith) (omega arith) t) ∙ none))) (λ e. e)

-- a number that no test of a stretch finds too large
small : (n k most : ℕ) (v : ℕ → ℕ) → has n 0 (λ x. ltb most (v x)) ≡ false → k < n → v k ≤ most
small n k most v none l =
    by_le (suc most) (v k) (λ _. v k ≤ most)
    (λ g. absurd (true≢false (sym (has_some n 0 k (λ x. ltb most (v x)) (omega arith) (omega arith) (leb-holds (suc most) (v k) g)) ∙ none)))
    (λ g. omega arith)

-- ---- a few things, by one product

-- the largest count of so few
abbrev pub most_few : ℕ
most_few = 9584242993188864

all-few : has (suc max_taken) 0 (λ k. ltb most_few (quick max_word k)) ≡ false
unfolding has quick
all-few = refl

pub choose-few : (n k : ℕ) → n ≤ max_word → k ≤ max_taken → choose n k ≤ most_few
choose-few n k h l = omega (arith, choose-mono k h, quick-is max_word k, small (suc max_taken) k most_few (quick max_word) all-few (omega arith))

-- ---- all that a count can give

-- one computation over every k that is served, and every number that is chosen before it
all_fit : has (suc max_bursts) 0 (λ k. has (suc k) 0 (λ i. ltb max_count (quick (most_things k) i))) ≡ false
unfolding has quick
all_fit = refl

-- and one thing more is too many, but where there are no more
all-over : has (suc max_bursts) 0 (λ k. leb (suc (most_things k)) max_word && leb (quick (suc (most_things k)) k) max_count) ≡ false
unfolding has quick
all-over = refl

pub ways-fit : (n k i : ℕ) → n ≤ most_things k → k ≤ max_bursts → i ≤ k → choose n i ≤ max_count
ways-fit n k i h l s =
    omega (
      arith,
      choose-mono i h,
      quick-is (most_things k) i,
      small (suc k) i max_count (quick (most_things k))
          (none_has (suc max_bursts) k (λ k. has (suc k) 0 (λ i. ltb max_count (quick (most_things k) i))) all_fit (omega arith)) (omega arith),
    )

-- "or say that it exceeds 9223372036854775807"
pub most-is : (n k : ℕ) → n ≤ max_word → k ≤ max_bursts → choose n k ≤ max_count → n ≤ most_things k
most-is n k h l fit =
    by_le n (most_things k) (λ _. n ≤ most_things k) (λ g. g)
    (λ g.
    let m = suc (most_things k) in
    let over : ℕ → Bool = λ k. leb (suc (most_things k)) max_word && leb (quick (suc (most_things k)) k) max_count in
    let little : quick m k ≤ max_count = omega (arith, quick-is m k, choose-mono {a = m} {b = n} k g) in
    let yes : over k ≡ true = rw (leb-holds m max_word (omega arith), leb-holds (quick m k) max_count little) in
    absurd (true≢false (sym (has_some (suc max_bursts) 0 k over (omega arith) (omega arith) yes) ∙ all-over)))
