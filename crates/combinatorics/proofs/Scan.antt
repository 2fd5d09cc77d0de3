-- The greedy cover by a scan from the right: how it goes on, burst by burst, and how it shows at its end whether every defect is covered.
-- Assumes nothing.
use mathlib.Core.Path.{◌≡◌, refl, sym, ◌∙◌}
use mathlib.Core.Logic.{◌≢◌}
use mathlib.Core.Bool.{Bool, true, false, true≢false}
use mathlib.Core.List.{List, [], ◌∷◌, ◌++◌, reverse_aux, reverse_aux-eq}
use Prim.Native.Nat.{ℕ, zero, suc, ◌-◌, ◌*◌, ◌≤◌, ◌<◌, max}
use native.Mathlib.Omega.{arith}
use Rattle.combinatorics.specs.Bursts.{in_burst, placements, cover_rank}
use Rattle.combinatorics.proofs.Cases.{by_le}
use Rattle.combinatorics.proofs.Bursts.{by-burst, burst-here, burst-there}
use Rattle.combinatorics.specs.Stretch.{last_end}
use Rattle.combinatorics.proofs.Cover.{greedy_down, greedy, Covers, last-le, last-all, last-is, turned-burst, greedy-covers}

-- ---- the last defect

pub last_none : (worn : ℕ → Bool) → last_end worn 0 ≡ 0
unfolding last_end
last_none worn = refl

pub last-here : (worn : ℕ → Bool) (n : ℕ) → 0 < n → worn (n - 1) ≡ true → last_end worn n ≡ n
unfolding last_end
last-here worn zero h t = refl
last-here worn (suc n) h t =
    let e : suc n - 1 ≡ n = omega arith in
    let u : worn n ≡ true = rw e at t in
    rw u

pub last-before : (worn : ℕ → Bool) (n : ℕ) → worn (n - 1) ≡ false → last_end worn n ≡ last_end worn (n - 1)
unfolding last_end
last-before worn zero t = refl
last-before worn (suc n) t =
    let e : suc n - 1 ≡ n = omega arith in
    let u : worn n ≡ false = rw e at t in
    rw (e, u)

-- where the last defect below n lies below s too, it is the last below s
pub last-stays : (worn : ℕ → Bool) (s n : ℕ) → s ≤ n → last_end worn n ≤ s → last_end worn s ≡ last_end worn n
last-stays worn s n h l =
    let a = last_end worn s in
    let e = last_end worn n in
    let up : a ≤ e =
    by_le 1 a (λ _. a ≤ e) (λ p. omega (arith, last-all worn n (a - 1) (omega (arith, last-le worn s)) (last-is worn s p))) (λ p. omega arith) in
    let down : e ≤ a =
    by_le 1 e (λ _. e ≤ a) (λ p. omega (arith, last-all worn s (e - 1) (omega arith) (last-is worn n p))) (λ p. omega arith) in
    omega arith

-- ---- burst by burst

-- where the last of i bursts starts, when what lies below n is still to be covered
abbrev pub burst_start : (ℕ → Bool) → ℕ → ℕ → ℕ → ℕ
burst_start worn b i n = max (last_end worn n - b) ((i - 1) * b)

-- the start of the leftmost burst, or n where there is none
unfoldable pub leftmost : (ℕ → Bool) → ℕ → ℕ → ℕ → ℕ
leftmost worn b zero n = n
leftmost worn b (suc m) n = leftmost worn b m (max (last_end worn n - b) (m * b))

pub leftmost-none : (worn : ℕ → Bool) (b n : ℕ) → leftmost worn b 0 n ≡ n
unfolding leftmost
leftmost-none worn b n = refl

pub leftmost-next : (worn : ℕ → Bool) (b i n : ℕ) → 0 < i → leftmost worn b i n ≡ leftmost worn b (i - 1) (burst_start worn b i n)
unfolding leftmost
leftmost-next worn b zero n h = absurd (omega arith)
leftmost-next worn b (suc k) n h =
    let e : suc k - 1 ≡ k = omega arith in
    rw e

pub greedy-none : (worn : ℕ → Bool) (b n : ℕ) → greedy_down worn b 0 n ≡ []
unfolding greedy_down
greedy-none worn b n = refl

pub greedy-next : (worn : ℕ → Bool) (b i n : ℕ) → 0 < i → greedy_down worn b i n ≡ burst_start worn b i n ∷ greedy_down worn b (i - 1) (burst_start worn b i n)
unfolding greedy_down
greedy-next worn b zero n h = absurd (omega arith)
greedy-next worn b (suc k) n h =
    let e : suc k - 1 ≡ k = omega arith in
    rw e

-- there is room for the burst, and for those before it
pub burst-room : (worn : ℕ → Bool) (b i n : ℕ) → 0 < i → i * b ≤ n → ((i - 1) * b ≤ burst_start worn b i n) × (burst_start worn b i n ≤ n)
burst-room worn b zero n h l = absurd (omega arith)
burst-room worn b (suc k) n h l =
    let e : suc k - 1 ≡ k = omega arith in
    rw e (omega arith, omega (arith, last-le worn n))

-- ---- at the end

leftmost-le : (worn : ℕ → Bool) (b m n : ℕ) → m * b ≤ n → leftmost worn b m n ≤ n
unfolding leftmost
leftmost-le worn b zero n h = omega arith
leftmost-le worn b (suc m) n h =
    let s = max (last_end worn n - b) (m * b) in
    omega (arith, last-le worn n, leftmost-le worn b m s (omega arith))

burst-past : (worn : ℕ → Bool) (b m n x : ℕ) → m * b ≤ n → in_burst b (greedy_down worn b m n) x ≡ true → leftmost worn b m n ≤ x
unfolding leftmost greedy_down in_burst
burst-past worn b zero n x h t = absurd (true≢false (sym t))
burst-past worn b (suc m) n x h t =
    let s = max (last_end worn n - b) (m * b) in
    by-burst b s x (greedy_down worn b m s) t (λ p _. omega (arith, leftmost-le worn b m s (omega arith))) (λ r. burst-past worn b m s x (omega arith) r)

-- no defect left of the leftmost burst: every defect is covered; and the other way round
clean-covers : (worn : ℕ → Bool) (b m n : ℕ) → last_end worn (leftmost worn b m n) ≡ 0 → Covers worn b n (greedy_down worn b m n)
unfolding leftmost greedy_down
clean-covers worn b zero n e x l w = absurd (omega (arith, last-all worn n x l w))
clean-covers worn b (suc m) n e x l w =
    let s = max (last_end worn n - b) (m * b) in
    by_le s x (λ _. in_burst b (s ∷ greedy_down worn b m s) x ≡ true)
    (λ p. burst-here b s x (greedy_down worn b m s) p (omega (arith, last-all worn n x l w)))
    (λ p. burst-there b s x (greedy_down worn b m s) (clean-covers worn b m s e x p w))

covers-clean : (worn : ℕ → Bool) (b m n : ℕ) → m * b ≤ n → Covers worn b n (greedy_down worn b m n) → last_end worn (leftmost worn b m n) ≡ 0
covers-clean worn b m n h c =
    let t = leftmost worn b m n in
    let e = last_end worn t in
    let u = last-le worn t in
    by_le 1 e (λ _. e ≡ 0)
    (λ p. absurd (omega (arith, burst-past worn b m n (e - 1) h (c (e - 1) (omega (arith, leftmost-le worn b m n h)) (last-is worn t p)))))
    (λ p. omega arith)

-- so the scan shows whether there is a cover
module _ (n m b : ℕ) (worn : ℕ → Bool) (some : 0 < b) (room : m * b ≤ n) where
  pub scan-covers : last_end worn (leftmost worn b m n) ≡ 0 → cover_rank n m b worn < placements n m b
  unfolding greedy
  scan-covers e =
      (greedy-covers n m b worn some room).1 (λ x l w. turned-burst b x (greedy_down worn b m n) ∙ clean-covers worn b m n e x l w)

  pub scan-fails : last_end worn (leftmost worn b m n) ≢ 0 → placements n m b ≤ cover_rank n m b worn
  unfolding greedy
  scan-fails f =
      by_le (suc (cover_rank n m b worn)) (placements n m b) (λ _. placements n m b ≤ cover_rank n m b worn)
      (λ l. absurd (f (covers-clean worn b m n room (λ x k w. sym (turned-burst b x (greedy_down worn b m n)) ∙ (greedy-covers n m b worn some room).0 l x k w))))
      (λ l. omega arith)

pub greedy-turned : (worn : ℕ → Bool) (b m n : ℕ) (rest : List ℕ) → reverse_aux (greedy_down worn b m n) rest ≡ greedy worn b m n ++ rest
unfolding greedy
greedy-turned worn b m n rest = reverse_aux-eq (greedy_down worn b m n) rest
