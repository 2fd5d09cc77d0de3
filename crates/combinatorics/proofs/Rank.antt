-- Rank and unrank undo one another: first over falling numbers, then over ascending ones. Assumes nothing.
use mathlib.Core.Path.{◌≡◌, refl, sym, ap, ◌∙◌}
use mathlib.Core.List.{List, [], ◌∷◌, reverse, reverse_aux, reverse-reverse}
use Prim.Native.Nat.{ℕ, zero, suc, ◌+◌, ◌-◌, ◌≤◌, ◌<◌}
use native.Mathlib.Nat.{add-sub_cancel_left}
use native.Mathlib.Omega.{arith}
use lib.ListN.{length, length-reverse}
use Rattle.combinatorics.specs.Choose.{choose}
use Rattle.combinatorics.specs.Stretch.{top}
use Rattle.combinatorics.specs.Rank.{rank_from, ways_from, unrank_down, unrank}
use Rattle.combinatorics.proofs.Choose.{pascal, choose-mono, choose-zero, choose-none}
use Rattle.combinatorics.proofs.Stretch.{IsTop, top-is, top-only}

-- numbers that fall, all below n
abbrev pub Falling : ℕ → List ℕ → Type 0
Falling n [] = Unit {0}
Falling n (c ∷ cs) = (c < n) × Falling c cs

unfoldable pub rank_down : List ℕ → ℕ
rank_down [] = 0
rank_down (c ∷ cs) = choose c (suc (length cs)) + rank_down cs

pub rank_lt : (n : ℕ) (cs : List ℕ) → Falling n cs → rank_down cs < choose n (length cs)
unfolding rank_down
rank_lt n [] h = omega (arith, choose-zero n)
rank_lt n (c ∷ cs) (h, k) = omega (arith, rank_lt c cs k, pascal c (length cs), choose-mono (suc (length cs)) h)

-- of the first number
rank-top : (n c : ℕ) (cs : List ℕ) → c < n → Falling c cs → IsTop (ways_from (suc (length cs))) n (rank_down (c ∷ cs)) c
unfolding rank_down
rank-top n c cs h k = record { below = h; reach = omega arith; past = omega (arith, rank_lt c cs k, pascal c (length cs)) }

pub unrank-rank : (n : ℕ) (cs : List ℕ) → Falling n cs → unrank_down n (length cs) (rank_down cs) ≡ cs
unfolding rank_down unrank_down
unrank-rank n [] h = refl
unrank-rank n (c ∷ cs) (h, k) =
    let w = length cs in
    let v = choose c (suc w) + rank_down cs in
    let e : top (ways_from (suc w)) n v ≡ c =
    top-only (ways_from (suc w)) (λ a b l. choose-mono (suc w) l)
    (top-is (ways_from (suc w)) n v (omega (arith, choose-none w)) (rank_lt n (c ∷ cs) (h, k))) (rank-top n c cs h k) in
    rw (e, add-sub_cancel_left, unrank-rank c cs k)

pub record Unranked (n k v : ℕ) (cs : List ℕ) : Type 0 where
  pub falls : Falling n cs
  pub count : length cs ≡ k
  pub same : rank_down cs ≡ v

pub rank-unrank : (n k v : ℕ) → v < choose n k → Unranked n k v (unrank_down n k v)
unfolding rank_down unrank_down
rank-unrank n zero v h = record { falls = tt; count = refl; same = omega (arith, choose-zero n) }
rank-unrank n (suc k) v h =
    let c = top (ways_from (suc k)) n v in
    let t = top-is (ways_from (suc k)) n v (omega (arith, choose-none k)) h in
    let i = rank-unrank c k (v - choose c (suc k)) (omega (arith, t.past, t.reach, pascal c k)) in
    record { falls = (t.below, i.falls); count = ap suc i.count; same = rw (i.count, i.same) (omega (arith, t.reach)) }

-- ---- the same over rising numbers, numbered from the left, as the paper has it

-- numbers that rise, from lo on and below n
abbrev pub Rising : ℕ → ℕ → List ℕ → Type 0
Rising lo n [] = lo ≤ n
Rising lo n (c ∷ cs) = (lo ≤ c) × Rising (suc c) n cs

turn-rank : (cs acc : List ℕ) → rank_down (reverse_aux cs acc) ≡ rank_from (length acc) cs + rank_down acc
unfolding rank_down rank_from
turn-rank [] acc = omega arith
turn-rank (c ∷ cs) acc = omega (arith, turn-rank cs (c ∷ acc))

falling-up : (a b : ℕ) (cs : List ℕ) → a ≤ b → Falling a cs → Falling b cs
falling-up a b [] l h = tt
falling-up a b (c ∷ cs) l h = (omega arith, h.1)

rising_down : (a b n : ℕ) (cs : List ℕ) → a ≤ b → Rising b n cs → Rising a n cs
rising_down a b n [] l h = omega arith
rising_down a b n (c ∷ cs) l h = (omega arith, h.1)

turn-falls : (lo n : ℕ) (cs acc : List ℕ) → Rising lo n cs → Falling lo acc → Falling n (reverse_aux cs acc)
turn-falls lo n [] acc h k = falling-up lo n acc h k
turn-falls lo n (c ∷ cs) acc (h, g) k = turn-falls (suc c) n cs (c ∷ acc) g (omega arith, falling-up lo c acc h k)

turn-rises : (n m : ℕ) (cs acc : List ℕ) → Falling n cs → Rising n m acc → Rising 0 m (reverse_aux cs acc)
turn-rises n m [] acc h k = rising_down 0 n m acc (omega arith) k
turn-rises n m (c ∷ cs) acc (h, g) k = turn-rises c m cs (c ∷ acc) g (omega arith, rising_down (suc c) n m acc h k)

pub record Ranked (n k v : ℕ) (cs : List ℕ) : Type 0 where
  pub rises : Rising 0 n cs
  pub count : length cs ≡ k
  pub same : rank_from 0 cs ≡ v

turned : (cs : List ℕ) → rank_down (reverse cs) ≡ rank_from 0 cs
unfolding rank_down
turned cs = omega (arith, turn-rank cs [])

pub rank_below : (n : ℕ) (cs : List ℕ) → Rising 0 n cs → rank_from 0 cs < choose n (length cs)
rank_below n cs h = rw (← turned cs, ← length-reverse cs) (rank_lt n (reverse cs) (turn-falls 0 n cs [] h tt))

pub rank-of-unrank : (n k v : ℕ) → v < choose n k → Ranked n k v (unrank n k v)
unfolding unrank
rank-of-unrank n k v h =
    let u = rank-unrank n k v h in
    let ds = unrank_down n k v in
    record {
      rises = turn-rises n n ds [] u.falls (omega arith);
      count = length-reverse ds ∙ u.count;
      same = sym (turned (reverse ds)) ∙ ap rank_down (reverse-reverse ds) ∙ u.same;
    }

pub unrank-of-rank : (n : ℕ) (cs : List ℕ) → Rising 0 n cs → unrank n (length cs) (rank_from 0 cs) ≡ cs
unfolding unrank
unrank-of-rank n cs h =
    rw (← turned cs, ← length-reverse cs, unrank-rank n (reverse cs) (turn-falls 0 n cs [] h tt)) (reverse-reverse cs)
