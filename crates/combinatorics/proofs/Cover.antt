-- Covering: from the right, each burst ends at the last worn position that is left, or is the leftmost that leaves room for the others. This greedy
-- choice covers whenever some placement does, and no placement that covers has a smaller rank. Assumes nothing.
use mathlib.Core.Path.{◌≡◌, refl, sym, ap, ◌∙◌, subst}
use mathlib.Core.Logic.{◌↔◌}
use mathlib.Core.Bool.{Bool, true, false, not, ◌||◌, ◌&&◌, true≢false, false≢true, or-false}
use mathlib.Core.List.{List, [], ◌∷◌, reverse, reverse_aux, reverse-reverse}
use Prim.Native.Nat.{ℕ, zero, suc, ◌+◌, ◌-◌, ◌*◌, ◌≤◌, ◌<◌, max}
use native.Mathlib.Omega.{arith}
use lib.Dec.{leb, ltb}
use lib.ListN.{length, length-reverse}
use Rattle.combinatorics.specs.Choose.{choose}
use Rattle.combinatorics.specs.Rank.{rank_from}
use Rattle.combinatorics.specs.Stretch.{last_end}
use Rattle.combinatorics.specs.Bursts.{in_burst, placements, reduce_from, rank_of, starts_of, covers, cover_rank}
use Rattle.combinatorics.proofs.Cases.{by_le, by_bool}
use Rattle.combinatorics.proofs.Choose.{choose-mono}
use Rattle.combinatorics.proofs.Stretch.{at-or-past, has-none, has_some, first-true, first-most}
use Rattle.combinatorics.proofs.Bursts.{Placed, by-burst, burst-here, burst-there, rank_lt, starts-of-rank, rank-of-starts}

unfoldable pub greedy_down : (ℕ → Bool) → ℕ → ℕ → ℕ → List ℕ
greedy_down worn b zero n = []
greedy_down worn b (suc m) n = let s = max (last_end worn n - b) (m * b) in s ∷ greedy_down worn b m s

-- runs from the right, the first within n
abbrev pub Down : ℕ → ℕ → List ℕ → Type 0
Down b n [] = Unit {0}
Down b n (t ∷ ts) = (t + b ≤ n) × Down b t ts

abbrev pub Covers : (ℕ → Bool) → ℕ → ℕ → List ℕ → Type 0
Covers worn b n ts = (x : ℕ) → x < n → worn x ≡ true → in_burst b ts x ≡ true

abbrev pub Below : List ℕ → List ℕ → Type 0
Below [] [] = Unit {0}
Below [] (t ∷ ts) = ⊥
Below (s ∷ ss) [] = ⊥
Below (s ∷ ss) (t ∷ ts) = (s ≤ t) × Below ss ts

pub last-le : (worn : ℕ → Bool) (n : ℕ) → last_end worn n ≤ n
unfolding last_end
last-le worn zero = omega arith
last-le worn (suc n) = by_bool (worn n) (λ t. rw t (omega arith)) (λ t. rw t (omega (arith, last-le worn n)))

pub last-all : (worn : ℕ → Bool) (n x : ℕ) → x < n → worn x ≡ true → x < last_end worn n
unfolding last_end
last-all worn zero x h t = absurd (omega arith)
last-all worn (suc n) x h t =
    by_bool (worn n) (λ u. rw u h)
    (λ u. rw u (at-or-past x n (omega arith) (λ e. absurd (true≢false (sym t ∙ (rw e u)))) (λ l. last-all worn n x l t)))

-- the last worn position itself
pub last-is : (worn : ℕ → Bool) (n : ℕ) → 0 < last_end worn n → worn (last_end worn n - 1) ≡ true
unfolding last_end
last-is worn zero h = absurd (omega arith)
last-is worn (suc n) h =
    let e : suc n - 1 ≡ n = omega arith in
    by_bool (worn n) (λ t. rw (t, e) t) (λ t. rw t (last-is worn n (rw t at h)))

pub greedy-down : (worn : ℕ → Bool) (b m n : ℕ) → m * b ≤ n → Down b n (greedy_down worn b m n)
unfolding greedy_down
greedy-down worn b zero n h = tt
greedy-down worn b (suc m) n h =
    let s = max (last_end worn n - b) (m * b) in
    (omega (arith, last-le worn n), greedy-down worn b m s (omega arith))

down-room : (b n : ℕ) (ts : List ℕ) → Down b n ts → length ts * b ≤ n
down-room b n [] h = omega arith
down-room b n (t ∷ ts) (l, h) = omega (arith, down-room b t ts h)

-- a position in the runs is within them
burst-within : (b n : ℕ) (ts : List ℕ) (x : ℕ) → Down b n ts → in_burst b ts x ≡ true → x < n
unfolding in_burst
burst-within b n [] x h t = absurd (false≢true t)
burst-within b n (s ∷ ts) x (l, h) t = by-burst b s x ts t (λ u v. omega arith) (λ r. omega (arith, burst-within b s ts x h r))

-- against any other
pub greedy-least : (worn : ℕ → Bool) (b n top : ℕ) (ts : List ℕ) → Down b top ts → length ts * b ≤ n → Covers worn b n ts
    → Below (greedy_down worn b (length ts) n) ts × Covers worn b n (greedy_down worn b (length ts) n)
unfolding greedy_down
greedy-least worn b n top [] h l c = (tt, c)
greedy-least worn b n top (t ∷ ts) (g, h) l c =
    let e = last_end worn n in
    let u = last-le worn n in
    let s = max (e - b) (length ts * b) in
    let reach : e ≤ t + b =
    by_le 1 e (λ _. e ≤ t + b)
    (λ p. omega (arith, burst-within b (t + b) (t ∷ ts) (e - 1) (omega arith, h) (c (e - 1) (omega arith) (last-is worn n p)))) (λ p. omega arith) in
    let low : s ≤ t = omega (arith, down-room b t ts h) in
    let i = greedy-least worn b s t ts h (omega arith) (λ x k w. by-burst b t x ts (c x (omega arith) w) (λ p _. absurd (omega arith)) (λ r. r)) in (
      (low, i.0),
      λ x k w. by_le s x (λ _. in_burst b (s ∷ greedy_down worn b (length ts) s) x ≡ true)
          (λ p. burst-here b s x (greedy_down worn b (length ts) s) p (omega (arith, last-all worn n x k w)))
          (λ p. burst-there b s x (greedy_down worn b (length ts) s) (i.1 x p w)),
    )

-- the rank, from the right
unfoldable pub rank_right : ℕ → List ℕ → ℕ
rank_right d [] = 0
rank_right d (t ∷ ts) = choose (t - length ts * d) (suc (length ts)) + rank_right d ts

below_length : (ss ts : List ℕ) → Below ss ts → length ss ≡ length ts
below_length [] [] h = refl
below_length [] (t ∷ ts) h = elim h [ ]
below_length (s ∷ ss) [] h = elim h [ ]
below_length (s ∷ ss) (t ∷ ts) (l, h) = ap suc (below_length ss ts h)

pub below-rank : (d : ℕ) (ss ts : List ℕ) → Below ss ts → rank_right d ss ≤ rank_right d ts
unfolding rank_right
below-rank d [] [] h = omega arith
below-rank d [] (t ∷ ts) h = elim h [ ]
below-rank d (s ∷ ss) [] h = elim h [ ]
below-rank d (s ∷ ss) (t ∷ ts) (l, h) =
    let k : s - length ts * d ≤ t - length ts * d = omega arith in
    rw (below_length ss ts h) (omega (arith, choose-mono (suc (length ts)) k, below-rank d ss ts h))

-- ---- the same with the runs listed from the left

raise : (b lo n : ℕ) (acc : List ℕ) → lo ≤ n → Down b lo acc → Down b n acc
raise b lo n [] l d = tt
raise b lo n (t ∷ ts) l d = (omega arith, d.1)

turn-down : (b lo n : ℕ) (ss acc : List ℕ) → Placed b n lo ss → Down b lo acc → Down b n (reverse_aux ss acc)
turn-down b lo n [] acc h k = raise b lo n acc h k
turn-down b lo n (s ∷ ss) acc (l, h) k = turn-down b (s + b) n ss (s ∷ acc) h (omega arith, raise b lo s acc l k)

turn_up : (b n top : ℕ) (ts acc : List ℕ) → Down b n ts → Placed b top n acc → Placed b top 0 (reverse_aux ts acc)
turn_up b n top [] [] h k = omega arith
turn_up b n top [] (s ∷ ss) h k = (omega arith, k.1)
turn_up b n top (t ∷ ts) acc (l, h) k = turn_up b t top ts (t ∷ acc) h (omega arith, lower acc k)
  where
    lower : (acc : List ℕ) → Placed b top n acc → Placed b top (t + b) acc
    lower [] k = omega arith
    lower (s ∷ ss) k = (omega arith, k.1)

turn-burst : (b x : ℕ) (ts acc : List ℕ) → in_burst b (reverse_aux ts acc) x ≡ (in_burst b ts x || in_burst b acc x)
unfolding in_burst
turn-burst b x [] acc = refl
turn-burst b x (t ∷ ts) acc = turn-burst b x ts (t ∷ acc) ∙ swap (leb t x && ltb x (t + b)) (in_burst b ts x) (in_burst b acc x)
  where
    swap : (a c d : Bool) → (c || (a || d)) ≡ ((a || c) || d)
    swap true true d = refl
    swap true false d = refl
    swap false true d = refl
    swap false false d = refl

turn-rank : (d : ℕ) (ss acc : List ℕ) → rank_right d (reverse_aux ss acc) ≡ rank_from (length acc) (reduce_from d (length acc) ss) + rank_right d acc
unfolding rank_right rank_from reduce_from
turn-rank d [] acc = omega arith
turn-rank d (s ∷ ss) acc = omega (arith, turn-rank d ss (s ∷ acc))

pub turned-burst : (b x : ℕ) (ts : List ℕ) → in_burst b (reverse ts) x ≡ in_burst b ts x
unfolding in_burst
turned-burst b x ts = turn-burst b x ts [] ∙ or-false (in_burst b ts x)

turned-rank : (d : ℕ) (ss : List ℕ) → rank_right d (reverse ss) ≡ rank_from 0 (reduce_from d 0 ss)
unfolding rank_right
turned-rank d ss = omega (arith, turn-rank d ss [])

unfoldable pub greedy : (ℕ → Bool) → ℕ → ℕ → ℕ → List ℕ
greedy worn b m n = reverse (greedy_down worn b m n)

length-greedy : (worn : ℕ → Bool) (b m n : ℕ) → length (greedy_down worn b m n) ≡ m
unfolding greedy_down
length-greedy worn b zero n = refl
length-greedy worn b (suc m) n = ap suc (length-greedy worn b m (max (last_end worn n - b) (m * b)))

pub greedy-placed : (worn : ℕ → Bool) (b m n : ℕ) → m * b ≤ n → Placed b n 0 (greedy worn b m n) × (length (greedy worn b m n) ≡ m)
unfolding greedy
greedy-placed worn b m n h =
    (turn_up b n n (greedy_down worn b m n) [] (greedy-down worn b m n h) (omega arith), length-reverse (greedy_down worn b m n) ∙ length-greedy worn b m n)

-- if any placement covers, this one does, and none that does has a smaller rank
pub greedy-best : (worn : ℕ → Bool) (b n : ℕ) (ss : List ℕ) → Placed b n 0 ss → Covers worn b n ss
    → Covers worn b n (greedy worn b (length ss) n) × (rank_of b (greedy worn b (length ss) n) ≤ rank_of b ss)
unfolding greedy rank_of
greedy-best worn b n ss h c =
    let d = b - 1 in
    let ts = reverse ss in
    let m = length ss in
    let D = turn-down b 0 n ss [] h tt in
    let l = greedy-least worn b n n ts D (down-room b n ts D) (λ x k w. turned-burst b x ss ∙ c x k w) in
    let l' : Below (greedy_down worn b m n) ts × Covers worn b n (greedy_down worn b m n) = rw (length-reverse ss) at l in
    let cv = greedy_down worn b m n in (
      λ x k w. turned-burst b x cv ∙ l'.1 x k w,
      omega (arith, below-rank d cv ts l'.0, turned-rank d ss, rw (reverse-reverse cv) at (turned-rank d (reverse cv))),
    )

-- ---- The cover of least rank

-- every worn position is in a burst: as a test and as a fact
pub covers_of : (n b : ℕ) (worn : ℕ → Bool) (ss : List ℕ) → covers n b worn ss ≡ true → Covers worn b n ss
unfolding covers
covers_of n b worn ss e x l w =
    by_bool (in_burst b ss x) (λ t. t)
    (λ t. absurd (true≢false (sym e ∙ ap not (has_some n 0 x (λ y. worn y && not (in_burst b ss y)) (omega arith) (omega arith) (rw (w, t))))))

pub of-covers : (n b : ℕ) (worn : ℕ → Bool) (ss : List ℕ) → Covers worn b n ss → covers n b worn ss ≡ true
unfolding covers
of-covers n b worn ss c =
    rw (has-none n 0 (λ y. worn y && not (in_burst b ss y)) (λ x _ l. by_bool (worn x) (λ w. rw (w, c x (omega arith) w)) (λ w. rw w)))

module _ (n m b : ℕ) (worn : ℕ → Bool) (some : 0 < b) where
  test : ℕ → Bool
  test v = covers n b worn (starts_of n m b v)

  -- "the placement of least rank": no placement that covers has a smaller one, and there is one exactly when the rank is below T
  pub cover-least : (ss : List ℕ) → Placed b n 0 ss → length ss ≡ m → Covers worn b n ss → cover_rank n m b worn ≤ rank_of b ss
  unfolding cover_rank test
  cover-least ss h e c =
      first-most (placements n m b) 0 (rank_of b ss) test (omega arith) (omega (arith, rank_lt n m b some ss h e))
      (rw (starts-of-rank n m b some ss h e) (of-covers n b worn ss c))

  pub record Cover (ss : List ℕ) : Type 0 where
    pub placed : Placed b n 0 ss
    pub count : length ss ≡ m
    pub all : Covers worn b n ss

  pub cover-is : m * b ≤ n → cover_rank n m b worn < placements n m b → Cover (starts_of n m b (cover_rank n m b worn))
  unfolding cover_rank test
  cover-is room l =
      let r = rank-of-starts n m b some room (cover_rank n m b worn) l in
      record {
        placed = r.placed;
        count = r.count;
        all = covers_of n b worn (starts_of n m b (cover_rank n m b worn)) (first-true (placements n m b) 0 test (omega arith));
      }

  pub covered-iff : m * b ≤ n → (cover_rank n m b worn < placements n m b) ↔ ((ss : List ℕ) × Cover ss)
  covered-iff room = (
    λ l. (starts_of n m b (cover_rank n m b worn), cover-is room l),
    λ c. omega (arith, cover-least c.0 c.1.placed c.1.count c.1.all, rank_lt n m b some c.0 c.1.placed c.1.count),
  )

  -- the greedy choice is that cover, and it covers exactly when there is one
  pub greedy-is : m * b ≤ n → cover_rank n m b worn < placements n m b → starts_of n m b (cover_rank n m b worn) ≡ greedy worn b m n
  greedy-is room l =
      let c = cover-is room l in
      let r = rank-of-starts n m b some room (cover_rank n m b worn) l in
      let g = greedy-placed worn b m n room in
      let best = rw c.count at (greedy-best worn b n (starts_of n m b (cover_rank n m b worn)) c.placed c.all) in
      let e : rank_of b (greedy worn b m n) ≡ cover_rank n m b worn =
      omega (arith, best.1, r.rank, cover-least (greedy worn b m n) g.0 g.1 best.0) in
      rw e at (starts-of-rank n m b some (greedy worn b m n) g.0 g.1)

  pub greedy-covers : m * b ≤ n → (cover_rank n m b worn < placements n m b) ↔ Covers worn b n (greedy worn b m n)
  greedy-covers room =
      let g = greedy-placed worn b m n room in (
        λ l. subst (Covers worn b n) (greedy-is room l) (cover-is room l).all,
        λ c. (covered-iff room).1 (greedy worn b m n, record { placed = g.0; count = g.1; all = c }),
      )
