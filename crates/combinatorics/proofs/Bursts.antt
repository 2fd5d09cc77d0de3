-- Laws of placements: rank is a bijection from the placements of m bursts onto 0 .. T − 1, and how many positions the bursts have. Assumes nothing.
use mathlib.Core.Path.{◌≡◌, refl, sym, ap, ◌∙◌, subst}
use mathlib.Core.Bool.{true, false, ◌||◌, ◌&&◌, false≢true, or-true}
use mathlib.Core.List.{List, [], ◌∷◌}
use Prim.Native.Nat.{ℕ, zero, suc, ◌+◌, ◌-◌, ◌*◌, ◌≤◌, ◌<◌}
use native.Mathlib.Nat.{add-sub_cancel}
use native.Mathlib.Omega.{arith}
use lib.Dec.{leb, ltb}
use lib.ListN.{length, get_or}
use Rattle.combinatorics.specs.Rank.{unrank}
use Rattle.combinatorics.specs.Stretch.{bit, count}
use Rattle.combinatorics.specs.Bursts.{apart, in_burst, contracted, placements, reduce_from, expand_from, rank_of, starts_of}
use Rattle.combinatorics.proofs.Cases.{by_le, by_bool, leb-holds, leb-fails}
use Rattle.combinatorics.proofs.Stretch.{at-or-past, sum-append, count_none, count-all, count-ext}
use Rattle.combinatorics.proofs.Rank.{Rising, rank_below, rank-of-unrank, unrank-of-rank}

-- ---- Placements as facts

-- bursts of b from lo on, disjoint and within n
abbrev pub Placed : ℕ → ℕ → ℕ → List ℕ → Type 0
Placed b n lo [] = lo ≤ n
Placed b n lo (s ∷ ss) = (lo ≤ s) × Placed b n (s + b) ss

pub placed_of : (b n lo : ℕ) (ss : List ℕ) → apart b n lo ss ≡ true → Placed b n lo ss
unfolding apart
placed_of b n lo [] = by_le lo n (λ t. t ≡ true → lo ≤ n) (λ l _. l) (λ _ e. absurd (false≢true e))
placed_of b n lo (s ∷ ss) =
    by_le lo s (λ t. (t && apart b n (s + b) ss) ≡ true → (lo ≤ s) × Placed b n (s + b) ss) (λ l e. (l, placed_of b n (s + b) ss e))
    (λ _ e. absurd (false≢true e))

pub of-placed : (b n lo : ℕ) (ss : List ℕ) → Placed b n lo ss → apart b n lo ss ≡ true
unfolding apart
of-placed b n lo [] h = leb-holds lo n h
of-placed b n lo (s ∷ ss) (l, h) = rw (leb-holds lo s l) (of-placed b n (s + b) ss h)

pub placed-room : (b n lo : ℕ) (ss : List ℕ) → Placed b n lo ss → lo + length ss * b ≤ n
placed-room b n lo [] h = omega arith
placed-room b n lo (s ∷ ss) (l, h) = omega (arith, placed-room b n (s + b) ss h)

pub placed_end : (b n lo : ℕ) (ss : List ℕ) → Placed b n lo ss → lo ≤ n
placed_end b n lo [] h = h
placed_end b n lo (s ∷ ss) (l, h) = omega (arith, placed_end b n (s + b) ss h)

-- ---- Reduced starts

placed-rises : (d n z k lo at : ℕ) (ss : List ℕ) → at ≡ lo + k * d → n ≡ z + (k + length ss) * d → Placed (suc d) n at ss → Rising lo z (reduce_from d k ss)
unfolding reduce_from
placed-rises d n z k lo at [] e f h = omega arith
placed-rises d n z k lo at (s ∷ ss) e f (h, g) = (omega arith, placed-rises d n z (suc k) (suc (s - k * d)) (s + suc d) ss (omega arith) (omega arith) g)

rises-placed : (d n z k lo at : ℕ) (cs : List ℕ) → at ≡ lo + k * d → n ≡ z + (k + length cs) * d → Rising lo z cs → Placed (suc d) n at (expand_from d k cs)
unfolding expand_from
rises-placed d n z k lo at [] e f h = omega arith
rises-placed d n z k lo at (c ∷ cs) e f (h, g) = (omega arith, rises-placed d n z (suc k) (suc c) (c + k * d + suc d) cs (omega arith) (omega arith) g)

reduce-expand : (d k : ℕ) (cs : List ℕ) → reduce_from d k (expand_from d k cs) ≡ cs
unfolding reduce_from expand_from
reduce-expand d k [] = refl
reduce-expand d k (c ∷ cs) = rw (add-sub_cancel, reduce-expand d (suc k) cs)

expand-reduce : (d n k at : ℕ) (ss : List ℕ) → k * d ≤ at → Placed (suc d) n at ss → expand_from d k (reduce_from d k ss) ≡ ss
unfolding reduce_from expand_from
expand-reduce d n k at [] l h = refl
expand-reduce d n k at (s ∷ ss) l (h, g) =
    let e : s - k * d + k * d ≡ s = omega arith in
    rw (e, expand-reduce d n (suc k) (s + suc d) ss (omega arith) g)

pub length-reduce : (d k : ℕ) (ss : List ℕ) → length (reduce_from d k ss) ≡ length ss
unfolding reduce_from
length-reduce d k [] = refl
length-reduce d k (s ∷ ss) = ap suc (length-reduce d (suc k) ss)

pub length-expand : (d k : ℕ) (cs : List ℕ) → length (expand_from d k cs) ≡ length cs
unfolding expand_from
length-expand d k [] = refl
length-expand d k (c ∷ cs) = ap suc (length-expand d (suc k) cs)

-- ---- The rank is a bijection

-- of the placements of m bursts of b among n positions
module _ (n m b : ℕ) (some : 0 < b) where
  b-is : b ≡ suc (b - 1)
  b-is = omega arith

  module _ (ss : List ℕ) (h : Placed b n 0 ss) (e : length ss ≡ m) where
    placed : Placed (suc (b - 1)) n 0 ss
    placed = subst (λ (y : ℕ). Placed y n 0 ss) b-is h

    rises : Rising 0 (contracted n m b) (reduce_from (b - 1) 0 ss)
    rises =
        placed-rises (b - 1) n (contracted n m b) 0 0 0 ss (omega arith)
        (omega (arith, placed-room b n 0 ss h, e, ap (λ (y : ℕ). y * (b - 1)) e, ap (λ (y : ℕ). y * b) e, ap (λ (y : ℕ). m * y) b-is)) placed

    pub rank_lt : rank_of b ss < placements n m b
    unfolding rank_of placements
    rank_lt = rw (length-reduce (b - 1) 0 ss ∙ e) at (rank_below (contracted n m b) (reduce_from (b - 1) 0 ss) rises)

    pub starts-of-rank : starts_of n m b (rank_of b ss) ≡ ss
    unfolding starts_of rank_of
    starts-of-rank =
        rw (rw (length-reduce (b - 1) 0 ss ∙ e) at (unrank-of-rank (contracted n m b) (reduce_from (b - 1) 0 ss) rises))
        (expand-reduce (b - 1) n 0 0 ss (omega arith) placed)

  pub record RankedAs (v : ℕ) (ss : List ℕ) : Type 0 where
    pub placed : Placed b n 0 ss
    pub count : length ss ≡ m
    pub rank : rank_of b ss ≡ v

  pub rank-of-starts : m * b ≤ n → (v : ℕ) → v < placements n m b → RankedAs v (starts_of n m b v)
  unfolding placements starts_of rank_of
  rank-of-starts room v l =
      let d = b - 1 in
      let u = rank-of-unrank (contracted n m b) m v l in
      let cs = unrank (contracted n m b) m v in
      record {
        placed = subst (λ (y : ℕ). Placed y n 0 (expand_from d 0 cs)) (sym b-is)
            (rises-placed d n (contracted n m b) 0 0 0 cs (omega arith)
            (omega (arith, u.count, ap (λ (y : ℕ). y * d) u.count, ap (λ (y : ℕ). m * y) b-is)) u.rises);
        count = length-expand d 0 cs ∙ u.count;
        rank = rw (reduce-expand d 0 cs) u.same;
      }

-- ---- Positions in the bursts

pub by-burst : {P : Type 0} (b s x : ℕ) (ss : List ℕ) → in_burst b (s ∷ ss) x ≡ true → (s ≤ x → x < s + b → P) → (in_burst b ss x ≡ true → P) → P
unfolding in_burst
by-burst {P} b s x ss t here there =
    by_le s x (λ c. ((c && ltb x (s + b)) || in_burst b ss x) ≡ true → P)
    (λ f. by_le (suc x) (s + b) (λ c. (c || in_burst b ss x) ≡ true → P) (λ f' _. here f f') (λ _ q. there q)) (λ _ q. there q) t

pub burst-here : (b s x : ℕ) (ss : List ℕ) → s ≤ x → x < s + b → in_burst b (s ∷ ss) x ≡ true
unfolding in_burst
burst-here b s x ss h k = rw (leb-holds s x h, leb-holds (suc x) (s + b) k)

pub burst-there : (b s x : ℕ) (ss : List ℕ) → in_burst b ss x ≡ true → in_burst b (s ∷ ss) x ≡ true
unfolding in_burst
burst-there b s x ss t = rw t (or-true (leb s x && ltb x (s + b)))

-- a position before all the bursts; and how many positions they have
burst-after : (b n lo : ℕ) (ss : List ℕ) (x : ℕ) → Placed b n lo ss → x < lo → in_burst b ss x ≡ false
unfolding in_burst
burst-after b n lo [] x h l = refl
burst-after b n lo (s ∷ ss) x (a, h) l = rw (leb-fails s x (omega arith)) (burst-after b n (s + b) ss x h (omega arith))

pub burst-count : (b n lo : ℕ) (ss : List ℕ) (c : ℕ) → Placed b n lo ss → lo + c ≡ n → count c lo (in_burst b ss) ≡ length ss * b
unfolding in_burst
burst-count b n lo [] c h e = count_none c lo (λ _. false) (λ x _ _. refl) ∙ omega arith
burst-count b n lo (s ∷ ss) c (a, h) e =
    let l = placed_end b n (s + b) ss h in
    let d = n - (s + b) in
    let w = in_burst b (s ∷ ss) in
    let z : c ≡ (s - lo) + (b + d) = omega arith in
    let y : lo + (s - lo) ≡ s = omega arith in
    let f : ℕ → ℕ = λ x. bit (w x) in
    let before : count (s - lo) lo w ≡ 0 =
    count_none (s - lo) lo w (λ x u v. rw (leb-fails s x (omega arith)) (burst-after b n (s + b) ss x h (omega arith))) in
    let inside : count b s w ≡ b = count-all b s w (λ x u v. rw (leb-holds s x u, leb-holds (suc x) (s + b) v)) in
    let behind : count d (s + b) w ≡ length ss * b =
    count-ext d (s + b) w (in_burst b ss) (λ x u v. rw (leb-holds s x (omega arith), leb-fails (suc x) (s + b) (omega arith)))
    ∙ burst-count b n (s + b) ss d h (omega arith) in
    rw z (omega (arith, rw y at (sum-append (s - lo) (b + d) lo f), sum-append b d s f, before, inside, behind))

-- ---- Bursts by their number

-- the next burst starts behind this one's end
pub placed-step : (b n lo j : ℕ) (ss : List ℕ) → Placed b n lo ss → suc j < length ss → get_or ss j 0 + b ≤ get_or ss (suc j) 0
placed-step b n lo j [] h l = absurd (omega arith)
placed-step b n lo j (s ∷ []) h l = absurd (omega arith)
placed-step b n lo zero (s ∷ t ∷ ss) h l = h.1.0
placed-step b n lo (suc j) (s ∷ t ∷ ss) h l = placed-step b n (s + b) j (t ∷ ss) h.1 (omega arith)

-- so starts rise
pub placed-grows : (b n lo i j : ℕ) (ss : List ℕ) → Placed b n lo ss → i ≤ j → j < length ss → get_or ss i 0 ≤ get_or ss j 0
placed-grows b n lo i zero ss h k l =
    let e : i ≡ 0 = omega arith in
    rw e (omega arith)
placed-grows b n lo i (suc j) ss h k l =
    at-or-past i (suc j) k (λ e. rw e (omega arith)) (λ g. omega (arith, placed-grows b n lo i j ss h (omega arith) (omega arith), placed-step b n lo j ss h l))

-- each lies within the word
pub placed_at : (b n lo j : ℕ) (ss : List ℕ) → Placed b n lo ss → j < length ss → get_or ss j 0 + b ≤ n
placed_at b n lo j [] h l = absurd (omega arith)
placed_at b n lo zero (s ∷ ss) h l = placed_end b n (s + b) ss h.1
placed_at b n lo (suc j) (s ∷ ss) h l = placed_at b n (s + b) j ss h.1 (omega arith)

-- a position in the burst of a number, and one in none
pub burst-at : (b x j : ℕ) (ss : List ℕ) → j < length ss → get_or ss j 0 ≤ x → x < get_or ss j 0 + b → in_burst b ss x ≡ true
burst-at b x j [] l h k = absurd (omega arith)
burst-at b x zero (s ∷ ss) l h k = burst-here b s x ss h k
burst-at b x (suc j) (s ∷ ss) l h k = burst-there b s x ss (burst-at b x j ss (omega arith) h k)

pub burst-free : (b x : ℕ) (ss : List ℕ) → ((j : ℕ) → j < length ss → (get_or ss j 0 ≤ x) → x < get_or ss j 0 + b → ⊥) → in_burst b ss x ≡ false
unfolding in_burst
burst-free b x ss h = by_bool (in_burst b ss x) (λ t. absurd (some ss h t)) (λ t. t)
  where
    some : (ss : List ℕ) → ((j : ℕ) → j < length ss → get_or ss j 0 ≤ x → x < get_or ss j 0 + b → ⊥) → in_burst b ss x ≡ true → ⊥
    some [] h t = absurd (false≢true t)
    some (s ∷ ss) h t = by-burst b s x ss t (λ u v. h 0 (omega arith) u v) (λ r. some ss (λ j l. h (suc j) (omega arith)) r)
