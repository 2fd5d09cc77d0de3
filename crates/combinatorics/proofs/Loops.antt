-- How a loop over the bursts of a placement goes on, start by start. Assumes nothing.
use mathlib.Core.Path.{◌≡◌, refl}
use mathlib.Core.Bool.{true, false}
use mathlib.Core.List.{List, [], ◌∷◌, ◌++◌, reverse_aux}
use Prim.Native.Nat.{ℕ, zero, suc, ◌+◌, ◌-◌, ◌*◌, ◌≤◌, ◌<◌}
use native.Mathlib.Numerals.{add-one}
use native.Mathlib.Nat.{mul-le-mul_left}
use native.Mathlib.Omega.{arith}
use lib.Dec.{leb}
use lib.ListN.{length, get_or, drop, take, set, replicate, drop_of_length-le, length-take}
use lib.Seq.{drop-cons, get_or-take, length-take-le, lt-length-set, get_or-set_same, drop-set-lt}
use Rattle.combinatorics.specs.Choose.{choose}
use Rattle.combinatorics.specs.Rank.{rank_from, ways_from, unrank_down, unrank}
use Rattle.combinatorics.specs.Stretch.{top}
use Rattle.combinatorics.specs.Bursts.{apart, contracted, reduce_from, expand_from, rank_of, starts_of}
use Rattle.combinatorics.proofs.Cases.{leb-holds, leb-fails}
use Rattle.combinatorics.proofs.Choose.{pascal, choose-none}
use Rattle.combinatorics.proofs.Stretch.{top-is}
use Rattle.combinatorics.proofs.Rank.{rank-unrank}
use Rattle.combinatorics.proofs.Bursts.{Placed, placed_of, of-placed, placed_end}

-- what is left of the first c of a list, from j on
module _ (c j : ℕ) (ss : List ℕ) where
  pub left-next : j < c → c ≤ length ss → drop j (take c ss) ≡ get_or ss j 0 ∷ drop (j + 1) (take c ss)
  left-next h l =
      let k : j < length (take c ss) = rw (length-take-le c ss l) h in
      rw (add-one, drop-cons (take c ss) j 0 k, get_or-take c ss j 0 h)

  pub left-none : c ≤ j → drop j (take c ss) ≡ []
  left-none h =
      let l : length (take c ss) ≤ j = rw length-take (omega arith) in
      drop_of_length-le (take c ss) l

-- ---- bursts that are apart

pub apart_next : (b n lo s : ℕ) (ss : List ℕ) → lo ≤ s → apart b n lo (s ∷ ss) ≡ apart b n (s + b) ss
unfolding apart
apart_next b n lo s ss h = rw (leb-holds lo s h)

pub apart-not : (b n lo s : ℕ) (ss : List ℕ) → s < lo → apart b n lo (s ∷ ss) ≡ false
unfolding apart
apart-not b n lo s ss h = rw (leb-fails lo s h)

pub apart-last : (b n lo : ℕ) → apart b n lo [] ≡ leb lo n
unfolding apart
apart-last b n lo = refl

-- bursts within n positions are within more
placed-longer : (b n top lo : ℕ) (ss : List ℕ) → n ≤ top → Placed b n lo ss → Placed b top lo ss
placed-longer b n top lo [] l h = omega arith
placed-longer b n top lo (s ∷ ss) l (k, h) = (k, placed-longer b n top (s + b) ss l h)

pub apart-longer : (b n top lo : ℕ) (ss : List ℕ) → n ≤ top → apart b n lo ss ≡ true → apart b top lo ss ≡ true
apart-longer b n top lo ss l e = of-placed b top lo ss (placed-longer b n top lo ss l (placed_of b n lo ss e))

-- the start of burst j + 1: it leaves room for those before it, and ends within n
pub placed_at : (b n lo j : ℕ) (ss : List ℕ) → Placed b n lo ss → j < length ss → (lo + j * b ≤ get_or ss j 0) × (get_or ss j 0 + b ≤ n)
placed_at b n lo j [] h l = absurd (omega arith)
placed_at b n lo zero (s ∷ ss) (k, h) l = (omega arith, placed_end b n (s + b) ss h)
placed_at b n lo (suc j) (s ∷ ss) (k, h) l =
    let r = placed_at b n (s + b) j ss h (omega arith) in
    (omega (arith, r.0), r.1)

pub reduces : (b n j : ℕ) (ss : List ℕ) → Placed b n 0 ss → j < length ss → j * (b - 1) ≤ get_or ss j 0
reduces b n j ss h l = omega (arith, (placed_at b n 0 j ss h l).0, mul-le-mul_left {m = b - 1} {n = b} j (omega arith))

-- ---- the rank

-- what the bursts from number k + 1 on add to it
abbrev pub rank_left : ℕ → ℕ → List ℕ → ℕ
rank_left d k ss = rank_from k (reduce_from d k ss)

pub rank-first : (b : ℕ) (ss : List ℕ) → rank_left (b - 1) 0 ss ≡ rank_of b ss
unfolding rank_of
rank-first b ss = refl

pub rank-next : (d k s : ℕ) (ss : List ℕ) → rank_left d k (s ∷ ss) ≡ choose (s - k * d) (k + 1) + rank_left d (k + 1) ss
unfolding rank_from reduce_from
rank-next d k s ss = rw (add-one k)

pub rank-none : (d k : ℕ) → rank_left d k [] ≡ 0
unfolding rank_from reduce_from
rank-none d k = refl

-- ---- a list of starts that is filled from the right

-- one start more, in front of those that stand
pub fill-next : (xs : List ℕ) (i s : ℕ) → 0 < i → i ≤ length xs → drop (i - 1) (set xs (i - 1) s) ≡ s ∷ drop i xs
fill-next xs zero s h l = absurd (omega arith)
fill-next xs (suc k) s h l =
    let e : suc k - 1 ≡ k = omega arith in
    rw (e, drop-cons (set xs k s) k 0 (lt-length-set xs k s l), get_or-set_same xs k s 0 l, drop-set-lt (suc k) xs k s (omega arith))

pub drop-replicate : (m n a : ℕ) → drop m (replicate n a) ≡ replicate (n - m) a
drop-replicate zero n a =
    let e : n - 0 ≡ n = omega arith in
    rw e
drop-replicate (suc m) zero a =
    let e : 0 - suc m ≡ 0 = omega arith in
    rw e
drop-replicate (suc m) (suc n) a =
    let e : suc n - suc m ≡ n - m = omega arith in
    rw e (drop-replicate m n a)

-- the starts that have these reduced starts, both falling
unfoldable pub expand_down : ℕ → List ℕ → List ℕ
expand_down d [] = []
expand_down d (c ∷ cs) = (c + length cs * d) ∷ expand_down d cs

turn-expand : (d : ℕ) (cs acc rest : List ℕ) → reverse_aux (expand_down d cs) (expand_from d (length cs) acc ++ rest) ≡ expand_from d 0 (reverse_aux cs acc) ++ rest
unfolding expand_down expand_from
turn-expand d [] acc rest = refl
turn-expand d (c ∷ cs) acc rest = turn-expand d cs (c ∷ acc) rest

-- the starts of rank v, falling, for the k first bursts, whose reduced starts lie below n
unfoldable pub starts_down : ℕ → ℕ → ℕ → ℕ → List ℕ
starts_down d n k v = expand_down d (unrank_down n k v)

pub starts-turned : (n m b v : ℕ) (rest : List ℕ) → reverse_aux (starts_down (b - 1) (contracted n m b) m v) rest ≡ starts_of n m b v ++ rest
unfolding starts_down starts_of unrank expand_from
starts-turned n m b v rest = turn-expand (b - 1) (unrank_down (contracted n m b) m v) [] rest

pub starts_none : (d n v : ℕ) → starts_down d n 0 v ≡ []
unfolding starts_down expand_down unrank_down
starts_none d n v = refl

-- the last of i bursts, and what is left to find
pub record LastStart (d n i v c : ℕ) : Type 0 where
  pub below : c < n
  pub reach : choose c i ≤ v
  pub rest : v - choose c i < choose c (i - 1)
  pub starts : starts_down d n i v ≡ (c + (i - 1) * d) ∷ starts_down d c (i - 1) (v - choose c i)

pub starts-next : (d n i v : ℕ) → 0 < i → v < choose n i → LastStart d n i v (top (ways_from i) n v)
unfolding starts_down expand_down unrank_down
starts-next d n zero v h l = absurd (omega arith)
starts-next d n (suc k) v h l =
    let c = top (ways_from (suc k)) n v in
    let t = top-is (ways_from (suc k)) n v (omega (arith, choose-none k)) l in
    let less : v - choose c (suc k) < choose c k = omega (arith, t.past, t.reach, pascal c k) in
    let e : suc k - 1 ≡ k = omega arith in
    record {
      below = t.below;
      reach = t.reach;
      rest = rw e less;
      starts = rw (e, (rank-unrank c k (v - choose c (suc k)) less).count);
    }
