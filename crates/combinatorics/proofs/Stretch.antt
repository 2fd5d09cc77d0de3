-- Laws of sums, counts and searches over a stretch of numbers. Assumes nothing.
use mathlib.Core.Path.{◌≡◌, refl, sym, ap, ◌∙◌}
use mathlib.Core.Logic.{◌≢◌}
use mathlib.Core.Bool.{Bool, true, false, not, cond, ◌&&◌, ◌||◌, or-true, true≢false, false≢true}
use mathlib.Core.List.{[]}
use Prim.Native.Nat.{ℕ, zero, suc, ◌+◌, ◌*◌, ◌≤◌, ◌<◌}
use native.Mathlib.Omega.{arith}
use Rattle.combinatorics.specs.Stretch.{sum, bit, count, has, first, members, top}
use Rattle.combinatorics.proofs.Cases.{by_le, by-eq, by_bool}

abbrev pub same : ℕ → ℕ
same x = x

-- a case at the first place or later
pub at-or-past : {P : Type 0} (k x : ℕ) → k ≤ x → (k ≡ x → P) → (suc k ≤ x → P) → P
at-or-past {P} k x l e m = by-eq k x (λ _. P) e (λ f. m (omega arith))

pub sum_one : (n k x : ℕ) (f : ℕ → ℕ) → k ≤ x → x < k + n → f x ≤ sum n k f
unfolding sum
sum_one zero k x f l h = absurd (omega arith)
sum_one (suc n) k x f l h = at-or-past k x l (λ e. rw e (omega arith)) (λ m. omega (arith, sum_one n (suc k) x f m (omega arith)))

pub sum-two : (n k x y : ℕ) (f : ℕ → ℕ) → k ≤ x → x < y → y < k + n → f x + f y ≤ sum n k f
unfolding sum
sum-two zero k x y f l g h = absurd (omega arith)
sum-two (suc n) k x y f l g h =
    at-or-past k x l (λ e. rw e (omega (arith, sum_one n (suc x) y f g (omega arith)))) (λ m. omega (arith, sum-two n (suc k) x y f m g (omega arith)))

pub sum_both : (n k x y : ℕ) (f : ℕ → ℕ) → k ≤ x → x < k + n → k ≤ y → y < k + n → x ≢ y → f x + f y ≤ sum n k f
sum_both n k x y f a b c d e =
    by_le (suc x) y (λ _. f x + f y ≤ sum n k f) (λ l. sum-two n k x y f a l d) (λ l. omega (arith, sum-two n k y x f c (omega arith) b))

-- n numbers, each at least one
pub sum_ones : (n k : ℕ) (f : ℕ → ℕ) → ((x : ℕ) → k ≤ x → x < k + n → 1 ≤ f x) → n ≤ sum n k f
unfolding sum
sum_ones zero k f p = omega arith
sum_ones (suc n) k f p = omega (arith, p k (omega arith) (omega arith), sum_ones n (suc k) f (λ x l h. p x (omega arith) (omega arith)))

-- so if their sum is no more than n, each is one
pub sum-each : (n k x : ℕ) (f : ℕ → ℕ) → ((x : ℕ) → k ≤ x → x < k + n → 1 ≤ f x) → k ≤ x → x < k + n → f x + n ≤ suc (sum n k f)
unfolding sum
sum-each zero k x f p l h = absurd (omega arith)
sum-each (suc n) k x f p l h =
    let q : (x : ℕ) → suc k ≤ x → x < suc k + n → 1 ≤ f x = λ x l h. p x (omega arith) (omega arith) in
    at-or-past k x l (λ e. rw (← e) (omega (arith, sum_ones n (suc k) f q)))
    (λ m. omega (arith, p k (omega arith) (omega arith), sum-each n (suc k) x f q m (omega arith)))

pub sum-append : (a b k : ℕ) (f : ℕ → ℕ) → sum (a + b) k f ≡ sum a k f + sum b (k + a) f
unfolding sum
sum-append zero b k f =
    let e : 0 + b ≡ b = omega arith in
    let g : k + 0 ≡ k = omega arith in
    rw (e, g) (omega arith)
sum-append (suc a) b k f =
    let e : suc a + b ≡ suc (a + b) = omega arith in
    let g : k + suc a ≡ suc k + a = omega arith in
    rw (e, g) (omega (arith, sum-append a b (suc k) f))

pub sum-next : (n : ℕ) (f : ℕ → ℕ) → sum (suc n) 0 f ≡ sum n 0 f + f n
unfolding sum
sum-next n f =
    let e : n + 1 ≡ suc n = omega arith in
    let z : 0 + n ≡ n = omega arith in
    omega (arith, rw (e, z) at (sum-append n 1 0 f))

pub sum-shift : (n a k : ℕ) (f : ℕ → ℕ) → sum n (a + k) f ≡ sum n k (λ x. f (a + x))
unfolding sum
sum-shift zero a k f = refl
sum-shift (suc n) a k f =
    let e : suc (a + k) ≡ a + suc k = omega arith in
    rw e (omega (arith, sum-shift n a (suc k) f))

-- p rows of m
pub sum_rows : (p m i : ℕ) (f : ℕ → ℕ) → sum (p * m) (i * m) f ≡ sum p i (λ x. sum m 0 (λ j. f (x * m + j)))
unfolding sum
sum_rows zero m i f =
    let e : 0 * m ≡ 0 = omega arith in
    rw e
sum_rows (suc p) m i f =
    let e : suc p * m ≡ m + p * m = omega arith in
    let g : i * m + m ≡ suc i * m = omega arith in
    let z : i * m + 0 ≡ i * m = omega arith in
    rw e (sum-append m (p * m) (i * m) f ∙ (rw g (omega (arith, rw z at (sum-shift m (i * m) 0 f), sum_rows p m (suc i) f))))

pub bit_le : (b : Bool) → bit b ≤ 1
bit_le true = omega arith
bit_le false = omega arith

-- n truths at most; fewer leave one that is false
pub count-le : (n k : ℕ) (w : ℕ → Bool) → count n k w ≤ n
unfolding sum
count-le zero k w = omega arith
count-le (suc n) k w = omega (arith, bit_le (w k), count-le n (suc k) w)

pub some-false : (n k : ℕ) (w : ℕ → Bool) → count n k w < n → (x : ℕ) × (k ≤ x) × (x < k + n) × (w x ≡ false)
unfolding sum
some-false zero k w h = absurd (omega arith)
some-false (suc n) k w h =
    by_bool (w k)
    (λ t. let r = some-false n (suc k) w (omega (arith, ap bit t)) in (r.0, omega (arith, r.1), omega (arith, r.2), r.3))
    (λ e. (k, omega arith, omega arith, e))

pub has-none : (n k : ℕ) (w : ℕ → Bool) → ((x : ℕ) → k ≤ x → x < k + n → w x ≡ false) → has n k w ≡ false
unfolding has
has-none zero k w p = refl
has-none (suc n) k w p = rw (p k (omega arith) (omega arith)) (has-none n (suc k) w (λ x l h. p x (omega arith) (omega arith)))

pub has_some : (n k x : ℕ) (w : ℕ → Bool) → k ≤ x → x < k + n → w x ≡ true → has n k w ≡ true
unfolding has
has_some zero k x w l h e = absurd (omega arith)
has_some (suc n) k x w l h e =
    at-or-past k x l (λ d. rw (d, e)) (λ m. rw (has_some n (suc k) x w m (omega arith) e) (or-true (w k)))

pub first-true : (n k : ℕ) (w : ℕ → Bool) → first n k w < k + n → w (first n k w) ≡ true
unfolding first
first-true zero k w h = absurd (omega arith)
first-true (suc n) k w h = by_bool (w k) (λ t. rw t t) (λ e. rw e (first-true n (suc k) w (omega (arith, rw e at h))))

pub first-in : (n k : ℕ) (w : ℕ → Bool) → 0 < count n k w → first n k w < k + n
unfolding first sum
first-in zero k w h = absurd (omega arith)
first-in (suc n) k w h =
    by_bool (w k) (λ t. rw t (omega arith)) (λ e. rw e (omega (arith, first-in n (suc k) w (omega (arith, ap bit e)))))

pub bit-false : (b : Bool) → bit b ≤ 0 → b ≡ false
bit-false true h = absurd (omega arith)
bit-false false h = refl

pub first-false : (n k x : ℕ) (w : ℕ → Bool) → k ≤ x → x < first n k w → w x ≡ false
unfolding first
first-false zero k x w l h = absurd (omega arith)
first-false (suc n) k x w l h =
    by_bool (w k) (λ t. absurd (omega (arith, rw t at h)))
    (λ e. at-or-past k x l (λ d. rw (← d) e) (λ m. first-false n (suc k) x w m (rw e at h)))

-- no later than any that is in the set; and a search from the left that has come to one
pub first-most : (n k x : ℕ) (w : ℕ → Bool) → k ≤ x → x < k + n → w x ≡ true → first n k w ≤ x
first-most n k x w l h t =
    by_le (first n k w) x (λ _. first n k w ≤ x) (λ g. g) (λ g. absurd (true≢false (sym t ∙ first-false n k x w l g)))

pub first-is : (n k i : ℕ) (w : ℕ → Bool) → k ≤ i → i < k + n → ((x : ℕ) → k ≤ x → x < i → w x ≡ false) → w i ≡ true → first n k w ≡ i
unfolding first
first-is zero k i w l h o t = absurd (omega arith)
first-is (suc n) k i w l h o t =
    at-or-past k i l (λ e. rw (e, t)) (λ m. rw (o k (omega arith) m) (first-is n (suc k) i w m (omega arith) (λ x a b. o x (omega arith) b) t))

pub first-within : (n k : ℕ) (w : ℕ → Bool) → first n k w ≤ k + n
unfolding first
first-within zero k w = omega arith
first-within (suc n) k w = by_bool (w k) (λ t. rw t (omega arith)) (λ e. rw e (omega (arith, first-within n (suc k) w)))

-- and a search that has come to the end
pub first-none : (n k : ℕ) (w : ℕ → Bool) → ((x : ℕ) → k ≤ x → x < k + n → w x ≡ false) → first n k w ≡ k + n
unfolding first
first-none zero k w o = omega arith
first-none (suc n) k w o =
    rw (o k (omega arith) (omega arith)) (first-none n (suc k) w (λ x a b. o x (omega arith) (omega arith)) ∙ omega arith)

pub members-none : (n k : ℕ) (w : ℕ → Bool) → ((x : ℕ) → k ≤ x → x < k + n → w x ≡ false) → members n k w ≡ []
unfolding members
members-none zero k w p = refl
members-none (suc n) k w p = rw (p k (omega arith) (omega arith)) (members-none n (suc k) w (λ x l h. p x (omega arith) (omega arith)))

pub count-ext : (n k : ℕ) (w w' : ℕ → Bool) → ((x : ℕ) → k ≤ x → x < k + n → w x ≡ w' x) → count n k w ≡ count n k w'
unfolding sum
count-ext zero k w w' h = refl
count-ext (suc n) k w w' h = rw (h k (omega arith) (omega arith), count-ext n (suc k) w w' (λ x a b. h x (omega arith) (omega arith)))

pub has-ext : (n k : ℕ) (w w' : ℕ → Bool) → ((x : ℕ) → k ≤ x → x < k + n → w x ≡ w' x) → has n k w ≡ has n k w'
unfolding has
has-ext zero k w w' h = refl
has-ext (suc n) k w w' h = rw (h k (omega arith) (omega arith), has-ext n (suc k) w w' (λ x a b. h x (omega arith) (omega arith)))

pub members-ext : (n k : ℕ) (w w' : ℕ → Bool) → ((x : ℕ) → k ≤ x → x < k + n → w x ≡ w' x) → members n k w ≡ members n k w'
unfolding members
members-ext zero k w w' h = refl
members-ext (suc n) k w w' h = rw (h k (omega arith) (omega arith), members-ext n (suc k) w w' (λ x a b. h x (omega arith) (omega arith)))

pub count_none : (n k : ℕ) (w : ℕ → Bool) → ((x : ℕ) → k ≤ x → x < k + n → w x ≡ false) → count n k w ≡ 0
unfolding sum
count_none zero k w h = refl
count_none (suc n) k w h = rw (h k (omega arith) (omega arith)) (omega (arith, count_none n (suc k) w (λ x a b. h x (omega arith) (omega arith))))

pub count-all : (n k : ℕ) (w : ℕ → Bool) → ((x : ℕ) → k ≤ x → x < k + n → w x ≡ true) → count n k w ≡ n
unfolding sum
count-all zero k w h = refl
count-all (suc n) k w h = rw (h k (omega arith) (omega arith)) (omega (arith, count-all n (suc k) w (λ x a b. h x (omega arith) (omega arith))))

-- two sets that are apart, and what is in neither
pub count-three : (n k : ℕ) (i b : ℕ → Bool) → ((x : ℕ) → k ≤ x → x < k + n → i x ≡ true → b x ≡ false)
    → count n k (λ x. not (i x) && not (b x)) + count n k i + count n k b ≡ n
unfolding sum
count-three zero k i b h = refl
count-three (suc n) k i b h =
    let r = count-three n (suc k) i b (λ x c d. h x (omega arith) (omega arith)) in
    by_bool (i k) (λ t. rw (t, h k (omega arith) (omega arith) t) (omega arith))
    (λ t. by_bool (b k) (λ u. rw (t, u) (omega arith)) (λ u. rw (t, u) (omega arith)))

pub record IsTop (f : ℕ → ℕ) (n v c : ℕ) : Type 0 where
  pub below : c < n
  pub reach : f c ≤ v
  pub past : v < f (suc c)

pub top-is : (f : ℕ → ℕ) (n v : ℕ) → f 0 ≤ v → v < f n → IsTop f n v (top f n v)
unfolding top
top-is f zero v h k = absurd (omega arith)
top-is f (suc n) v h k =
    by_le (f n) v (λ t. IsTop f (suc n) v (cond t n (top f n v))) (λ l. record { below = omega arith; reach = l; past = k })
    (λ l. let i = top-is f n v h l in record { below = omega (arith, i.below); reach = i.reach; past = i.past })

pub top-only : (f : ℕ → ℕ) → ((a b : ℕ) → a ≤ b → f a ≤ f b) → {n v c d : ℕ} → IsTop f n v c → IsTop f n v d → c ≡ d
top-only f mono {n} {v} {c} {d} h k =
    let p : ¬ (d < c) = λ g. omega (arith, mono (suc d) c g) in
    let q : ¬ (c < d) = λ g. omega (arith, mono (suc c) d g) in
    omega arith

-- ---- Sums and counts compared

pub sum-le : (n k : ℕ) (f g : ℕ → ℕ) → ((x : ℕ) → k ≤ x → x < k + n → f x ≤ g x) → sum n k f ≤ sum n k g
unfolding sum
sum-le zero k f g h = omega arith
sum-le (suc n) k f g h = omega (arith, h k (omega arith) (omega arith), sum-le n (suc k) f g (λ x a b. h x (omega arith) (omega arith)))

-- a set that has another has as many and more
pub count-mono : (n k : ℕ) (w w' : ℕ → Bool) → ((x : ℕ) → k ≤ x → x < k + n → w x ≡ true → w' x ≡ true) → count n k w ≤ count n k w'
count-mono n k w w' h =
    sum-le n k (λ x. bit (w x)) (λ x. bit (w' x)) (λ x a b. by_bool (w x) (λ t. rw (t, h x a b t) (omega arith)) (λ t. rw t (omega arith)))

-- two sets together
pub count-or : (n k : ℕ) (u v : ℕ → Bool) → count n k (λ x. u x || v x) ≤ count n k u + count n k v
unfolding sum
count-or zero k u v = omega arith
count-or (suc n) k u v = omega (arith, one (u k) (v k), count-or n (suc k) u v)
  where
    one : (a b : Bool) → bit (a || b) ≤ bit a + bit b
    one true b = omega arith
    one false b = omega arith

-- a set that has no two numbers of the stretch
pub count-one : (n k : ℕ) (w : ℕ → Bool) → ((x y : ℕ) → k ≤ x → x < y → y < k + n → w x ≡ true → w y ≡ false) → count n k w ≤ 1
unfolding sum
count-one zero k w h = omega arith
count-one (suc n) k w h =
    by_bool (w k)
    (λ t. rw t (omega (arith, count_none n (suc k) w (λ x a b. h k x (omega arith) a (omega arith) t))))
    (λ t. rw t (omega (arith, count-one n (suc k) w (λ x y a b c. h x y (omega arith) b (omega arith)))))

pub count-not : (n k : ℕ) (w : ℕ → Bool) → count n k (λ x. not (w x)) + count n k w ≡ n
unfolding sum
count-not zero k w = refl
count-not (suc n) k w = by_bool (w k) (λ t. rw t (omega (arith, count-not n (suc k) w))) (λ t. rw t (omega (arith, count-not n (suc k) w)))

pub has-or : (n k : ℕ) (u v : ℕ → Bool) → has n k (λ x. u x || v x) ≡ (has n k u || has n k v)
unfolding has
has-or zero k u v = refl
has-or (suc n) k u v = rw (has-or n (suc k) u v) (four (u k) (v k) (has n (suc k) u) (has n (suc k) v))
  where
    four : (a b c d : Bool) → ((a || b) || (c || d)) ≡ ((a || c) || (b || d))
    four true b c d = refl
    four false true true d = refl
    four false true false d = refl
    four false false c d = refl

-- where one is, it is somewhere
pub has-at : (n k : ℕ) (w : ℕ → Bool) → has n k w ≡ true → (x : ℕ) × (k ≤ x) × (x < k + n) × (w x ≡ true)
unfolding has
has-at zero k w h = absurd (false≢true h)
has-at (suc n) k w h =
    by_bool (w k) (λ t. (k, omega arith, omega arith, t))
    (λ t. let r = has-at n (suc k) w (rw t at h) in (r.0, omega (arith, r.1), omega (arith, r.2), r.3))
