-- A word written or taken apart stretch by stretch: what one more stretch of cells of one kind adds. Assumes nothing.
use mathlib.Core.Path.{◌≡◌, refl, ap, ap₂, ◌∙◌}
use mathlib.Core.Bool.{true, false}
use mathlib.Core.List.{List, [], ◌∷◌, ◌++◌, tail}
use Prim.Native.Nat.{ℕ, zero, suc, ◌+◌, ◌-◌, ◌≤◌, ◌<◌}
use native.Mathlib.Nat.{zero-add}
use native.Mathlib.Omega.{arith}
use lib.ListN.{length, get_or, take, drop, replicate, length-drop}
use lib.Seq.{drop-nil, take_all}
use Rattle.combinatorics.specs.Stretch.{sum, bit, count, tabulate}
use Rattle.combinatorics.proofs.Members.{keep_append}
use Rattle.cells.specs.Cells.{Cell, burst, fixed, digit, message, is, weave, pick, content, Enough}

-- how many cells of a list are of a kind
unfoldable pub tally : Cell → List Cell → ℕ
tally kind [] = 0
tally kind (c ∷ cs) = bit (is kind c) + tally kind cs

pub tally-append : (kind : Cell) (cs ds : List Cell) → tally kind (cs ++ ds) ≡ tally kind cs + tally kind ds
unfolding tally
tally-append kind [] ds = omega arith
tally-append kind (c ∷ cs) ds = omega (arith, tally-append kind cs ds)

pub tally-same : (kind c : Cell) (n : ℕ) → is kind c ≡ true → tally kind (replicate n c) ≡ n
unfolding tally
tally-same kind c zero e = refl
tally-same kind c (suc n) e = rw e (omega (arith, tally-same kind c n e))

pub tally-other : (kind c : Cell) (n : ℕ) → is kind c ≡ false → tally kind (replicate n c) ≡ 0
unfolding tally
tally-other kind c zero e = refl
tally-other kind c (suc n) e = rw e (omega (arith, tally-other kind c n e))

-- ---- Plans that are given position by position

pub tabulate-append : {A : Type 0} (a b k : ℕ) (f : ℕ → A) → tabulate (a + b) k f ≡ tabulate a k f ++ tabulate b (k + a) f
unfolding tabulate
tabulate-append zero b k f =
    let e : 0 + b ≡ b = omega arith in
    let g : k + 0 ≡ k = omega arith in
    rw (e, g)
tabulate-append {A} (suc a) b k f =
    let e : suc a + b ≡ suc (a + b) = omega arith in
    let g : k + suc a ≡ suc k + a = omega arith in
    rw (e, g) (ap {B = List A} (λ r. f k ∷ r) (tabulate-append a b (suc k) f))

pub tabulate-same : {A : Type 0} (n k : ℕ) (f : ℕ → A) (a : A) → ((x : ℕ) → k ≤ x → x < k + n → f x ≡ a) → tabulate n k f ≡ replicate n a
unfolding tabulate
tabulate-same zero k f a h = refl
tabulate-same {A} (suc n) k f a h = ap₂ {C = List A} ◌∷◌ (h k (omega arith) (omega arith))
    (tabulate-same n (suc k) f a (λ x l g. h x (omega arith) (omega arith)))

-- a plan up to a later position, and one more stretch whose cells are all of one kind
plan-on : (x to : ℕ) (kd : ℕ → Cell) → x ≤ to → tabulate to 0 kd ≡ tabulate x 0 kd ++ tabulate (to - x) x kd
plan-on x to kd l =
    let e : x + (to - x) ≡ to = omega arith in
    let z : 0 + x ≡ x = omega arith in
    rw (e, z) at (tabulate-append x (to - x) 0 kd)

pub plan-stretch : (x to : ℕ) (kd : ℕ → Cell) (kind : Cell) → x ≤ to → ((y : ℕ) → x ≤ y → y < to → kd y ≡ kind)
    → tabulate to 0 kd ≡ tabulate x 0 kd ++ replicate (to - x) kind
plan-stretch x to kd kind l h = plan-on x to kd l ∙ ap (λ (r : List Cell). tabulate x 0 kd ++ r)
    (tabulate-same (to - x) x kd kind (λ y a b. h y a (omega arith)))

-- ---- Weaving

one_more : (n : ℕ) → 1 + n ≡ suc n
one_more n = omega arith

drop-tail : (n : ℕ) (xs : List ℕ) → drop n (tail xs) ≡ drop (suc n) xs
drop-tail n [] = drop-nil n
drop-tail n (x ∷ xs) = refl

pub weave-append : (cs es : List Cell) (ds ms : List ℕ)
    → weave (cs ++ es) ds ms ≡ weave cs ds ms ++ weave es (drop (tally digit cs) ds) (drop (tally message cs) ms)
unfolding weave tally
weave-append [] es ds ms = refl
weave-append (burst ∷ cs) es ds ms = rw (zero-add, zero-add, weave-append cs es ds ms)
weave-append (fixed ∷ cs) es ds ms = rw (zero-add, zero-add, weave-append cs es ds ms)
weave-append (digit ∷ cs) es ds ms = rw (one_more (tally digit cs), zero-add, ← drop-tail (tally digit cs) ds, weave-append cs es (tail ds) ms)
weave-append (message ∷ cs) es ds ms = rw (one_more (tally message cs), zero-add, ← drop-tail (tally message cs) ms, weave-append cs es ds (tail ms))

take-tail : (n : ℕ) (xs : List ℕ) → suc n ≤ length xs → take (suc n) xs ≡ get_or xs 0 0 ∷ take n (tail xs)
take-tail n [] h = absurd (omega arith)
take-tail n (x ∷ xs) h = refl

tail-room : (n : ℕ) (xs : List ℕ) → suc n ≤ length xs → n ≤ length (tail xs)
tail-room n [] h = absurd (omega arith)
tail-room n (x ∷ xs) h = omega arith

pub weave-replicate : (kind : Cell) (n : ℕ) (ds ms : List ℕ) → Enough kind n ds ms → weave (replicate n kind) ds ms ≡ content kind n ds ms
unfolding weave
weave-replicate burst zero ds ms h = refl
weave-replicate burst (suc n) ds ms h = ap {B = List ℕ} (λ r. 0 ∷ r) (weave-replicate burst n ds ms h)
weave-replicate fixed zero ds ms h = refl
weave-replicate fixed (suc n) ds ms h = ap {B = List ℕ} (λ r. 0 ∷ r) (weave-replicate fixed n ds ms h)
weave-replicate digit zero ds ms h = refl
weave-replicate digit (suc n) ds ms h = rw (weave-replicate digit n (tail ds) ms (tail-room n ds h), take-tail n ds h)
weave-replicate message zero ds ms h = refl
weave-replicate message (suc n) ds ms h = rw (weave-replicate message n ds (tail ms) (tail-room n ms h), take-tail n ms h)

-- one more stretch of the word
pub weave-stretch : (kind : Cell) (cs : List Cell) (n : ℕ) (ds ms : List ℕ) → Enough kind n (drop (tally digit cs) ds) (drop (tally message cs) ms)
    → weave (cs ++ replicate n kind) ds ms ≡ weave cs ds ms ++ content kind n (drop (tally digit cs) ds) (drop (tally message cs) ms)
weave-stretch kind cs n ds ms h =
    weave-append cs (replicate n kind) ds ms
    ∙ ap (λ (r : List ℕ). weave cs ds ms ++ r) (weave-replicate kind n (drop (tally digit cs) ds) (drop (tally message cs) ms) h)

-- ---- Taking apart

pub pick-append : (kind : Cell) (cs es : List Cell) (w : List ℕ) → pick kind (cs ++ es) w ≡ pick kind cs w ++ pick kind es (drop (length cs) w)
unfolding pick
pick-append kind [] es w = refl
pick-append kind (c ∷ cs) es w =
    rw (pick-append kind cs es (tail w), drop-tail (length cs) w)
    (keep_append (is kind c) (get_or w 0 0) (pick kind cs (tail w)) (pick kind es (drop (suc (length cs)) w)))

pub pick_same : (kind c : Cell) (n : ℕ) (w : List ℕ) → is kind c ≡ true → n ≤ length w → pick kind (replicate n c) w ≡ take n w
unfolding pick
pick_same kind c zero w e h = refl
pick_same kind c (suc n) w e h = rw (e, pick_same kind c n (tail w) e (tail-room n w h), take-tail n w h)

pub pick_other : (kind c : Cell) (n : ℕ) (w : List ℕ) → is kind c ≡ false → pick kind (replicate n c) w ≡ []
unfolding pick
pick_other kind c zero w e = refl
pick_other kind c (suc n) w e = rw e (pick_other kind c n (tail w) e)

-- ---- How many

pub tally-count : (kind : Cell) (n k : ℕ) (kd : ℕ → Cell) → tally kind (tabulate n k kd) ≡ count n k (λ x. is kind (kd x))
unfolding tally tabulate sum
tally-count kind zero k kd = refl
tally-count kind (suc n) k kd = omega (arith, tally-count kind n (suc k) kd)

-- the cells of a kind before a position are among all of them
pub tally-most : (kind : Cell) (x n : ℕ) (kd : ℕ → Cell) → x ≤ n → tally kind (tabulate x 0 kd) ≤ tally kind (tabulate n 0 kd)
tally-most kind x n kd l = rw (plan-on x n kd l) (omega (arith, tally-append kind (tabulate x 0 kd) (tabulate (n - x) x kd)))

-- a part that goes to the end is what is left
pub rest-is : (n : ℕ) (xs : List ℕ) → take (length xs - n) (drop n xs) ≡ drop n xs
rest-is n xs = take_all (length xs - n) (drop n xs) (omega (arith, length-drop n xs))
