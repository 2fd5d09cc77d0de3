-- Laws of the FBI rule on p parts of m blocks: exactly m B-blocks and m I-blocks, none in common. Assumes nothing.
use mathlib.Core.Path.{◌≡◌, refl, sym, ap, ◌∙◌}
use mathlib.Core.Logic.{◌≢◌}
use mathlib.Core.Bool.{Bool, true, false, not, cond, ◌||◌, or-true}
use mathlib.Core.List.{List, [], ◌∷◌}
use Prim.Native.Nat.{ℕ, zero, suc, ◌+◌, ◌-◌, ◌*◌, ◌/◌, ◌≤◌, ◌<◌}
use native.Mathlib.Nat.{mul-le-mul_right, div-eq_of_lt-le, div-mul-le_self, lt-div-mul-add}
use native.Mathlib.Omega.{arith}
use lib.Arith.{digits_div, digits_mod}
use lib.Dec.{ltb, eqb}
use lib.ListN.{length}
use Rattle.combinatorics.specs.Stretch.{sum, bit, count, first, members, tabulate}
use Rattle.combinatorics.proofs.Cases.{by_le, by_bool, eqb_same, eqb-other, eqb-true, eqb-false}
use Rattle.combinatorics.proofs.Members.{Each, members_run, members-append, length-tabulate}
use Rattle.combinatorics.proofs.Stretch.{same, at-or-past, sum_one, sum_both, sum_ones, sum-each, sum_rows, bit-false, count-le, first-true}
use Rattle.combinatorics.proofs.Stretch.{first-false, first-in, count-not}
use Rattle.cells.proofs.Round.{next-lt, next-ne}
use Rattle.cells.specs.Round.{next}
use Rattle.construction_a.specs.Writing.{becomes, with_burst, with_bursts, row, part_count, part_with, Chosen, whole, one_each, chosen, beside}
use Rattle.construction_a.specs.Writing.{is_chosen, is_index_in}

-- ---- I-blocks

-- a part with one B-block
pub one_at : (m i : ℕ) (B : ℕ → Bool) → count m 0 (row m B i) ≡ 1 → first m 0 (row m B i) < m
one_at m i B e = omega (arith, first-in m 0 (row m B i) (omega arith))

pub one_only : (m i : ℕ) (B : ℕ → Bool) → count m 0 (row m B i) ≡ 1 → (j : ℕ) → j < m → j ≢ first m 0 (row m B i) → B (i * m + j) ≡ false
one_only m i B e j l d =
    let c = first m 0 (row m B i) in
    let k = one_at m i B e in
    let t : B (i * m + c) ≡ true = first-true m 0 (row m B i) (omega arith) in
    bit-false (B (i * m + j))
    (omega (arith, ap bit t, sum_both m 0 j c (λ x. bit (row m B i x)) (omega arith) (omega arith) (omega arith) (omega arith) d))

-- the B-blocks of the parts add up
pub rows : (p m : ℕ) (B : ℕ → Bool) → count (p * m) 0 B ≡ sum p 0 (λ x. count m 0 (row m B x))
rows p m B =
    let e : 0 * m ≡ 0 = omega arith in
    rw e at (sum_rows p m 0 (λ x. bit (B x)))

-- of m B-blocks all lie in one part where it has m of them
pub chosen_by : (p m : ℕ) (B : ℕ → Bool) → count (p * m) 0 B ≡ m
    → chosen p m B ≡ cond (ltb (part_with p m B m) p) (whole (next p (part_with p m B m))) (cond (ltb (part_with p m B 0) p) (whole (part_with p m B 0)) one_each)
unfolding chosen
chosen_by p m B all = rw all

-- what the rule goes by: a part with no B-block such that each other part, but for the one before it, has a block that is not B; or one B-block in each part
module _ (p m : ℕ) (B : ℕ → Bool) (hp : 3 ≤ p) (hm : 0 < m) (hmp : m ≤ p) (all : count (p * m) 0 B ≡ m) (P : Chosen → Type 0) where
  pub by-chosen : ((a : ℕ) → a < p → count m 0 (row m B a) ≡ 0 → ((x : ℕ) → x < p → x ≢ a → next p x ≢ a → count m 0 (row m B x) < m) → P (whole a))
      → (p ≡ m → ((x : ℕ) → x < p → count m 0 (row m B x) ≡ 1) → P one_each) → P (chosen p m B)
  unfolding part_count part_with
  by-chosen in_whole in-one_each =
      rw (chosen_by p m B all)
      (by_le (suc i) p (λ t. P (cond t (whole (next p i)) (cond (ltb f p) (whole f) one_each)))
      (λ l.
      let e = eqb-true (C i) m (first-true p 0 (λ x. eqb (C x) m) (omega arith)) in
      let g : (x : ℕ) → x < p → x ≢ i → C x ≡ 0 =
      λ x g n. omega (arith, total, e, sum_both p 0 x i C (omega arith) (omega arith) (omega arith) (omega arith) n) in
      in_whole (next p i) (next-lt p i l) (g (next p i) (next-lt p i l) (next-ne p i (omega arith)))
      (λ x h d n. omega (arith, g x h (λ q. n (ap (next p) q)))))
      (λ k. by_le (suc f) p (λ t. P (cond t (whole f) one_each))
      (λ l. in_whole f l (eqb-true (C f) 0 (first-true p 0 (λ x. eqb (C x) 0) (omega arith)))
      (λ x g d n. let q : C x ≢ m = eqb-false (C x) m (first-false p 0 x (λ x. eqb (C x) m) (omega arith) (omega arith)) in
      omega (arith, count-le m 0 (row m B x))))
      (λ l.
      let some : (x : ℕ) → 0 ≤ x → x < 0 + p → 1 ≤ C x =
      λ x _ g. let q : C x ≢ 0 = eqb-false (C x) 0 (first-false p 0 x (λ x. eqb (C x) 0) (omega arith) (omega arith)) in omega arith in
      in-one_each (omega (arith, total, sum_ones p 0 C some))
      (λ x g. omega (arith, total, some x (omega arith) (omega arith), sum-each p 0 x C some (omega arith) (omega arith))))))
    where
      C : ℕ → ℕ
      C x = count m 0 (row m B x)

      total : sum p 0 C ≡ m
      total = sym (rows p m B) ∙ all

      i : ℕ
      i = first p 0 (λ x. eqb (C x) m)

      f : ℕ
      f = first p 0 (λ x. eqb (C x) 0)

-- an I-block is no B-block
pub i-not-b : (p m : ℕ) (B : ℕ → Bool) → 3 ≤ p → 0 < m → m ≤ p → count (p * m) 0 B ≡ m
    → (i j : ℕ) → i < p → j < m → is_chosen m B (chosen p m B) i j ≡ true → B (i * m + j) ≡ false
unfolding is_chosen beside
i-not-b p m B hp hm hmp all i j li lj =
    by-chosen p m B hp hm hmp all (λ s. is_chosen m B s i j ≡ true → B (i * m + j) ≡ false)
    (λ a l z o h.
    let e : i ≡ a = eqb-true i a h in
    rw e (bit-false (B (a * m + j)) (omega (arith, z, sum_one m 0 j (λ x. bit (row m B a x)) (omega arith) (omega arith)))))
    (λ e o h.
    let d : j ≡ next m (first m 0 (row m B i)) = eqb-true j (next m (first m 0 (row m B i))) h in
    one_only m i B (o i li) j lj (λ g. next-ne m (first m 0 (row m B i)) (omega arith) (sym d ∙ g)))

-- ---- B-blocks

-- one more
count_same : (n k a : ℕ) (w : ℕ → Bool) → a < k → count n k (λ x. eqb x a || w x) ≡ count n k w
unfolding sum
count_same zero k a w h = refl
count_same (suc n) k a w h = rw (eqb-other k a (omega arith), count_same n (suc k) a w (omega arith))

count_add : (n k a : ℕ) (w : ℕ → Bool) → k ≤ a → a < k + n → w a ≡ false → count n k (λ x. eqb x a || w x) ≡ suc (count n k w)
unfolding sum
count_add zero k a w l h e = absurd (omega arith)
count_add (suc n) k a w l h e =
    at-or-past k a l (λ d. rw (d, eqb_same a a refl, e) (omega (arith, count_same n (suc a) a w (omega arith))))
    (λ g. rw (eqb-other k a (omega arith)) (omega (arith, count_add n (suc k) a w g (omega arith) e)))

pub not-true : (b : Bool) → not b ≡ true → b ≡ false
not-true true h = sym h
not-true false h = refl

pub with_burst-count : (n e : ℕ) (B : ℕ → Bool) → e < n → count n 0 B < n → count n 0 (with_burst n B e) ≡ suc (count n 0 B)
unfolding with_burst becomes
with_burst-count n e B l h =
    by_bool (B e)
    (λ t. rw t (count_add n 0 f B (omega arith) fl (not-true (B f) (first-true n 0 (λ x. not (B x)) fl))))
    (λ t. rw t (count_add n 0 e B (omega arith) (omega arith) t))
  where
    f : ℕ
    f = first n 0 (λ x. not (B x))

    fl : f < 0 + n
    fl = first-in n 0 (λ x. not (B x)) (omega (arith, count-not n 0 B))

pub with_burst-keeps : (n e x : ℕ) (B : ℕ → Bool) → B x ≡ true → with_burst n B e x ≡ true
unfolding with_burst
with_burst-keeps n e x B h = rw h (or-true (eqb x (becomes n B e)))

pub with_burst-end : (n e : ℕ) (B : ℕ → Bool) → with_burst n B e e ≡ true
unfolding with_burst becomes
with_burst-end n e B = by_bool (B e) (λ t. rw t (or-true (eqb e (first n 0 (λ x. not (B x)))))) (λ t. rw (t, eqb_same e e refl))

pub with_bursts-count : (n : ℕ) (es : List ℕ) (B : ℕ → Bool) → Each (λ e. e < n) es → count n 0 B + length es ≤ n
    → count n 0 (with_bursts n es B) ≡ count n 0 B + length es
unfolding with_bursts
with_bursts-count n [] B u h = omega arith
with_bursts-count n (e ∷ es) B (l, u) h =
    let c = with_burst-count n e B l (omega arith) in
    omega (arith, with_bursts-count n es (with_burst n B e) u (omega arith))

pub with_bursts-keep : (n x : ℕ) (es : List ℕ) (B : ℕ → Bool) → B x ≡ true → with_bursts n es B x ≡ true
unfolding with_bursts
with_bursts-keep n x [] B h = h
with_bursts-keep n x (e ∷ es) B h = with_bursts-keep n x es (with_burst n B e) (with_burst-keeps n e x B h)

-- each run's end is B
pub with_bursts-ends : (n : ℕ) (es : List ℕ) (B : ℕ → Bool) → Each (λ e. with_bursts n es B e ≡ true) es
unfolding with_bursts
with_bursts-ends n [] B = tt
with_bursts-ends n (e ∷ es) B = (with_bursts-keep n e es (with_burst n B e) (with_burst-end n e B), with_bursts-ends n es (with_burst n B e))

-- ---- The I-blocks from left to right

-- the I-blocks as a list, for each way to choose them
unfoldable pub blocks_in : ℕ → ℕ → (ℕ → Bool) → Chosen → List ℕ
blocks_in p m B (whole i) = tabulate m (i * m) same
blocks_in p m B one_each = tabulate p 0 (λ i. i * m + beside m B i)

pub at_row : (m i j : ℕ) (B : ℕ → Bool) (s : Chosen) → j < m → is_index_in m B s (i * m + j) ≡ is_chosen m B s i j
unfolding is_index_in
at_row m i j B s l = rw (digits_div i l, digits_mod i l)

whole-list : (p m a : ℕ) (B : ℕ → Bool) → 0 < m → a < p → members (p * m) 0 (is_index_in m B (whole a)) ≡ tabulate m (a * m) same
unfolding is_index_in is_chosen
whole-list p m a B hm l =
    members_run (p * m) 0 (a * m) m (is_index_in m B (whole a)) (omega arith) (omega (arith, mul-le-mul_right m l))
    (λ x g h. eqb_same (x / m) a (div-eq_of_lt-le m g (omega arith)))
    (λ x g h. eqb-other (x / m) a (λ e. omega (arith, ap (λ (y : ℕ). y * m) e, div-mul-le_self x m)))
    (λ x g h. eqb-other (x / m) a (λ e. omega (arith, ap (λ (y : ℕ). y * m) e, lt-div-mul-add {a = x} hm)))

one_each-miss : (m i x : ℕ) (B : ℕ → Bool) → i * m ≤ x → x < i * m + m → x ≢ i * m + beside m B i → is_index_in m B one_each x ≡ false
unfolding is_chosen
one_each-miss m i x B g h d =
    let e : i * m + (x - i * m) ≡ x = omega arith in
    rw e at (at_row m i (x - i * m) B one_each (omega arith) ∙ eqb-other (x - i * m) (beside m B i) (omega arith))

one_each-list : (p i m : ℕ) (B : ℕ → Bool) → ((x : ℕ) → i ≤ x → x < i + p → beside m B x < m)
    → members (p * m) (i * m) (is_index_in m B one_each) ≡ tabulate p i (λ x. x * m + beside m B x)
unfolding tabulate members is_chosen
one_each-list zero i m B h =
    let e : 0 * m ≡ 0 = omega arith in
    rw e
one_each-list (suc p) i m B h =
    let e : suc p * m ≡ m + p * m = omega arith in
    let g : i * m + m ≡ suc i * m = omega arith in
    let l : beside m B i < m = h i (omega arith) (omega arith) in
    let c = i * m + beside m B i in
    let o : members m (i * m) (is_index_in m B one_each) ≡ tabulate 1 c same =
    members_run m (i * m) c 1 (is_index_in m B one_each) (omega arith) (omega arith)
    (λ x a b. let d : x ≡ c = omega arith in rw d (at_row m i (beside m B i) B one_each l ∙ eqb_same (beside m B i) (beside m B i) refl))
    (λ x a b. one_each-miss m i x B a (omega arith) (omega arith)) (λ x a b. one_each-miss m i x B (omega arith) b (omega arith)) in
    rw (e, members-append m (p * m) (i * m) (is_index_in m B one_each), g, o, one_each-list p (suc i) m B (λ x a b. h x (omega arith) (omega arith)))

pub i-list : (p m : ℕ) (B : ℕ → Bool) → 3 ≤ p → 0 < m → m ≤ p → count (p * m) 0 B ≡ m
    → (members (p * m) 0 (is_index_in m B (chosen p m B)) ≡ blocks_in p m B (chosen p m B)) × (length (blocks_in p m B (chosen p m B)) ≡ m)
unfolding blocks_in beside
i-list p m B hp hm hmp all =
    by-chosen p m B hp hm hmp all (λ s. (members (p * m) 0 (is_index_in m B s) ≡ blocks_in p m B s) × (length (blocks_in p m B s) ≡ m))
    (λ a l _ _. (whole-list p m a B hm l, length-tabulate m (a * m) (λ k. k)))
    (λ e o.
    let z : 0 * m ≡ 0 = omega arith in (
      rw z at (one_each-list p 0 m B (λ x _ h. next-lt m (first m 0 (row m B x)) (one_at m x B (o x (omega arith))))),
      length-tabulate p 0
          (λ i. i * m + beside m B i) ∙ e,
    ))
