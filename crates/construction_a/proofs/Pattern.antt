-- Laws of the listed patterns: what the reader makes of the blocks that look F. A word written by the rule shows its I-blocks whatever its B-blocks
-- look like, and the blocks that the reader takes never look F. Assumes nothing.
use mathlib.Core.Path.{◌≡◌, refl, sym, ap, ◌∙◌, subst}
use mathlib.Core.Logic.{◌≢◌}
use mathlib.Core.Bool.{Bool, true, false, not, cond, ◌||◌, ◌&&◌, or-true, or-false, true≢false}
use mathlib.Core.List.{List, [], ◌∷◌}
use mathlib.Core.Option.{Option, none, some}
use Prim.Native.Nat.{ℕ, zero, suc, ◌+◌, ◌-◌, ◌*◌, ◌≤◌, ◌<◌}
use native.Mathlib.Nat.{mul-le-mul_right}
use native.Mathlib.Omega.{arith}
use lib.Dec.{leb, ltb, eqb}
use lib.ListN.{length}
use Rattle.combinatorics.specs.Stretch.{count, has, first, keep_if, members, tabulate}
use Rattle.combinatorics.proofs.Cases.{by_le, by-eq, by_bool, eqb_same, eqb-other, leb-holds, leb-fails}
use Rattle.combinatorics.proofs.Members.{Each, each_map, length-tabulate}
use Rattle.combinatorics.proofs.Stretch.{same, at-or-past, some-false, has-none, has_some, has-ext, members-none, members-ext}
use Rattle.cells.specs.Round.{next, later}
use Rattle.construction_a.specs.Writing.{row, Chosen, whole, one_each, chosen, beside, is_chosen}
use Rattle.construction_a.specs.Reading.{bare_parts, within, open_blocks, index_in_part, cons_both, collect, index_by, index_found}
use Rattle.cells.proofs.Round.{next-inner, next_last, next-lt, next-ne}
use Rattle.construction_a.proofs.Rule.{one_at, one_only, by-chosen, blocks_in}

-- ---- what `later` gives

next-not : (n x i : ℕ) → x ≢ i → next n x ≢ suc i
next-not n x i f g =
    by-eq (suc x) n (λ _. ⊥) (λ e. let q = next_last n x e in omega arith) (λ d. let q = next-inner n x d in omega arith)

members_only : (n k i : ℕ) (w : ℕ → Bool) → k ≤ i → i < k + n → ((x : ℕ) → k ≤ x → x < k + n → x ≢ i → w x ≡ false) → members n k w ≡ keep_if (w i) i []
unfolding members
members_only zero k i w l h o = absurd (omega arith)
members_only (suc n) k i w l h o =
    at-or-past k i l
    (λ e. rw (e, members-none n (suc i) w (λ x a b. o x (omega arith) (omega arith) (omega arith))))
    (λ g. rw (o k (omega arith) (omega arith) (omega arith)) (members_only n (suc k) i w g (omega arith) (λ x a b f. o x (omega arith) (omega arith) f)))

members-pair : (n k i : ℕ) (w : ℕ → Bool) → k ≤ i → suc i < k + n → w (suc i) ≡ true
    → ((x : ℕ) → k ≤ x → x < k + n → x ≢ i → x ≢ suc i → w x ≡ false) → members n k w ≡ keep_if (w i) i (suc i ∷ [])
unfolding members
members-pair zero k i w l h t o = absurd (omega arith)
members-pair (suc n) k i w l h t o =
    at-or-past k i l
    (λ e. rw (e, members_only n (suc i) (suc i) w (omega arith) (omega arith) (λ x a b f. o x (omega arith) (omega arith) (omega arith) f), t))
    (λ g. rw (o k (omega arith) (omega arith) (omega arith) (omega arith))
    (members-pair n (suc k) i w g (omega arith) t (λ x a b f. o x (omega arith) (omega arith) f)))

later-ends : (n : ℕ) (b : Bool) → 2 ≤ n → later (suc n) (0 ∷ keep_if b n []) ≡ some 0
unfolding later
later-ends n true h = rw (eqb-other n 1 (omega arith), eqb_same (suc n) (suc n) refl)
later-ends n false h = refl

later-pair : (n i : ℕ) (b : Bool) → later n (keep_if b i (suc i ∷ [])) ≡ some (suc i)
unfolding later
later-pair n i true = rw (eqb_same (suc i) (suc i) refl)
later-pair n i false = refl

-- all but a and the one before it are false
pub later-is : (n a : ℕ) (w : ℕ → Bool) → 3 ≤ n → a < n → w a ≡ true → ((x : ℕ) → x < n → x ≢ a → next n x ≢ a → w x ≡ false) → later n (members n 0 w) ≡ some a
unfolding members
later-is zero a w h l t o = absurd (omega arith)
later-is (suc n) zero w h l t o =
    rw (
      t,
      members_only n 1 n w (omega arith) (omega arith) (λ x a b f. o x (omega arith) (omega arith)
          (rw (next-inner (suc n) x (omega arith)) (omega arith))),
    )
    (later-ends n (w n) (omega arith))
later-is (suc n) (suc i) w h l t o =
    rw (members-pair (suc n) 0 i w (omega arith) (omega arith) t (λ x a b f g. o x (omega arith) g (next-not (suc n) x i f)))
    (later-pair (suc n) i (w i))

-- ---- what the reader makes of a word that was written by the rule, whatever the B-blocks look like

pub record Seen (p m : ℕ) (B looks : ℕ → Bool) (s : Chosen) : Type 0 where
  pub shown : (i j : ℕ) → i < p → j < m → is_chosen m B s i j ≡ true → looks (i * m + j) ≡ false
  pub filled : (i j : ℕ) → i < p → j < m → is_chosen m B s i j ≡ false → B (i * m + j) ≡ false → looks (i * m + j) ≡ true

next-next-ne : (n i : ℕ) → 3 ≤ n → next n (next n i) ≢ i
next-next-ne n i h e =
    by-eq (suc i) n (λ _. ⊥) (λ d. omega (arith, ap (next n) (next_last n i d), next-inner n 0 (omega arith)))
    (λ f. let g = ap (next n) (next-inner n i f) in
    by-eq (suc (suc i)) n (λ _. ⊥) (λ d. omega (arith, next_last n (suc i) d)) (λ d. omega (arith, next-inner n (suc i) d)))

-- a whole part
read_whole : (p m a : ℕ) (B looks : ℕ → Bool) → 3 ≤ p → a < p → Seen p m B looks (whole a)
    → ((x : ℕ) → x < p → x ≢ a → next p x ≢ a → count m 0 (row m B x) < m) → index_found p m looks ≡ some (blocks_in p m B (whole a))
unfolding index_found bare_parts blocks_in is_chosen
read_whole p m a B looks h l s o =
    let w : ℕ → Bool = λ i. not (has m 0 (row m looks i)) in
    let t : w a ≡ true = rw (has-none m 0 (row m looks a) (λ j _ k. s.shown a j l (omega arith) (eqb_same a a refl))) in
    let f : (x : ℕ) → x < p → x ≢ a → next p x ≢ a → w x ≡ false =
    λ x g d n. let r = some-false m 0 (row m B x) (o x g d n) in
    rw (has_some m 0 r.0 (row m looks x) (omega arith) r.2 (s.filled x r.0 g (omega (arith, r.2)) (eqb-other x a d) r.3)) in
    rw (later-is p a w h l t f)

-- one in each part
pub collect-tabulate : (n k : ℕ) (g : ℕ → Option ℕ) (f : ℕ → ℕ) → ((x : ℕ) → k ≤ x → x < k + n → g x ≡ some (f x)) → collect n k g ≡ some (tabulate n k f)
unfolding collect tabulate
collect-tabulate zero k g f o = refl
collect-tabulate (suc n) k g f o = rw (o k (omega arith) (omega arith), collect-tabulate n (suc k) g f (λ x a b. o x (omega arith) (omega arith)))

read-one_each : (p m : ℕ) (B looks : ℕ → Bool) → 3 ≤ m → Seen p m B looks one_each
    → ((x : ℕ) → x < p → count m 0 (row m B x) ≡ 1) → index_found p m looks ≡ some (blocks_in p m B one_each)
unfolding index_found bare_parts open_blocks index_in_part blocks_in is_chosen beside later
read-one_each p m B looks h s o =
    let bare : (x : ℕ) → 0 ≤ x → x < 0 + p → not (has m 0 (row m looks x)) ≡ false =
    λ x _ g. let l : x < p = omega arith in
    let c = first m 0 (row m B x) in
    let k : next m c < m = next-lt m c (one_at m x B (o x l)) in
    let q : next m (next m c) < m = next-lt m (next m c) k in
    rw (has_some m 0 (next m (next m c)) (row m looks x) (omega arith) (omega arith)
    (s.filled x (next m (next m c)) l q (eqb-other (next m (next m c)) (next m c) (next-ne m (next m c) (omega arith)))
    (one_only m x B (o x l) (next m (next m c)) q (next-next-ne m c h)))) in
    let each : (x : ℕ) → 0 ≤ x → x < 0 + p → index_in_part m looks x ≡ some (x * m + beside m B x) =
    λ x _ g. let l : x < p = omega arith in
    let c = first m 0 (row m B x) in
    let k : next m c < m = next-lt m c (one_at m x B (o x l)) in
    rw (later-is m (next m c) (λ j. not (row m looks x j)) h k (rw (s.shown x (next m c) l k (eqb_same (next m c) (next m c) refl)))
    (λ j jl d n. rw (s.filled x j l jl (eqb-other j (next m c) d) (one_only m x B (o x l) j jl (λ e. n (ap (next m) e)))))) in
    rw (members-none p 0 (λ i. not (has m 0 (row m looks i))) bare, leb-holds 3 m h)
    (collect-tabulate p 0 (index_in_part m looks) (λ x. x * m + beside m B x) each)

-- whatever the B-blocks look like, the reader finds the I-blocks
pub read-back : (p m : ℕ) (B looks : ℕ → Bool) → 3 ≤ p → 0 < m → m ≤ p → count (p * m) 0 B ≡ m
    → Seen p m B looks (chosen p m B) → index_found p m looks ≡ some (blocks_in p m B (chosen p m B))
read-back p m B looks hp hm hmp all =
    by-chosen p m B hp hm hmp all (λ s. Seen p m B looks s → index_found p m looks ≡ some (blocks_in p m B s))
    (λ a l _ o s. read_whole p m a B looks hp l s o) (λ e o s. read-one_each p m B looks (omega arith) s o)

-- ---- The blocks that the reader takes do not look F

members-all : (n k : ℕ) (w : ℕ → Bool) → Each (λ x. w x ≡ true) (members n k w)
unfolding members
members-all zero k w = tt
members-all (suc n) k w = by_bool (w k) (λ t. rw t (t, members-all n (suc k) w)) (λ t. rw t (members-all n (suc k) w))

some_is : {A : Type 0} (x y : A) → some x ≡ some y → x ≡ y
some_is x y e = cc

not_some : {A : Type 0} {P : Type 0} (y : A) → none ≡ some y → P
not_some y e = absurd (let z : ◌≡◌ {A = ℕ} 0 1 = cc in omega arith)

later-in : (n i : ℕ) (xs : List ℕ) (w : ℕ → Bool) → Each (λ x. w x ≡ true) xs → later n xs ≡ some i → w i ≡ true
unfolding later
later-in n i [] w h = λ e. not_some i e
later-in n i (x ∷ []) w h = λ e. rw (← some_is x i e) h.0
later-in n i (x ∷ y ∷ []) w h =
    by-eq y (suc x) (λ t. cond t (some y) (cond (eqb x 0 && eqb (suc y) n) (some 0) none) ≡ some i → w i ≡ true) (λ _ e. rw (← some_is y i e) h.1.0)
    (λ _. by-eq x 0 (λ t. cond (t && eqb (suc y) n) (some 0) none ≡ some i → w i ≡ true)
    (λ d. by-eq (suc y) n (λ t. cond t (some 0) none ≡ some i → w i ≡ true) (λ _ e. rw (← some_is 0 i e) (rw d at h.0)) (λ _ e. not_some i e))
    (λ _ e. not_some i e))
later-in n i (x ∷ y ∷ z ∷ r) w h = λ e. not_some i e

tabulate-all : (n k : ℕ) (w : ℕ → Bool) → ((x : ℕ) → k ≤ x → x < k + n → w x ≡ true) → Each (λ x. w x ≡ true) (tabulate n k same)
unfolding tabulate
tabulate-all zero k w h = tt
tabulate-all (suc n) k w h = (h k (omega arith) (omega arith), tabulate-all n (suc k) w (λ x a b. h x (omega arith) (omega arith)))

collect-all : (n k : ℕ) (g : ℕ → Option ℕ) (w : ℕ → Bool) → ((x y : ℕ) → g x ≡ some y → w y ≡ true) → (ks : List ℕ) → collect n k g ≡ some ks
    → Each (λ x. w x ≡ true) ks
unfolding collect
collect-all zero k g w h ks = λ e. rw (← some_is [] ks e) tt
collect-all (suc n) k g w h ks = go (g k) (collect n (suc k) g) (h k) (collect-all n (suc k) g w h)
  where
    go : (o : Option ℕ) (r : Option (List ℕ)) → ((y : ℕ) → o ≡ some y → w y ≡ true) → ((ks : List ℕ) → r ≡ some ks → Each (λ x. w x ≡ true) ks)
        → cons_both o r ≡ some ks → Each (λ x. w x ≡ true) ks
    go none r a b e = not_some ks e
    go (some x) none a b e = not_some ks e
    go (some x) (some xs) a b e = rw (← some_is (x ∷ xs) ks e) (a x refl, b xs refl)

-- what is true of each block of a row
has_all : (m i : ℕ) (looks : ℕ → Bool) → not (has m 0 (λ j. looks (i * m + j))) ≡ true → (x : ℕ) → i * m ≤ x → x < i * m + m → not (looks x) ≡ true
has_all m i looks e x a b =
    let d : i * m + (x - i * m) ≡ x = omega arith in
    by_bool (looks x)
    (λ t. absurd (true≢false (sym e ∙ ap not (has_some m 0 (x - i * m) (λ j. looks (i * m + j)) (omega arith) (omega arith) (rw d t))))) (λ t. rw t)

pub taken-bare : (p m : ℕ) (looks : ℕ → Bool) (ks : List ℕ) → index_found p m looks ≡ some ks → Each (λ k. not (looks k) ≡ true) ks
unfolding index_found bare_parts open_blocks index_in_part
taken-bare p m looks ks = go bare (later p bare) (λ i. later-in p i bare wp (members-all p 0 wp))
  where
    w : ℕ → Bool
    w k = not (looks k)

    wp : ℕ → Bool
    wp i = not (has m 0 (λ j. looks (i * m + j)))

    bare : List ℕ
    bare = members p 0 wp

    in-part : (x y : ℕ) (o : Option ℕ) → ((j : ℕ) → o ≡ some j → w (x * m + j) ≡ true) → within m x o ≡ some y → w y ≡ true
    in-part x y none h e = not_some y e
    in-part x y (some j) h e = rw (← some_is (x * m + j) y e) (h j refl)

    part : (x y : ℕ) → index_in_part m looks x ≡ some y → w y ≡ true
    part x y = in-part x y (later m (members m 0 (λ j. w (x * m + j))))
        (λ j. later-in m j (members m 0 (λ j. w (x * m + j))) (λ j. w (x * m + j)) (members-all m 0 (λ j. w (x * m + j))))

    go : (bs : List ℕ) (o : Option ℕ) → ((i : ℕ) → o ≡ some i → wp i ≡ true) → index_by p m looks bs o ≡ some ks → Each (λ x. w x ≡ true) ks
    go bs (some i) h = λ e. rw (← some_is (tabulate m (i * m) same) ks e) (tabulate-all m (i * m) w (has_all m i looks (h i refl)))
    go [] none h = by_le 3 m (λ t. cond t (collect p 0 (index_in_part m looks)) none ≡ some ks → Each (λ x. w x ≡ true) ks)
        (λ _ e. collect-all p 0 (index_in_part m looks) w part ks e) (λ _ e. not_some ks e)
    go (x ∷ xs) none h = λ e. not_some ks e

-- ---- "Every other pattern is refused"

-- the lists that give one: one number; two neighbours, which give the later; the first and the last, which give the first
pub data Gives (n : ℕ) : List ℕ → ℕ → Type 0 where
  alone : (i : ℕ) → Gives n (i ∷ []) i
  neighbours : (i : ℕ) → Gives n (i ∷ suc i ∷ []) (suc i)
  ends : (j : ℕ) → suc j ≡ n → Gives n (0 ∷ j ∷ []) 0

pub later-gives : (n i : ℕ) (xs : List ℕ) → later n xs ≡ some i → Gives n xs i
unfolding later
later-gives n i [] = λ e. not_some i e
later-gives n i (x ∷ []) = λ e. subst (Gives n (x ∷ [])) (some_is x i e) (alone x)
later-gives n i (x ∷ y ∷ []) =
    by-eq y (suc x) (λ t. cond t (some y) (cond (eqb x 0 && eqb (suc y) n) (some 0) none) ≡ some i → Gives n (x ∷ y ∷ []) i)
    (λ d e. subst (Gives n (x ∷ y ∷ [])) (some_is y i e) (rw d (neighbours x)))
    (λ _. by-eq x 0 (λ t. cond (t && eqb (suc y) n) (some 0) none ≡ some i → Gives n (x ∷ y ∷ []) i)
    (λ d. by-eq (suc y) n (λ t. cond t (some 0) none ≡ some i → Gives n (x ∷ y ∷ []) i)
    (λ z e. subst (Gives n (x ∷ y ∷ [])) (some_is 0 i e) (rw d (ends y z))) (λ _ e. not_some i e)) (λ _ e. not_some i e))
later-gives n i (x ∷ y ∷ z ∷ r) = λ e. not_some i e

-- ---- The pattern is read off the word's own blocks

collect-ext : (n k : ℕ) (g h : ℕ → Option ℕ) → ((x : ℕ) → k ≤ x → x < k + n → g x ≡ h x) → collect n k g ≡ collect n k h
unfolding collect
collect-ext zero k g h e = refl
collect-ext (suc n) k g h e = rw (e k (omega arith) (omega arith), collect-ext n (suc k) g h (λ x a b. e x (omega arith) (omega arith)))

-- sets that agree on them show the same
module _ (p m : ℕ) (a b : ℕ → Bool) (same_blocks : (k : ℕ) → k < p * m → a k ≡ b k) where
  same_row : (i j : ℕ) → i < p → j < m → row m a i j ≡ row m b i j
  same_row i j g h = same_blocks (i * m + j) (omega (arith, mul-le-mul_right m g))

  same-bare : bare_parts p m a ≡ bare_parts p m b
  unfolding bare_parts
  same-bare =
      members-ext p 0 (λ i. not (has m 0 (row m a i))) (λ i. not (has m 0 (row m b i)))
      (λ i _ g. ap not (has-ext m 0 (row m a i) (row m b i) (λ j _ h. same_row i j (omega arith) (omega arith))))

  same-part : (i : ℕ) → i < p → index_in_part m a i ≡ index_in_part m b i
  unfolding open_blocks index_in_part
  same-part i g =
      ap (λ (xs : List ℕ). within m i (later m xs))
      (members-ext m 0 (λ j. not (row m a i j)) (λ j. not (row m b i j)) (λ j _ h. ap not (same_row i j g (omega arith))))

  same_by : (bare : List ℕ) (o : Option ℕ) → index_by p m a bare o ≡ index_by p m b bare o
  same_by bare (some i) = refl
  same_by [] none = ap (λ (y : Option (List ℕ)). cond (ltb 2 m) y none)
      (collect-ext p 0 (index_in_part m a) (index_in_part m b) (λ i _ g. same-part i (omega arith)))
  same_by (x ∷ xs) none = refl

  pub found-same : index_found p m a ≡ index_found p m b
  unfolding index_found
  found-same = rw same-bare (same_by (bare_parts p m b) (later p (bare_parts p m b)))

-- so the blocks that the reader takes are blocks of the word
pub found_within : (p m : ℕ) (looks : ℕ → Bool) (ks : List ℕ) → index_found p m looks ≡ some ks → Each (λ k. k < p * m) ks
found_within p m looks ks e =
    each_map (λ k. not (some-look k) ≡ true) (λ k. k < p * m)
    (λ k. by_le (p * m) k (λ t. not (looks k || t) ≡ true → k < p * m) (λ _ h. absurd (true≢false (sym h ∙ ap not (or-true (looks k))))) (λ l _. l))
    ks (taken-bare p m some-look ks (sym (found-same p m looks some-look agree) ∙ e))
  where
    -- what lies past the word looks F
    some-look : ℕ → Bool
    some-look k = looks k || leb (p * m) k

    agree : (k : ℕ) → k < p * m → looks k ≡ (looks k || leb (p * m) k)
    agree k l = rw (leb-fails (p * m) k l) (sym (or-false (looks k)))

-- and there are m of them
collect-length : (n k : ℕ) (g : ℕ → Option ℕ) (ks : List ℕ) → collect n k g ≡ some ks → length ks ≡ n
unfolding collect
collect-length zero k g ks = λ e. rw (← some_is [] ks e)
collect-length (suc n) k g ks = go (g k) (collect n (suc k) g) (collect-length n (suc k) g)
  where
    go : (o : Option ℕ) (r : Option (List ℕ)) → ((ks : List ℕ) → r ≡ some ks → length ks ≡ n) → cons_both o r ≡ some ks → length ks ≡ suc n
    go none r h e = not_some ks e
    go (some x) none h e = not_some ks e
    go (some x) (some xs) h e = rw (← some_is (x ∷ xs) ks e) (ap suc (h xs refl))

pub found-count : (p m : ℕ) (looks : ℕ → Bool) (ks : List ℕ) → (2 < m → p ≡ m) → index_found p m looks ≡ some ks → length ks ≡ m
unfolding index_found
found-count p m looks ks alike = go (bare_parts p m looks) (later p (bare_parts p m looks))
  where
    go : (bare : List ℕ) (o : Option ℕ) → index_by p m looks bare o ≡ some ks → length ks ≡ m
    go bare (some i) = λ e. rw (← some_is (tabulate m (i * m) same) ks e) (length-tabulate m (i * m) same)
    go [] none =
        by_le 3 m (λ t. cond t (collect p 0 (index_in_part m looks)) none ≡ some ks → length ks ≡ m)
        (λ l e. collect-length p 0 (index_in_part m looks) ks e ∙ alike l) (λ _ e. not_some ks e)
    go (x ∷ xs) none = λ e. not_some ks e
