-- Laws of lists over a stretch of numbers: its members, tables over it, and what holds of each number of a list. Assumes nothing.
use mathlib.Core.Path.{◌≡◌, refl, sym, ap, ◌∙◌, subst}
use mathlib.Core.Bool.{Bool, true, false, ◌&&◌, false≢true}
use mathlib.Core.List.{List, [], ◌∷◌, ◌++◌, map, map-append, flat_map, append-nil}
use Prim.Native.Nat.{ℕ, zero, suc, ◌+◌, ◌-◌, ◌*◌, ◌≤◌, ◌<◌, min}
use native.Mathlib.Nat.{add-zero, add-suc}
use native.Mathlib.Numerals.{add-one}
use native.Mathlib.Omega.{arith}
use lib.Dec.{ltb}
use lib.ListN.{length, get_or, take, drop, set, length-append}
use lib.Seq.{take-nil, take_all, take-append-le, take-append_seam, drop_at, get_or-set_same, get_or-set_other}
use Rattle.combinatorics.specs.Stretch.{sum, bit, count, firsts, keep_if, members, tabulate}
use Rattle.combinatorics.proofs.Cases.{by_le, by-eq, by_bool}
use Rattle.combinatorics.proofs.Stretch.{same, at-or-past, sum-next, members-none}

pub length-tabulate : {A : Type 0} (n k : ℕ) (f : ℕ → A) → length (tabulate n k f) ≡ n
unfolding tabulate
length-tabulate zero k f = refl
length-tabulate (suc n) k f = ap suc (length-tabulate n (suc k) f)

pub length-members : (n k : ℕ) (w : ℕ → Bool) → length (members n k w) ≡ count n k w
unfolding members sum
length-members zero k w = refl
length-members (suc n) k w = by_bool (w k) (λ t. rw t (omega (arith, length-members n (suc k) w))) (λ t. rw t (omega (arith, length-members n (suc k) w)))

pub keep_append : (b : Bool) (x : ℕ) (r s : List ℕ) → keep_if b x (r ++ s) ≡ keep_if b x r ++ s
keep_append true x r s = refl
keep_append false x r s = refl

pub members-append : (a b k : ℕ) (w : ℕ → Bool) → members (a + b) k w ≡ members a k w ++ members b (k + a) w
unfolding members
members-append zero b k w =
    let e : 0 + b ≡ b = omega arith in
    let g : k + 0 ≡ k = omega arith in
    rw (e, g)
members-append (suc a) b k w =
    let e : suc a + b ≡ suc (a + b) = omega arith in
    let g : k + suc a ≡ suc k + a = omega arith in
    rw (e, g, members-append a b (suc k) w) (keep_append (w k) k (members a (suc k) w) (members b (suc k + a) w))

-- c in a row, from a on, and no others
pub members_run : (n k a c : ℕ) (w : ℕ → Bool) → k ≤ a → a + c ≤ k + n → ((x : ℕ) → a ≤ x → x < a + c → w x ≡ true)
    → ((x : ℕ) → k ≤ x → x < a → w x ≡ false) → ((x : ℕ) → a + c ≤ x → x < k + n → w x ≡ false) → members n k w ≡ tabulate c a same
unfolding members tabulate
members_run n k a zero w l h t u v = members-none n k w (λ x p q. by_le (suc x) a (λ _. w x ≡ false) (λ g. u x p g) (λ g. v x (omega arith) q))
members_run zero k a (suc c) w l h t u v = absurd (omega arith)
members_run (suc n) k a (suc c) w l h t u v =
    at-or-past k a l
    (λ e. rw (e, t a (omega arith) (omega arith))
    (ap {B = List ℕ} (λ r. a ∷ r)
    (members_run n (suc a) (suc a) c w (omega arith) (omega arith) (λ x p q. t x (omega arith) (omega arith)) (λ x p q. absurd (omega arith))
    (λ x p q. v x (omega arith) (omega arith)))))
    (λ g. rw (u k (omega arith) (omega arith))
    (members_run n (suc k) a (suc c) w g (omega arith) t (λ x p q. u x (omega arith) q) (λ x p q. v x p (omega arith))))

flat_keep : (b : Bool) (x : ℕ) (xs : List ℕ) (f : ℕ → List ℕ) → flat_map f (keep_if b x []) ++ flat_map f xs ≡ flat_map f (keep_if b x xs)
unfolding flat_map
flat_keep true x xs f = rw (append-nil (f x))
flat_keep false x xs f = refl

-- Blocks that follow one another: block k is the stretch from st k up to st (k + 1). Of some of them the first hd numbers pass, and no others.
module _ (st : ℕ → ℕ) (hd top : ℕ) (sel D : ℕ → Bool) (up : (k : ℕ) → st k + hd ≤ st (suc k))
    (inside : (k x : ℕ) → k < top → sel k ≡ true → st k ≤ x → x < st k + hd → D x ≡ true)
    (past : (k x : ℕ) → k < top → sel k ≡ true → st k + hd ≤ x → x < st (suc k) → D x ≡ false)
    (other : (k x : ℕ) → k < top → sel k ≡ false → st k ≤ x → x < st (suc k) → D x ≡ false) where
  climbs : (c k : ℕ) → st k ≤ st (k + c)
  climbs zero k = rw (add-zero k) (omega arith)
  climbs (suc c) k = rw (add-suc k c) (omega (arith, climbs c k, up (k + c)))

  in_block : (k : ℕ) → k < top → (n : ℕ) → st k + n ≡ st (suc k) → members n (st k) D ≡ flat_map (λ x. tabulate hd (st x) same) (keep_if (sel k) k [])
  unfolding flat_map
  in_block k l n e =
      by_bool (sel k)
      (λ t. rw t (members_run n (st k) (st k) hd D (omega arith) (omega (arith, up k)) (λ x a b. inside k x l t a b) (λ x a b. absurd (omega arith))
      (λ x a b. past k x l t a (omega arith))
      ∙ sym (append-nil (tabulate hd (st k) same))))
      (λ t. rw t (members-none n (st k) D (λ x a b. other k x l t a (omega arith))))

  pub members-blocks : (c k n : ℕ) → k + c ≤ top → st k + n ≡ st (k + c) → members n (st k) D ≡ flat_map (λ x. tabulate hd (st x) same) (members c k sel)
  unfolding members flat_map
  members-blocks zero k n h e =
      let z : n ≡ 0 = omega (arith, rw (add-zero k) at e) in
      rw z
  members-blocks (suc c) k n h e =
      let g : k + suc c ≡ suc k + c = omega arith in
      let a = st (suc k) - st k in
      let b = st (suc k + c) - st (suc k) in
      let u : st (suc k) ≤ st (suc k + c) = climbs c (suc k) in
      let z : n ≡ a + b = omega (arith, rw g at e, up k) in
      let y : st k + a ≡ st (suc k) = omega (arith, up k) in
      rw (z, members-append a b (st k) D, y, in_block k (omega arith) a y, members-blocks c (suc k) b (omega arith) (omega arith))
      (flat_keep (sel k) k (members c (suc k) sel) (λ x. tabulate hd (st x) same))

pub length-flat : (hd : ℕ) (f : ℕ → List ℕ) (ks : List ℕ) → ((x : ℕ) → length (f x) ≡ hd) → length (flat_map f ks) ≡ length ks * hd
unfolding flat_map
length-flat hd f [] h = omega arith
length-flat hd f (k ∷ ks) h = omega (arith, length-append (f k) (flat_map f ks), h k, length-flat hd f ks h)

-- ---- Every number of a list

abbrev pub Each : (ℕ → Type 0) → List ℕ → Type 0
Each P [] = Unit {0}
Each P (x ∷ xs) = P x × Each P xs

pub each_map : (P Q : ℕ → Type 0) → ((x : ℕ) → P x → Q x) → (xs : List ℕ) → Each P xs → Each Q xs
each_map P Q f [] h = tt
each_map P Q f (x ∷ xs) h = (f x h.0, each_map P Q f xs h.1)

pub each_at : (P : ℕ → Type 0) (xs : List ℕ) (i : ℕ) → i < length xs → Each P xs → P (get_or xs i 0)
each_at P [] i l h = absurd (omega arith)
each_at P (x ∷ xs) zero l h = h.0
each_at P (x ∷ xs) (suc i) l h = each_at P xs i (omega arith) h.1

each-head : (P : ℕ → Type 0) (b : Bool) (k : ℕ) (r : List ℕ) → b ≡ true → Each P (keep_if b k r) → P k
each-head P true k r e h = h.0
each-head P false k r e h = absurd (false≢true e)

each-rest : (P : ℕ → Type 0) (b : Bool) (k : ℕ) (r : List ℕ) → Each P (keep_if b k r) → Each P r
each-rest P true k r h = h.1
each-rest P false k r h = h

-- what holds of the members holds of what is in the set
pub each_member : (P : ℕ → Type 0) (n k : ℕ) (w : ℕ → Bool) → Each P (members n k w) → (x : ℕ) → k ≤ x → x < k + n → w x ≡ true → P x
unfolding members
each_member P zero k w h x a b t = absurd (omega arith)
each_member P (suc n) k w h x a b t =
    at-or-past k x a (λ e. subst P e (each-head P (w k) k (members n (suc k) w) (rw e t) h))
    (λ l. each_member P n (suc k) w (each-rest P (w k) k (members n (suc k) w) h) x l (omega arith) t)

-- and the other way round
pub member-each : (P : ℕ → Type 0) (n k : ℕ) (w : ℕ → Bool) → ((x : ℕ) → k ≤ x → x < k + n → w x ≡ true → P x) → Each P (members n k w)
unfolding members
member-each P zero k w h = tt
member-each P (suc n) k w h =
    let r = member-each P n (suc k) w (λ x a b. h x (omega arith) (omega arith)) in
    by_bool (w k) (λ t. rw t (h k (omega arith) (omega arith) t, r)) (λ t. rw t r)

-- lists put together of pieces: the same where each piece is, and, of pieces as long, no others
pub flat-same : (f g : ℕ → List ℕ) (ks : List ℕ) → Each (λ k. f k ≡ g k) ks → flat_map f ks ≡ flat_map g ks
unfolding flat_map
flat-same f g [] h = refl
flat-same f g (k ∷ ks) (e, h) = rw (e, flat-same f g ks h)

pub same-flat : (f g : ℕ → List ℕ) (ks : List ℕ) → ((k : ℕ) → length (f k) ≡ length (g k)) → flat_map f ks ≡ flat_map g ks → Each (λ k. f k ≡ g k) ks
unfolding flat_map
same-flat f g [] l e = tt
same-flat f g (k ∷ ks) l e =
    let n = length (f k) in (
      sym (take-append_seam (f k) (flat_map f ks)) ∙ ap (take n) e ∙ (rw (l k) (take-append_seam (g k) (flat_map g ks))),
      same-flat f g ks l (sym (drop_at (f k) (flat_map f ks) n refl) ∙ ap (drop n) e ∙ drop_at (g k) (flat_map g ks) n (sym (l k))),
    )

-- ---- Functions over stretches, as maps

tabulate-map : (f : ℕ → ℕ) (n k : ℕ) → tabulate n k f ≡ map f (tabulate n k same)
unfolding tabulate
tabulate-map f zero k = refl
tabulate-map f (suc n) k = ap {B = List ℕ} (λ r. f k ∷ r) (tabulate-map f n (suc k))

pub flat-map : (f : ℕ → ℕ) (n : ℕ) (s : ℕ → ℕ) (ks : List ℕ) → flat_map (λ k. tabulate n (s k) f) ks ≡ map f (flat_map (λ k. tabulate n (s k) same) ks)
unfolding flat_map
flat-map f n s [] = refl
flat-map f n s (k ∷ ks) = rw (map-append, flat-map f n s ks, tabulate-map f n (s k))

pub members-on : (i : ℕ) (w : ℕ → Bool) → members (i + 1) 0 w ≡ members i 0 w ++ keep_if (w i) i []
unfolding members
members-on i w =
    let z : 0 + i ≡ i = omega arith in
    rw z at (members-append i 1 0 w)

-- ---- What stands in the list of a stretch

-- each member, and what stands past the last, is below the stretch's end
pub members-most : (n k x : ℕ) (w : ℕ → Bool) → 0 < k + n → get_or (members n k w) x 0 < k + n
unfolding members
members-most zero k x w h = h
members-most (suc n) k zero w h = by_bool (w k) (λ t. rw t (omega arith)) (λ t. rw t (omega (arith, members-most n (suc k) 0 w (omega arith))))
members-most (suc n) k (suc x) w h =
    by_bool (w k) (λ t. rw t (omega (arith, members-most n (suc k) x w (omega arith))))
    (λ t. rw t (omega (arith, members-most n (suc k) (suc x) w (omega arith))))

-- the first n of a list, by what stands at each place
pub take-is : (n k : ℕ) (xs : List ℕ) (f : ℕ → ℕ) → n ≤ length xs → ((j : ℕ) → j < n → get_or xs j 0 ≡ f (k + j)) → take n xs ≡ tabulate n k f
unfolding tabulate
take-is zero k xs f l h = refl
take-is (suc n) k [] f l h = absurd (omega arith)
take-is (suc n) k (x ∷ xs) f l h =
    let z : k + 0 ≡ k = omega arith in
    let e : x ≡ f k = rw z at (h 0 (omega arith)) in
    rw e (ap {B = List ℕ} (λ r. f k ∷ r) (take-is n (suc k) xs f (omega arith)
    (λ j g. h (suc j) (omega arith) ∙ ap f (let s : k + suc j ≡ suc k + j = omega arith in s))))

pub tabulate-at : (n k i : ℕ) (f : ℕ → ℕ) → i < n → get_or (tabulate n k f) i 0 ≡ f (k + i)
unfolding tabulate
tabulate-at zero k i f h = absurd (omega arith)
tabulate-at (suc n) k zero f h = ap f (let s : k ≡ k + 0 = omega arith in s)
tabulate-at (suc n) k (suc i) f h = tabulate-at n (suc k) i f (omega arith) ∙ ap f (let s : suc k + i ≡ k + suc i = omega arith in s)

-- ---- A list that is filled from the left

-- one place more has what is asked of it
pub filled_on : (P : ℕ → ℕ → Type 0) (xs : List ℕ) (i v : ℕ) → i < length xs → ((x : ℕ) → x < i → P x (get_or xs x 0)) → P i v
    → (x : ℕ) → x < i + 1 → P x (get_or (set xs i v) x 0)
filled_on P xs i v l h p x g =
    by-eq x i (λ _. P x (get_or (set xs i v) x 0)) (λ e. rw (e, get_or-set_same xs i v 0 l) p)
    (λ f. rw (get_or-set_other xs i x v 0 f) (h x (omega arith)))

-- the members are none, or a first one
pub by_members : (P : List ℕ → Type 0) (n k : ℕ) (w : ℕ → Bool) → (((x : ℕ) → k ≤ x → x < k + n → w x ≡ false) → P [])
    → ((i : ℕ) (r : List ℕ) → k ≤ i → i < k + n → w i ≡ true → P (i ∷ r)) → P (members n k w)
unfolding members
by_members P zero k w e f = e (λ x a b. absurd (omega arith))
by_members P (suc n) k w e f =
    by_bool (w k) (λ t. rw t (f k (members n (suc k) w) (omega arith) (omega arith) t))
    (λ t. rw t (by_members P n (suc k) w (λ h. e (λ x a b. at-or-past k x a (λ d. rw (← d) t) (λ l. h x l (omega arith))))
    (λ i r a b. f i r (omega arith) (omega arith))))

-- ---- The first c of a set

first_bit : (c k : ℕ) (b : Bool) → min c k + bit (b && ltb k c) ≡ min c (k + bit b)
first_bit c k true = by_le (suc k) c (λ t. min c k + bit t ≡ min c (k + 1)) (λ l. omega arith) (λ l. omega arith)
first_bit c k false = omega arith

pub count-firsts : (n c : ℕ) (w : ℕ → Bool) → count n 0 (firsts c w) ≡ min c (count n 0 w)
unfolding sum firsts
count-firsts zero c w = omega arith
count-firsts (suc n) c w =
    rw (sum-next n (λ x. bit (w x && ltb (count x 0 w) c)), sum-next n (λ x. bit (w x)), count-firsts n c w) (first_bit c (count n 0 w) (w n))

members-next : (n : ℕ) (w : ℕ → Bool) → members (suc n) 0 w ≡ members n 0 w ++ keep_if (w n) n []
members-next n w = rw (add-one n) at (members-on n w)

first-kept : (c n k : ℕ) (xs : List ℕ) (b : Bool) → length xs ≡ k → take c xs ++ keep_if (b && ltb k c) n [] ≡ take c (xs ++ keep_if b n [])
first-kept c n k xs true e =
    by_le (suc k) c (λ t. take c xs ++ keep_if t n [] ≡ take c (xs ++ (n ∷ [])))
    (λ l. rw (take_all c xs (omega arith), take_all c (xs ++ (n ∷ [])) (omega (arith, length-append xs (n ∷ [])))))
    (λ l. rw (append-nil (take c xs), take-append-le c xs (n ∷ []) (omega arith)))
first-kept c n k xs false e = rw (append-nil (take c xs), append-nil xs)

-- as a list, they are what they say
pub members-firsts : (n c : ℕ) (w : ℕ → Bool) → members n 0 (firsts c w) ≡ take c (members n 0 w)
members-firsts zero c w = unfold members in sym (take-nil c)
members-firsts (suc n) c w =
    members-next n (firsts c w) ∙ ap (λ (r : List ℕ). r ++ keep_if (firsts c w n) n []) (members-firsts n c w) ∙ last ∙ ap (take c) (sym (members-next n w))
  where
    last : take c (members n 0 w) ++ keep_if (firsts c w n) n [] ≡ take c (members n 0 w ++ keep_if (w n) n [])
    last = unfold firsts in first-kept c n (count n 0 w) (members n 0 w) (w n) (length-members n 0 w)
