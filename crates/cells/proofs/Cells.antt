-- Laws of plans: what is woven in is taken out again, and a word that holds 0 in its fixed cells agrees with the weaving of what is taken from it.
-- Assumes nothing.
use mathlib.Core.Path.{◌≡◌, refl, sym, ap, ap₂, ◌∙◌}
use mathlib.Core.Bool.{Bool, true, false, true≢false, false≢true}
use mathlib.Core.List.{List, [], ◌∷◌, map, tail}
use Prim.Native.Nat.{ℕ, zero, suc, ◌+◌, ◌≤◌, ◌<◌}
use native.Mathlib.Omega.{arith}
use lib.ListN.{length, get_or, drop, length-map}
use Rattle.combinatorics.specs.Lists.{all, all_below}
use Rattle.combinatorics.specs.Stretch.{sum, bit, count, keep_if, members, tabulate}
use Rattle.combinatorics.proofs.Cases.{by_bool, leb-holds}
use Rattle.combinatorics.proofs.Members.{length-members}
use Rattle.combinatorics.proofs.Stretch.{at-or-past}
use Rattle.cells.specs.Cells.{Cell, burst, fixed, digit, message, is, weave, pick}

-- two words agree but for the bursts
abbrev pub Agree : List Cell → List ℕ → List ℕ → Type 0
Agree [] v w = Unit {0}
Agree (c ∷ cs) v w = (is burst c ≡ false → get_or v 0 0 ≡ get_or w 0 0) × Agree cs (tail v) (tail w)

-- 0 at each fixed cell
abbrev pub Clean : List Cell → List ℕ → Type 0
Clean [] w = Unit {0}
Clean (c ∷ cs) w = (is fixed c ≡ true → get_or w 0 0 ≡ 0) × Clean cs (tail w)

pub digits-woven : (cs : List Cell) (ds ms : List ℕ) → length ds ≡ length (pick digit cs []) → pick digit cs (weave cs ds ms) ≡ ds
unfolding weave pick
digits-woven [] [] ms h = refl
digits-woven [] (d ∷ ds) ms h = absurd (omega arith)
digits-woven (burst ∷ cs) ds ms h = digits-woven cs ds ms h
digits-woven (fixed ∷ cs) ds ms h = digits-woven cs ds ms h
digits-woven (digit ∷ cs) [] ms h = absurd (omega arith)
digits-woven (digit ∷ cs) (d ∷ ds) ms h = ap {B = List ℕ} (λ r. d ∷ r) (digits-woven cs ds ms (omega arith))
digits-woven (message ∷ cs) ds ms h = digits-woven cs ds (tail ms) h

pub message-woven : (cs : List Cell) (ds ms : List ℕ) → length ms ≡ length (pick message cs []) → pick message cs (weave cs ds ms) ≡ ms
unfolding weave pick
message-woven [] ds [] h = refl
message-woven [] ds (x ∷ ms) h = absurd (omega arith)
message-woven (burst ∷ cs) ds ms h = message-woven cs ds ms h
message-woven (fixed ∷ cs) ds ms h = message-woven cs ds ms h
message-woven (digit ∷ cs) ds ms h = message-woven cs (tail ds) ms h
message-woven (message ∷ cs) ds [] h = absurd (omega arith)
message-woven (message ∷ cs) ds (x ∷ ms) h = ap {B = List ℕ} (λ r. x ∷ r) (message-woven cs ds ms (omega arith))

pub woven-clean : (cs : List Cell) (ds ms : List ℕ) → Clean cs (weave cs ds ms)
unfolding weave
woven-clean [] ds ms = tt
woven-clean (burst ∷ cs) ds ms = (λ e. refl, woven-clean cs ds ms)
woven-clean (fixed ∷ cs) ds ms = (λ _. refl, woven-clean cs ds ms)
woven-clean (digit ∷ cs) ds ms = (λ e. absurd (false≢true e), woven-clean cs (tail ds) ms)
woven-clean (message ∷ cs) ds ms = (λ e. absurd (false≢true e), woven-clean cs ds (tail ms))

-- a word that is clean agrees with the weaving of what is taken from it
pub clean-agrees : (cs : List Cell) (w : List ℕ) → Clean cs w → Agree cs w (weave cs (pick digit cs w) (pick message cs w))
unfolding weave pick
clean-agrees [] w h = tt
clean-agrees (burst ∷ cs) w h = (λ e. absurd (true≢false e), clean-agrees cs (tail w) h.1)
clean-agrees (fixed ∷ cs) w h = (λ _. h.0 refl, clean-agrees cs (tail w) h.1)
clean-agrees (digit ∷ cs) w h = (λ _. refl, clean-agrees cs (tail w) h.1)
clean-agrees (message ∷ cs) w h = (λ _. refl, clean-agrees cs (tail w) h.1)

pub length-woven : (cs : List Cell) (ds ms : List ℕ) → length (weave cs ds ms) ≡ length cs
unfolding weave
length-woven [] ds ms = refl
length-woven (burst ∷ cs) ds ms = ap suc (length-woven cs ds ms)
length-woven (fixed ∷ cs) ds ms = ap suc (length-woven cs ds ms)
length-woven (digit ∷ cs) ds ms = ap suc (length-woven cs (tail ds) ms)
length-woven (message ∷ cs) ds ms = ap suc (length-woven cs ds (tail ms))

-- ---- a plan that is given position by position

first-drop : (k : ℕ) (w : List ℕ) → get_or (drop k w) 0 0 ≡ get_or w k 0
first-drop zero [] = refl
first-drop zero (x ∷ w) = refl
first-drop (suc k) [] = refl
first-drop (suc k) (x ∷ w) = first-drop k w

tail-drop : (k : ℕ) (w : List ℕ) → tail (drop k w) ≡ drop (suc k) w
tail-drop zero [] = refl
tail-drop zero (x ∷ w) = refl
tail-drop (suc k) [] = refl
tail-drop (suc k) (x ∷ w) = tail-drop k w

pub map-keep : (b : Bool) (x : ℕ) (xs : List ℕ) (f : ℕ → ℕ) → keep_if b (f x) (map f xs) ≡ map f (keep_if b x xs)
map-keep true x xs f = refl
map-keep false x xs f = refl

pub pick_at : (kind : Cell) (n k : ℕ) (kd : ℕ → Cell) (w : List ℕ)
    → pick kind (tabulate n k kd) (drop k w) ≡ map (λ x. get_or w x 0) (members n k (λ x. is kind (kd x)))
unfolding pick tabulate members
pick_at kind zero k kd w = refl
pick_at kind (suc n) k kd w =
    rw (first-drop k w, tail-drop k w, pick_at kind n (suc k) kd w) (map-keep (is kind (kd k)) k (members n (suc k) (λ x. is kind (kd x))) (λ x. get_or w x 0))

pub agree_at : (n k x : ℕ) (kd : ℕ → Cell) (v w : List ℕ) → Agree (tabulate n k kd) (drop k v) (drop k w) → k ≤ x → x < k + n → is burst (kd x) ≡ false
    → get_or v x 0 ≡ get_or w x 0
unfolding tabulate
agree_at zero k x kd v w h a b e = absurd (omega arith)
agree_at (suc n) k x kd v w (h, g) a b e =
    at-or-past k x a (λ d. rw (← d) (sym (first-drop k v) ∙ h (rw d e) ∙ first-drop k w))
    (λ l. agree_at n (suc k) x kd v w (rw (← tail-drop k v, ← tail-drop k w) g) l (omega arith) e)

pub clean_at : (n k x : ℕ) (kd : ℕ → Cell) (w : List ℕ) → Clean (tabulate n k kd) (drop k w) → k ≤ x → x < k + n → is fixed (kd x) ≡ true → get_or w x 0 ≡ 0
unfolding tabulate
clean_at zero k x kd w h a b e = absurd (omega arith)
clean_at (suc n) k x kd w (h, g) a b e =
    at-or-past k x a (λ d. rw (← d) (sym (first-drop k w) ∙ h (rw d e))) (λ l. clean_at n (suc k) x kd w (rw (← tail-drop k w) g) l (omega arith) e)

pub at-clean : (n k : ℕ) (kd : ℕ → Cell) (w : List ℕ) → ((x : ℕ) → k ≤ x → x < k + n → is fixed (kd x) ≡ true → get_or w x 0 ≡ 0)
    → Clean (tabulate n k kd) (drop k w)
unfolding tabulate
at-clean zero k kd w h = tt
at-clean (suc n) k kd w h =
    (λ e. first-drop k w ∙ h k (omega arith) (omega arith) e, rw (tail-drop k w) (at-clean n (suc k) kd w (λ x a b. h x (omega arith) (omega arith))))

-- words that agree at the positions of a kind give the same there
pub map-members : (n k : ℕ) (s : ℕ → Bool) (f f' : ℕ → ℕ) → ((x : ℕ) → k ≤ x → x < k + n → s x ≡ true → f x ≡ f' x)
    → map f (members n k s) ≡ map f' (members n k s)
unfolding members
map-members zero k s f f' h = refl
map-members (suc n) k s f f' h =
    let i = map-members n (suc k) s f f' (λ x a b. h x (omega arith) (omega arith)) in
    by_bool (s k) (λ t. rw t (ap₂ {C = List ℕ} ◌∷◌ (h k (omega arith) (omega arith) t) i)) (λ t. rw t i)

-- each cell is of one kind
pub kinds : (n k : ℕ) (kd : ℕ → Cell) → count n k (λ x. is burst (kd x)) + count n k (λ x. is fixed (kd x)) + count n k (λ x. is digit (kd x)) + count n k
    (λ x. is message (kd x)) ≡ n
unfolding sum
kinds zero k kd = refl
kinds (suc n) k kd = omega (arith, one (kd k), kinds n (suc k) kd)
  where
    one : (c : Cell) → bit (is burst c) + bit (is fixed c) + bit (is digit c) + bit (is message c) ≡ 1
    one burst = refl
    one fixed = refl
    one digit = refl
    one message = refl

-- how many cells of a kind
pub length-pick : (kind : Cell) (n : ℕ) (kd : ℕ → Cell) (w : List ℕ) → length (pick kind (tabulate n 0 kd) w) ≡ count n 0 (λ x. is kind (kd x))
length-pick kind n kd w =
    ap length (pick_at kind n 0 kd w) ∙ length-map (members n 0 (λ x. is kind (kd x))) (λ x. get_or w x 0) ∙ length-members n 0 (λ x. is kind (kd x))

-- a cell of another kind is in no burst
pub no-burst : (kind c : Cell) → is kind burst ≡ false → is kind c ≡ true → is burst c ≡ false
no-burst kind burst h e = absurd (true≢false (sym e ∙ h))
no-burst kind fixed h e = refl
no-burst kind digit h e = refl
no-burst kind message h e = refl

-- what is taken depends on the cells of that kind alone
pub pick-alike : (kind : Cell) (n : ℕ) (kd : ℕ → Cell) (v w : List ℕ) → ((x : ℕ) → x < n → is kind (kd x) ≡ true → get_or v x 0 ≡ get_or w x 0)
    → pick kind (tabulate n 0 kd) v ≡ pick kind (tabulate n 0 kd) w
pick-alike kind n kd v w h =
    pick_at kind n 0 kd v
    ∙ map-members n 0 (λ x. is kind (kd x)) (λ x. get_or v x 0) (λ x. get_or w x 0) (λ x _ l t. h x (omega arith) t)
    ∙ sym (pick_at kind n 0 kd w)

-- and those of no burst agree
pub pick-agrees : (kind : Cell) (n : ℕ) (kd : ℕ → Cell) (v w : List ℕ) → is kind burst ≡ false
    → ((x : ℕ) → x < n → is burst (kd x) ≡ false → get_or v x 0 ≡ get_or w x 0) → pick kind (tabulate n 0 kd) v ≡ pick kind (tabulate n 0 kd) w
pick-agrees kind n kd v w k h = pick-alike kind n kd v w (λ x l t. h x l (no-burst kind (kd x) k t))

-- what is taken is below q where the cells of that kind hold symbols below q
pub pick_small : (kind : Cell) (n : ℕ) (kd : ℕ → Cell) (w : List ℕ) (q : ℕ) → ((x : ℕ) → x < n → is kind (kd x) ≡ true → get_or w x 0 < q)
    → all_below q (pick kind (tabulate n 0 kd) w) ≡ true
unfolding members all
pick_small kind n kd w q small = rw (pick_at kind n 0 kd w) (go n 0 (λ x _ l t. small x (omega arith) t))
  where
    go : (n k : ℕ) → ((x : ℕ) → k ≤ x → x < k + n → is kind (kd x) ≡ true → get_or w x 0 < q)
        → all_below q (map (λ x. get_or w x 0) (members n k (λ x. is kind (kd x)))) ≡ true
    go zero k h = refl
    go (suc n) k h =
        let i = go n (suc k) (λ x a l t. h x (omega arith) (omega arith) t) in
        by_bool (is kind (kd k)) (λ t. rw (t, leb-holds (suc (get_or w k 0)) q (h k (omega arith) (omega arith) t)) i) (λ t. rw t i)

-- and so where the whole word does
pub pick-below : (kind : Cell) (n : ℕ) (kd : ℕ → Cell) (w : List ℕ) (q : ℕ) → ((x : ℕ) → get_or w x 0 < q) → all_below q (pick kind (tabulate n 0 kd) w) ≡ true
pick-below kind n kd w q small = pick_small kind n kd w q (λ x _ _. small x)

-- a word woven of symbols below q is of such symbols
tail_at : (xs : List ℕ) (x : ℕ) → get_or (tail xs) x 0 ≡ get_or xs (suc x) 0
tail_at [] x = refl
tail_at (y ∷ ys) x = refl

pub woven-below : (q : ℕ) (cs : List Cell) (ds ms : List ℕ) → 0 < q → ((x : ℕ) → get_or ds x 0 < q) → ((x : ℕ) → get_or ms x 0 < q)
    → all_below q (weave cs ds ms) ≡ true
unfolding weave all
woven-below q [] ds ms h d m = refl
woven-below q (burst ∷ cs) ds ms h d m = rw (leb-holds 1 q h) (woven-below q cs ds ms h d m)
woven-below q (fixed ∷ cs) ds ms h d m = rw (leb-holds 1 q h) (woven-below q cs ds ms h d m)
woven-below q (digit ∷ cs) ds ms h d m = rw (leb-holds (suc (get_or ds 0 0)) q (d 0)) (woven-below q cs (tail ds) ms h (λ x. rw (tail_at ds x) (d (suc x))) m)
woven-below q (message ∷ cs) ds ms h d m = rw (leb-holds (suc (get_or ms 0 0)) q (m 0)) (woven-below q cs ds (tail ms) h d (λ x. rw (tail_at ms x) (m (suc x))))
