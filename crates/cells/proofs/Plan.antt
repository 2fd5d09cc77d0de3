-- Laws of a plan by blocks, whatever rule gives these: where its digits and its fixed cells stand, how many cells there are of each kind, and that a
-- word read by the plan is the word written by it. Assumes nothing.
use mathlib.Core.Path.{◌≡◌, refl, sym, ap, ◌∙◌}
use mathlib.Core.Bool.{Bool, true, false, not, cond, ◌&&◌, true≢false, false≢true}
use mathlib.Core.List.{List, [], map, flat_map}
use Prim.Native.Nat.{ℕ, suc, ◌+◌, ◌-◌, ◌*◌, ◌≤◌, ◌<◌}
use native.Mathlib.Decide.{le_ind}
use native.Mathlib.Omega.{arith}
use lib.Dec.{ltb, eqb}
use lib.ListN.{length, get_or}
use Rattle.combinatorics.specs.Stretch.{count, members, tabulate}
use Rattle.combinatorics.proofs.Cases.{by_le, by-eq, by_bool, eqb_same, eqb-other, leb-holds, leb-fails}
use Rattle.combinatorics.proofs.Members.{members-blocks, length-members, length-tabulate, length-flat, flat-map}
use Rattle.combinatorics.proofs.Stretch.{same, IsTop, top-only, count-ext, count-three}
use Rattle.cells.specs.Cells.{burst, fixed, digit, message, is, weave, pick}
use Rattle.cells.specs.Plan.{Frame, cell_of, kind_in, plan_in, Spares}
use Rattle.cells.proofs.Cells.{kinds, pick_at, pick-agrees, length-pick, no-burst, digits-woven, message-woven, woven-clean, clean_at, Clean}
use Rattle.cells.proofs.Cells.{at-clean, clean-agrees, agree_at}

-- ---- What stands where

pub neither : (i b : Bool) → (not i && not b) ≡ true → (i ≡ false) × (b ≡ false)
neither true b h = absurd (false≢true h)
neither false true h = absurd (false≢true h)
neither false false h = (refl, refl)

pub in-burst : (r : ℕ) (t i b : Bool) (o : ℕ) → is burst (cell_of r t i b o) ≡ t
unfolding cell_of
in-burst r true i b o = refl
in-burst r false true b o = by_bool (ltb o (suc r)) (λ e. rw e) (λ e. rw e)
in-burst r false false true o = refl
in-burst r false false false o = by_bool (eqb o 0) (λ e. rw e) (λ e. rw e)

late : (r : ℕ) (t i b : Bool) (o : ℕ) → suc r ≤ o → is digit (cell_of r t i b o) ≡ false
unfolding cell_of
late r true i b o h = refl
late r false true b o h = rw (leb-fails (suc o) (suc r) (omega arith))
late r false false true o h = refl
late r false false false o h = by_bool (eqb o 0) (λ e. rw e) (λ e. rw e)

early : (r : ℕ) (b : Bool) (o : ℕ) → o ≤ r → is digit (cell_of r false true b o) ≡ true
unfolding cell_of
early r b o h = rw (leb-holds (suc o) (suc r) (omega arith))

plainly : (r : ℕ) (t b : Bool) (o : ℕ) → is digit (cell_of r t false b o) ≡ false
unfolding cell_of
plainly r true b o = refl
plainly r false true o = refl
plainly r false false o = by_bool (eqb o 0) (λ e. rw e) (λ e. rw e)

f-first : (r o : ℕ) → o ≡ 0 → is fixed (cell_of r false false false o) ≡ true
unfolding cell_of
f-first r o h = rw (eqb_same o 0 h)

f-later : (r : ℕ) (t i b : Bool) (o : ℕ) → 0 < o → is fixed (cell_of r t i b o) ≡ false
unfolding cell_of
f-later r true i b o h = refl
f-later r false true b o h = by_bool (ltb o (suc r)) (λ e. rw e) (λ e. rw e)
f-later r false false true o h = refl
f-later r false false false o h = rw (eqb-other o 0 (omega arith))

f-not : (r : ℕ) (t i b : Bool) (o : ℕ) → (not i && not b) ≡ false → is fixed (cell_of r t i b o) ≡ false
unfolding cell_of
f-not r true i b o h = refl
f-not r false true b o h = by_bool (ltb o (suc r)) (λ e. rw e) (λ e. rw e)
f-not r false false true o h = refl
f-not r false false false o h = absurd (true≢false h)

-- a fixed cell is the first of a block that is neither I nor B
fixed-is : (r : ℕ) (t i b : Bool) (far : ℕ) → is fixed (cell_of r t i b far) ≡ true → ((not i && not b) ≡ true) × (far ≡ 0)
unfolding cell_of
fixed-is r true i b far = λ e. absurd (false≢true e)
fixed-is r false true b far =
    by_le (suc far) (suc r) (λ t. is fixed (cond t digit message) ≡ true → (false ≡ true) × (far ≡ 0)) (λ _ e. absurd (false≢true e))
    (λ _ e. absurd (false≢true e))
fixed-is r false false true far = λ e. absurd (false≢true e)
fixed-is r false false false far = by-eq far 0 (λ t. is fixed (cond t fixed message) ≡ true → (true ≡ true) × (far ≡ 0)) (λ d _. (refl, d))
    (λ _ e. absurd (false≢true e))

-- a cell is a burst's exactly where its position lies in one
pub kind-burst : (g : Frame) (x : ℕ) → is burst (kind_in g x) ≡ g.runs x
kind-burst g x =
    let k = g.block_of x in
    in-burst g.tail (g.runs x) (g.is_index k) (g.is_burst k) (x - g.head k)

-- ---- Frames whose blocks follow one another through the word, with room for 1 + r symbols each, and whose runs spare the heads

pub record Framed (g : Frame) : Type 0 where
  pub first : g.head 0 ≡ 0
  pub last : g.head g.blocks ≡ g.word_len
  pub block : (x : ℕ) → x < g.word_len → IsTop g.head g.blocks x (g.block_of x)
  pub up : (k : ℕ) → g.head k + suc g.tail ≤ g.head (suc k)
  pub index-not-burst : (k : ℕ) → k < g.blocks → g.is_index k ≡ true → g.is_burst k ≡ false
  pub spares : Spares g

-- the F-blocks
abbrev pub is_fixed_in : Frame → ℕ → Bool
is_fixed_in g k = not (g.is_index k) && not (g.is_burst k)

module _ (g : Frame) (ok : Framed g) where
  rises : (a b : ℕ) → a ≤ b → g.head a ≤ g.head b
  rises a b l = le_ind (λ (k : ℕ). g.head a ≤ g.head k) (omega arith) (λ k _ h. omega (arith, ok.up k)) b l

  pub head-lt : (k : ℕ) → k < g.blocks → g.head k < g.word_len
  head-lt k h = omega (arith, ok.up k, rises (suc k) g.blocks h, ok.last)

  -- the block that has a position
  in_block : (k x : ℕ) → k < g.blocks → g.head k ≤ x → x < g.head (suc k) → g.block_of x ≡ k
  in_block k x h a c =
      top-only g.head rises (ok.block x (omega (arith, rises (suc k) g.blocks h, ok.last))) (record { below = h; reach = a; past = c })

  pub kind-is : (k x : ℕ) → k < g.blocks → g.head k ≤ x → x < g.head (suc k)
      → kind_in g x ≡ cell_of g.tail (g.runs x) (g.is_index k) (g.is_burst k) (x - g.head k)
  kind-is k x h a c = rw (in_block k x h a c)

  -- over all blocks, from the first
  over : (hd : ℕ) (sel D : ℕ → Bool) → hd ≤ suc g.tail
      → ((k x : ℕ) → k < g.blocks → sel k ≡ true → g.head k ≤ x → x < g.head k + hd → D x ≡ true)
      → ((k x : ℕ) → k < g.blocks → sel k ≡ true → g.head k + hd ≤ x → x < g.head (suc k) → D x ≡ false)
      → ((k x : ℕ) → k < g.blocks → sel k ≡ false → g.head k ≤ x → x < g.head (suc k) → D x ≡ false)
      → members g.word_len 0 D ≡ flat_map (λ k. tabulate hd (g.head k) same) (members g.blocks 0 sel)
  over hd sel D l inside past other =
      let c : 0 + g.blocks ≡ g.blocks = omega arith in
      rw ok.first at
      (members-blocks g.head hd g.blocks sel D (λ k. omega (arith, ok.up k)) inside past other g.blocks 0 g.word_len (omega arith)
      (rw c (omega (arith, ok.first, ok.last))))

  -- the digits stand in the first 1 + r positions of the I-blocks
  pub digit-places : members g.word_len 0 (λ x. is digit (kind_in g x)) ≡ flat_map (λ k. tabulate (suc g.tail) (g.head k) same)
      (members g.blocks 0 g.is_index)
  digit-places =
      over (suc g.tail) g.is_index (λ x. is digit (kind_in g x)) (omega arith)
      (λ k x a t b d. rw (kind-is k x a b (omega (arith, ok.up k)), ok.spares.index-heads k x a t b d, t)
      (early g.tail (g.is_burst k) (x - g.head k) (omega arith)))
      (λ k x a t b d. rw (kind-is k x a (omega arith) d) (late g.tail (g.runs x) (g.is_index k) (g.is_burst k) (x - g.head k) (omega arith)))
      (λ k x a t b d. rw (kind-is k x a b d, t) (plainly g.tail (g.runs x) (g.is_burst k) (x - g.head k)))

  -- an F-block's first position
  pub fixed-at : (k : ℕ) → k < g.blocks → is_fixed_in g k ≡ true → is fixed (kind_in g (g.head k)) ≡ true
  fixed-at k a t =
      let u = neither (g.is_index k) (g.is_burst k) t in
      rw (kind-is k (g.head k) a (omega arith) (omega (arith, ok.up k)), ok.spares.fixed-heads k a u.0 u.1, u.0, u.1)
      (f-first g.tail (g.head k - g.head k) (omega arith))

  pub fixed-places : members g.word_len 0 (λ x. is fixed (kind_in g x)) ≡ flat_map (λ k. tabulate 1 (g.head k) same) (members g.blocks 0 (is_fixed_in g))
  fixed-places =
      over 1 (is_fixed_in g) (λ x. is fixed (kind_in g x)) (omega arith)
      (λ k x a t b d. let e : x ≡ g.head k = omega arith in rw e (fixed-at k a t))
      (λ k x a t b d. rw (kind-is k x a (omega arith) d) (f-later g.tail (g.runs x) (g.is_index k) (g.is_burst k) (x - g.head k) (omega arith)))
      (λ k x a t b d. rw (kind-is k x a b d) (f-not g.tail (g.runs x) (g.is_index k) (g.is_burst k) (x - g.head k) t))

  -- how many cells there are of each kind
  pub digit-count : count g.word_len 0 (λ x. is digit (kind_in g x)) ≡ count g.blocks 0 g.is_index * suc g.tail
  digit-count =
      sym (length-members g.word_len 0 (λ x. is digit (kind_in g x))) ∙ ap length digit-places
      ∙ length-flat (suc g.tail) (λ k. tabulate (suc g.tail) (g.head k) same) (members g.blocks 0 g.is_index)
      (λ k. length-tabulate (suc g.tail) (g.head k) same)
      ∙ ap (λ (y : ℕ). y * suc g.tail) (length-members g.blocks 0 g.is_index)

  pub fixed-count : count g.word_len 0 (λ x. is fixed (kind_in g x)) + count g.blocks 0 g.is_index + count g.blocks 0 g.is_burst ≡ g.blocks
  fixed-count =
      let placed : count g.word_len 0 (λ x. is fixed (kind_in g x)) ≡ count g.blocks 0 (is_fixed_in g) * 1 =
      sym (length-members g.word_len 0 (λ x. is fixed (kind_in g x))) ∙ ap length fixed-places
      ∙ length-flat 1 (λ k. tabulate 1 (g.head k) same) (members g.blocks 0 (is_fixed_in g)) (λ k. length-tabulate 1 (g.head k) same)
      ∙ ap (λ (y : ℕ). y * 1) (length-members g.blocks 0 (is_fixed_in g)) in
      omega (arith, placed, count-three g.blocks 0 g.is_index g.is_burst (λ x _ l. ok.index-not-burst x (omega arith)))

  pub message-count : count g.word_len 0 (λ x. is message (kind_in g x)) + count g.word_len 0 g.runs + count g.blocks 0 g.is_index * suc
      g.tail + g.blocks
      ≡ g.word_len + count g.blocks 0 g.is_index + count g.blocks 0 g.is_burst
  message-count =
      let bursts = count-ext g.word_len 0 (λ x. is burst (kind_in g x)) g.runs (λ x _ _. kind-burst g x) in
      omega (arith, kinds g.word_len 0 (kind_in g), bursts, digit-count, fixed-count)

  -- ---- A word that agrees with the weaving outside the runs

  -- the first 1 + r symbols of the I-blocks, from left to right
  heads : List ℕ → List ℕ
  heads w = flat_map (λ k. tabulate (suc g.tail) (g.head k) (λ x. get_or w x 0)) (members g.blocks 0 g.is_index)

  heads-picked : (w : List ℕ) → heads w ≡ pick digit (plan_in g) w
  unfolding heads
  heads-picked w =
      flat-map (λ x. get_or w x 0) (suc g.tail) g.head (members g.blocks 0 g.is_index)
      ∙ ap (map (λ x. get_or w x 0)) (sym digit-places)
      ∙ sym (pick_at digit g.word_len 0 (kind_in g) w)

  module _ (ds ms w : List ℕ) (outside : (x : ℕ) → x < g.word_len → g.runs x ≡ false → get_or w x 0 ≡ get_or (weave (plan_in g) ds ms) x 0) where
    pub digits-back : length ds ≡ count g.blocks 0 g.is_index * suc g.tail
        → flat_map (λ k. tabulate (suc g.tail) (g.head k) (λ x. get_or w x 0)) (members g.blocks 0 g.is_index) ≡ ds
    unfolding heads
    digits-back e =
        heads-picked w
        ∙ pick-agrees digit g.word_len (kind_in g) w (weave (plan_in g) ds ms) refl (λ x l c. outside x l (sym (kind-burst g x) ∙ c))
        ∙ digits-woven (plan_in g) ds ms (e ∙ sym digit-count ∙ sym (length-pick digit g.word_len (kind_in g) []))

    pub message-back : length ms ≡ count g.word_len 0 (λ x. is message (kind_in g x)) → pick message (plan_in g) w ≡ ms
    message-back e =
        pick-agrees message g.word_len (kind_in g) w (weave (plan_in g) ds ms) refl (λ x l c. outside x l (sym (kind-burst g x) ∙ c))
        ∙ message-woven (plan_in g) ds ms (e ∙ sym (length-pick message g.word_len (kind_in g) []))

    -- an F-block starts with 0
    pub fixed_back : (k : ℕ) → k < g.blocks → is_fixed_in g k ≡ true → get_or w (g.head k) 0 ≡ 0
    fixed_back k l t =
        let c = fixed-at k l t in
        let n = head-lt k l in
        outside (g.head k) n (sym (kind-burst g (g.head k)) ∙ no-burst fixed (kind_in g (g.head k)) refl c)
        ∙ clean_at g.word_len 0 (g.head k) (kind_in g) (weave (plan_in g) ds ms) (woven-clean (plan_in g) ds ms) (omega arith) (omega arith) c

  -- ---- A word whose F-blocks start with 0 agrees outside the runs with the weaving of what is taken from it

  module _ (w : List ℕ) (zeros : (k : ℕ) → k < g.blocks → is_fixed_in g k ≡ true → get_or w (g.head k) 0 ≡ 0) where
    clean : Clean (plan_in g) w
    clean =
        at-clean g.word_len 0 (kind_in g) w (λ x _ lx c.
        let i = ok.block x (omega arith) in
        let k = g.block_of x in
        let z = fixed-is g.tail (g.runs x) (g.is_index k) (g.is_burst k) (x - g.head k) c in
        let e : x ≡ g.head k = omega (arith, z.1, i.reach) in
        ap (λ (y : ℕ). get_or w y 0) e ∙ zeros k i.below z.0)

    pub read-agrees : (x : ℕ) → x < g.word_len → g.runs x ≡ false
        → get_or w x 0 ≡ get_or (weave (plan_in g) (flat_map (λ k. tabulate (suc g.tail) (g.head k) (λ x. get_or w x 0)) (members g.blocks 0 g.is_index))
        (pick message (plan_in g) w)) x 0
    unfolding heads
    read-agrees x l out =
        rw (heads-picked w)
        (agree_at g.word_len 0 x (kind_in g) w (weave (plan_in g) (pick digit (plan_in g) w) (pick message (plan_in g) w)) (clean-agrees (plan_in g) w clean)
        (omega arith) (omega arith)
        (kind-burst g x ∙ out))
