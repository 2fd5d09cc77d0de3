-- Laws of the plan: a run touches at most one sub-block, so that m + 1 bear the rank, and how many cells there are of each kind. Assumes nothing.
use mathlib.Core.Path.{◌≡◌, refl, sym, ap, ◌∙◌}
use mathlib.Core.Logic.{◌≢◌}
use mathlib.Core.Bool.{Bool, true, false, not, ◌&&◌, ◌||◌, false≢true}
use mathlib.Core.List.{List, [], ◌∷◌, flat_map, append-nil}
use Prim.Native.Nat.{ℕ, suc, ◌+◌, ◌-◌, ◌*◌, ◌≤◌, ◌<◌}
use native.Mathlib.Omega.{arith}
use lib.Dec.{leb, ltb}
use lib.ListN.{length}
use Rattle.combinatorics.specs.Bursts.{in_burst}
use Rattle.combinatorics.specs.Stretch.{count, firsts, has, members, tabulate}
use Rattle.combinatorics.proofs.Bursts.{Placed, burst-count}
use Rattle.combinatorics.proofs.Cases.{by_le, by-eq, by_bool, leb-holds, leb-fails}
use Rattle.combinatorics.proofs.Lists.{both}
use Rattle.combinatorics.proofs.Members.{count-firsts, members-append, members-blocks, members-firsts, length-members, length-tabulate, length-flat}
use Rattle.combinatorics.proofs.Stretch.{same, has-none, has_some, has-at, has-or, count_none, count-ext, count-or, count-one, count-not}
use Rattle.combinatorics.proofs.Stretch.{members-none}
use Rattle.cells.specs.Cells.{burst, fixed, digit, message, is}
use Rattle.cells.proofs.Cells.{kinds}
use Rattle.cells.specs.Figures.{Params}
use Rattle.larsson.specs.Figures.{sub_len_of, sub_blocks, sub_start, message_len_of}
use Rattle.larsson.specs.Writing.{untouched, bears, bearers, in_sub, is_borne, cell_of, kind_at}
use Rattle.larsson.proofs.Figures.{Served, gap-least, sub-first, sub-next, sub-rises, sub-last, sub_within}

-- ---- Runs and sub-blocks

-- whether the run from s on touches sub-block i, and whether one of the runs does
meets : Params → ℕ → ℕ → Bool
meets f s i = has (sub_len_of f) (sub_start f i) (λ x. leb s x && ltb x (s + f.b))

touched : Params → List ℕ → ℕ → Bool
touched f ss i = has (sub_len_of f) (sub_start f i) (in_burst f.b ss)

in-run : (b s x : ℕ) → (leb s x && ltb x (s + b)) ≡ true → (s ≤ x) × (x < s + b)
in-run b s x =
    by_le s x (λ t. (t && ltb x (s + b)) ≡ true → (s ≤ x) × (x < s + b))
    (λ l. by_le (suc x) (s + b) (λ t. t ≡ true → (s ≤ x) × (x < s + b)) (λ h _. (l, h)) (λ _ e. absurd (false≢true e)))
    (λ _ e. absurd (false≢true e))

module _ (f : Params) (ok : Served f) where
  -- "b is at most the shortest gap plus 1": a run touches at most one sub-block
  meets-one : (s : ℕ) → count (sub_blocks f) 0 (meets f s) ≤ 1
  unfolding meets
  meets-one s =
      count-one (sub_blocks f) 0 (meets f s)
      (λ i j _ l _ t. by_bool (meets f s j)
      (λ u.
      let x = has-at (sub_len_of f) (sub_start f i) (λ x. leb s x && ltb x (s + f.b)) t in
      let y = has-at (sub_len_of f) (sub_start f j) (λ x. leb s x && ltb x (s + f.b)) u in
      let a = in-run f.b s x.0 x.3 in
      let c = in-run f.b s y.0 y.3 in
      absurd (omega (arith, x.2, y.1, a.0, c.1, sub-next f i, gap-least f i, sub-rises f (suc i) j l, ok.short)))
      (λ u. u))

  -- so m runs touch at most m
  touched-most : (ss : List ℕ) → count (sub_blocks f) 0 (touched f ss) ≤ length ss
  unfolding touched meets in_burst
  touched-most [] = omega (arith, count_none (sub_blocks f) 0 (touched f []) (λ i _ _. has-none (sub_len_of f) (sub_start f i) (λ x. false) (λ _ _ _. refl)))
  touched-most (s ∷ ss) =
      omega (
        arith,
        count-ext (sub_blocks f) 0 (touched f (s ∷ ss)) (λ i. meets f s i || touched f ss i)
            (λ i _ _. has-or (sub_len_of f) (sub_start f i) (λ x. leb s x && ltb x (s + f.b)) (in_burst f.b ss)),
        count-or (sub_blocks f) 0 (meets f s) (touched f ss),
        meets-one s,
        touched-most ss,
      )

  -- and m + 1 bear the rank
  pub bearer-count : (ss : List ℕ) → length ss ≡ f.m → count (sub_blocks f) 0 (bears f ss) ≡ suc f.m
  unfolding bears untouched touched
  bearer-count ss e =
      omega (
        arith,
        count-firsts (sub_blocks f) (suc f.m) (untouched f ss),
        count-not (sub_blocks f) 0 (touched f ss),
        touched-most ss,
      )

pub bearers-many : (f : Params) → Served f → (ss : List ℕ) → length ss ≡ f.m → length (bearers f ss) ≡ suc f.m
unfolding bearers
bearers-many f ok ss e = length-members (sub_blocks f) 0 (bears f ss) ∙ bearer-count f ok ss e

-- they are the first m + 1 of the list of those that no run touches
pub bearers-first : (f : Params) (ss : List ℕ) → bearers f ss ≡ lib.ListN.take (suc f.m) (members (sub_blocks f) 0 (untouched f ss))
unfolding bearers bears
bearers-first f ss = members-firsts (sub_blocks f) (suc f.m) (untouched f ss)

-- no position of a bearer lies in a run
pub bearer-clear : (f : Params) (ss : List ℕ) (i x : ℕ) → bears f ss i ≡ true → sub_start f i ≤ x → x < sub_start f i + sub_len_of f → in_burst f.b ss x ≡ false
unfolding bears firsts untouched
bearer-clear f ss i x t a c =
    by_bool (in_burst f.b ss x)
    (λ u. absurd (false≢true (sym (ap not (has_some (sub_len_of f) (sub_start f i) x (in_burst f.b ss) a c u))
    ∙ (both (not (has (sub_len_of f) (sub_start f i) (in_burst f.b ss))) (ltb (count i 0 (untouched f ss)) (suc f.m)) t).0)))
    (λ u. u)

-- ---- Positions and sub-blocks

module _ (f : Params) (x : ℕ) where
  in-sub : (i : ℕ) → sub_start f i ≤ x → x < sub_start f i + sub_len_of f → in_sub f x i ≡ true
  unfolding in_sub
  in-sub i a c = rw (leb-holds (sub_start f i) x a, leb-holds (suc x) (sub_start f i + sub_len_of f) c)

  before-sub : (i : ℕ) → x < sub_start f i → in_sub f x i ≡ false
  unfolding in_sub
  before-sub i l = rw (leb-fails (sub_start f i) x l)

  past-sub : (i : ℕ) → sub_start f i + sub_len_of f ≤ x → in_sub f x i ≡ false
  unfolding in_sub
  past-sub i l = rw (leb-holds (sub_start f i) x (omega arith), leb-fails (suc x) (sub_start f i + sub_len_of f) (omega arith))

  -- a position from sub-block k on, before the next, is in no other
  other-sub : (k i : ℕ) → sub_start f k ≤ x → x < sub_start f (suc k) → i ≢ k → in_sub f x i ≡ false
  other-sub k i a c d =
      by_le (suc k) i (λ _. in_sub f x i ≡ false) (λ l. before-sub i (omega (arith, sub-rises f (suc k) i l)))
      (λ l. past-sub i (omega (arith, sub-next f i, sub-rises f (suc i) k (omega arith))))

  module _ (ss : List ℕ) where
    pub borne-in : (k : ℕ) → k < sub_blocks f → bears f ss k ≡ true → sub_start f k ≤ x → x < sub_start f k + sub_len_of f → is_borne f ss x ≡ true
    unfolding is_borne
    borne-in k l t a c = has_some (sub_blocks f) 0 k (λ i. bears f ss i && in_sub f x i) (omega arith) (omega arith) (rw (t, in-sub k a c))

    not-borne : ((i : ℕ) → i < sub_blocks f → (bears f ss i && in_sub f x i) ≡ false) → is_borne f ss x ≡ false
    unfolding is_borne
    not-borne h = has-none (sub_blocks f) 0 (λ i. bears f ss i && in_sub f x i) (λ i _ l. h i (omega arith))

    outside-sub : (i : ℕ) → in_sub f x i ≡ false → (bears f ss i && in_sub f x i) ≡ false
    outside-sub i e = rw e (by_bool (bears f ss i) (λ t. rw t) (λ t. rw t))

    pub borne-past : (k : ℕ) → sub_start f k + sub_len_of f ≤ x → x < sub_start f (suc k) → is_borne f ss x ≡ false
    borne-past k a c =
        not-borne (λ i _. outside-sub i (by-eq i k (λ _. in_sub f x i ≡ false) (λ e. rw e (past-sub k a)) (other-sub k i (omega arith) c)))

    pub borne-other : (k : ℕ) → bears f ss k ≡ false → sub_start f k ≤ x → x < sub_start f (suc k) → is_borne f ss x ≡ false
    borne-other k t a c =
        not-borne (λ i _. by-eq i k (λ _. (bears f ss i && in_sub f x i) ≡ false) (λ e. rw (e, t)) (λ d. outside-sub i (other-sub k i a c d)))

    borne-end : Served f → f.n ≤ x → is_borne f ss x ≡ false
    borne-end ok l = not-borne (λ i h. outside-sub i (past-sub i (omega (arith, sub_within f ok i h))))

-- ---- What stands where

burst-cell : (t d : Bool) → is burst (cell_of t d) ≡ t
burst-cell true d = refl
burst-cell false true = refl
burst-cell false false = refl

no-fixed : (t d : Bool) → is fixed (cell_of t d) ≡ false
no-fixed true d = refl
no-fixed false true = refl
no-fixed false false = refl

no_digit : (t : Bool) → is digit (cell_of t false) ≡ false
no_digit true = refl
no_digit false = refl

module _ (f : Params) (ss : List ℕ) (x : ℕ) where
  -- a cell is a burst's exactly where its position lies in one
  pub kind-burst : is burst (kind_at f ss x) ≡ in_burst f.b ss x
  unfolding kind_at
  kind-burst = burst-cell (in_burst f.b ss x) (is_borne f ss x)

  -- and none is fixed
  pub kind-fixed : is fixed (kind_at f ss x) ≡ false
  unfolding kind_at
  kind-fixed = no-fixed (in_burst f.b ss x) (is_borne f ss x)

  kind-digit : in_burst f.b ss x ≡ false → is_borne f ss x ≡ true → is digit (kind_at f ss x) ≡ true
  unfolding kind_at
  kind-digit e t = rw (e, t)

  kind-other : is_borne f ss x ≡ false → is digit (kind_at f ss x) ≡ false
  unfolding kind_at
  kind-other e = rw e (no_digit (in_burst f.b ss x))

-- ---- How many cells

module _ (f : Params) (ok : Served f) (ss : List ℕ) where
  up : (k : ℕ) → sub_start f k + sub_len_of f ≤ sub_start f (suc k)
  up k = omega (arith, sub-next f k)

  -- the digit cells are those of the bearers, one after the other
  pub digit-places : members f.n 0 (λ x. is digit (kind_at f ss x)) ≡ flat_map (λ i. tabulate (sub_len_of f) (sub_start f i) same) (bearers f ss)
  unfolding bearers
  digit-places =
      let D : ℕ → Bool = λ x. is digit (kind_at f ss x) in
      let far = sub_start f (sub_blocks f) in
      let more = far - f.n in
      let l : f.n ≤ far = omega (arith, sub-last f ok, up (2 * f.m)) in
      let z : 0 + sub_blocks f ≡ sub_blocks f = omega arith in
      let e : f.n + more ≡ far = omega arith in
      let blocks : members far (sub_start f 0) D ≡ flat_map (λ i. tabulate (sub_len_of f) (sub_start f i) same) (members (sub_blocks f) 0 (bears f ss)) =
      members-blocks (sub_start f) (sub_len_of f) (sub_blocks f) (bears f ss) D up
      (λ k x h t a c. kind-digit f ss x (bearer-clear f ss k x t a c) (borne-in f x ss k h t a c))
      (λ k x h t a c. kind-other f ss x (borne-past f x ss k a c))
      (λ k x h t a c. kind-other f ss x (borne-other f x ss k t a c))
      (sub_blocks f) 0 far (omega arith) (rw z (omega (arith, sub-first f))) in
      let none-past : members more (0 + f.n) D ≡ [] = members-none more (0 + f.n) D (λ x a _. kind-other f ss x (borne-end f x ss ok (omega arith))) in
      let whole : members far 0 D ≡ members f.n 0 D =
      ap (λ (c : ℕ). members c 0 D) (sym e) ∙ members-append f.n more 0 D ∙ (rw (none-past, append-nil (members f.n 0 D))) in
      sym whole ∙ (rw (sub-first f) at blocks)

  module _ (h : Placed f.b f.n 0 ss) (e : length ss ≡ f.m) where
    pub digit-count : count f.n 0 (λ x. is digit (kind_at f ss x)) ≡ suc f.m * sub_len_of f
    digit-count =
        sym (length-members f.n 0 (λ x. is digit (kind_at f ss x))) ∙ ap length digit-places
        ∙ length-flat (sub_len_of f) (λ i. tabulate (sub_len_of f) (sub_start f i) same) (bearers f ss) (λ i. length-tabulate (sub_len_of f) (sub_start f i) same)
        ∙ ap (λ (y : ℕ). y * sub_len_of f) (bearers-many f ok ss e)

    -- n less the m × b of the runs and the R of each of m + 1 sub-blocks
    pub messages-count : count f.n 0 (λ x. is message (kind_at f ss x)) + f.m * f.b + suc f.m * sub_len_of f ≡ f.n
    messages-count =
        let bursts : count f.n 0 (λ x. is burst (kind_at f ss x)) ≡ length ss * f.b =
        count-ext f.n 0 (λ x. is burst (kind_at f ss x)) (in_burst f.b ss) (λ x _ _. kind-burst f ss x)
        ∙ burst-count f.b f.n 0 ss f.n h (omega arith) in
        let fixes : count f.n 0 (λ x. is fixed (kind_at f ss x)) ≡ 0 = count_none f.n 0 (λ x. is fixed (kind_at f ss x)) (λ x _ _. kind-fixed f ss x) in
        omega (arith, kinds f.n 0 (kind_at f ss), bursts, digit-count, fixes, ap (λ (y : ℕ). y * f.b) e)

    pub message-cells : count f.n 0 (λ x. is message (kind_at f ss x)) ≡ message_len_of f
    unfolding message_len_of
    message-cells = omega (arith, messages-count)
