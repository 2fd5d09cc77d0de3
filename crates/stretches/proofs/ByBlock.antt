-- Laws of the walk block by block: what it passes, and of what kind the cells are. Assumes nothing.
use mathlib.Core.Path.{◌≡◌, refl, sym, ap, ap₂, ◌∙◌}
use mathlib.Core.Logic.{◌⊎◌, inl, inr, ⊎_elim}
use mathlib.Core.Bool.{true, false, true≢false, cond}
use mathlib.Core.List.{List, ◌∷◌}
use Prim.Native.Nat.{ℕ, zero, suc, ◌+◌, ◌-◌, ◌≤◌, ◌<◌}
use native.Mathlib.Decide.{le_ind}
use native.Mathlib.Numerals.{add-one}
use native.Mathlib.Omega.{arith}
use lib.Dec.{eqb}
use lib.ListN.{length, get_or}
use lib.Seq.{get_or-take}
use Rattle.combinatorics.specs.Bursts.{in_burst}
use Rattle.combinatorics.specs.Stretch.{tabulate, top}
use Rattle.combinatorics.proofs.Bursts.{Placed, placed_of, placed_at, placed-step, placed-grows, burst-at, burst-free}
use Rattle.combinatorics.proofs.Cases.{by_le, by_bool, eqb_same, eqb-other, leb-holds, leb-fails}
use Rattle.combinatorics.proofs.Stretch.{IsTop, top-is}
use Rattle.cells.specs.Cells.{Cell, burst, fixed, digit, message}
use Rattle.cells.specs.Plan.{Frame, cell_of, kind_in, plan_in, Spares}
use Rattle.placements.specs.declared.Placement.{Placement}
use Rattle.placements.specs.Bridge.{starts_in}
use Rattle.blocks.specs.Blocks.{fixed_kind, burst_kind, index_kind}
use Rattle.stretches.specs.declared.Walk.{Walk}
use Rattle.stretches.specs.Walk.{head_cells, head_len_of, next_start, frame_by}
use Rattle.stretches.specs.ByBlock.{Between, EntersBlock, Past, Cells, PlacedIn, Walks}

-- a frame whose blocks follow one another, and bursts of b that are placed in its word and spare the heads
pub record Walkable (g : Frame) (b : ℕ) (ss : List ℕ) : Type 0 where
  pub some : 1 ≤ b
  pub first : g.head 0 ≡ 0
  pub last : g.head g.blocks ≡ g.word_len
  pub block : (x : ℕ) → x < g.word_len → IsTop g.head g.blocks x (g.block_of x)
  pub up : (k : ℕ) → k < g.blocks → g.head k + suc g.tail ≤ g.head (suc k)
  pub short : (k : ℕ) → suc k < g.blocks → g.head k + b ≤ g.head (suc k)
  pub spares : Spares g
  pub placed : Placed b g.word_len 0 ss
  pub runs-is : (x : ℕ) → g.runs x ≡ in_burst b ss x

module _ {g : Frame} {b : ℕ} {ss : List ℕ} (w : Walkable g b ss) where
  h : Placed b g.word_len 0 ss
  h = w.placed

  rises : (i k : ℕ) → i ≤ k → k ≤ g.blocks → g.head i ≤ g.head k
  rises i k l = le_ind (λ (j : ℕ). j ≤ g.blocks → g.head i ≤ g.head j) (λ _. omega arith) (λ j _ r q. omega (arith, r (omega arith), w.up j q)) k l

  pub edge_in : (k : ℕ) → k < g.blocks → g.head (suc k) ≤ g.word_len
  edge_in k l = omega (arith, rises (suc k) g.blocks l (omega arith), w.last)

  -- the block that has a position
  in_block : (k x : ℕ) → k < g.blocks → g.head k ≤ x → x < g.head (suc k) → g.block_of x ≡ k
  in_block k x l a c =
      let t = w.block x (omega (arith, edge_in k l)) in
      let j = g.block_of x in
      by_le (suc j) k (λ _. j ≡ k) (λ q. absurd (omega (arith, t.past, rises (suc j) k q (omega arith))))
      (λ q. by_le (suc k) j (λ _. j ≡ k) (λ r. absurd (omega (arith, t.reach, t.below, rises (suc k) j r (omega (arith, t.below))))) (λ r. omega arith))

  pub kind-is : (k x : ℕ) → k < g.blocks → g.head k ≤ x → x < g.head (suc k)
      → kind_in g x ≡ cell_of g.tail (g.runs x) (g.is_index k) (g.is_burst k) (x - g.head k)
  kind-is k x l a c = rw (in_block k x l a c)

  -- a start before the word's end is a burst's
  is-start : (i : ℕ) → next_start g.word_len ss i < g.word_len → i < length ss
  unfolding next_start
  is-start i = by_le (suc i) (length ss) (λ t. cond t (get_or ss i 0) g.word_len < g.word_len → i < length ss) (λ l _. l) (λ _ q. absurd (omega arith))

  start-at : (i : ℕ) → i < length ss → next_start g.word_len ss i ≡ get_or ss i 0
  unfolding next_start
  start-at i l = rw (leb-holds (suc i) (length ss) l)

  -- behind a burst the next one starts, or the word ends
  start-next : (i : ℕ) → i < length ss → get_or ss i 0 + b ≤ next_start g.word_len ss (suc i)
  unfolding next_start
  start-next i l =
      by_le (suc (suc i)) (length ss) (λ t. get_or ss i 0 + b ≤ cond t (get_or ss (suc i) 0) g.word_len) (λ q. placed-step b g.word_len 0 i ss h q)
      (λ _. placed_at b g.word_len 0 i ss h l)

  pub entering-first : EntersBlock g b ss 0 0 0
  entering-first =
      record {
        between = record { within = omega arith; counted = omega arith; behind = λ j l. absurd (omega arith); ahead = omega arith };
        from = omega (arith, w.first);
        to = λ _. omega arith;
        clear = inl (sym w.first);
      }

  module _ (k x i : ℕ) (l : k < g.blocks) where
    -- ---- Kinds of the block's cells

    -- a position before the next burst
    free-at : Between g.word_len b ss x i → (y : ℕ) → x ≤ y → y < next_start g.word_len ss i → y < g.word_len → g.runs y ≡ false
    unfolding next_start
    free-at e y a c n =
        w.runs-is y
        ∙ burst-free b y ss (λ j q u v.
        by_le (suc j) i (λ _. ⊥) (λ r. omega (arith, e.behind j r))
        (λ r. let t : i < length ss = omega arith in
        omega (arith, placed-grows b g.word_len 0 i j ss h (omega arith) q, rw (leb-holds (suc i) (length ss) t) at c)))

    -- no burst touches the first cells of so many
    abbrev Free : ℕ → Type 0
    Free len = (y : ℕ) → g.head k ≤ y → y < g.head k + len → g.runs y ≡ false

    fixed-free : g.is_index k ≡ false → g.is_burst k ≡ false → Free 1
    fixed-free n d y a c = let same : y ≡ g.head k = omega arith in rw same (w.spares.fixed-heads k l n d)

    index-free : g.is_index k ≡ true → Free (suc g.tail)
    index-free n y = w.spares.index-heads k y l n

    -- ---- Head cells

    pub head-none : EntersBlock g b ss k x i → g.is_index k ≡ false → g.is_burst k ≡ true → Past g b ss k x i
    unfolding head_cells
    head-none e n d = record { between = e.between; from = rw (n, d) (omega (arith, e.from)); reach = inl (e.to l) }

    -- no burst starts among them
    no_start : (len : ℕ) → len ≤ suc g.tail → EntersBlock g b ss k x i → Free len → g.head k + len ≤ next_start g.word_len ss i
    no_start len few e free =
        by_le (g.head k + len) (next_start g.word_len ss i) (λ _. g.head k + len ≤ next_start g.word_len ss i) (λ q. q)
        (λ q. let n = is-start i (omega (arith, w.up k l, edge_in k l)) in
        let s = get_or ss i 0 in
        absurd (true≢false (sym (w.runs-is s ∙ burst-at b s i ss n (omega arith) (omega (arith, w.some)))
        ∙ free s (omega (arith, start-at i n, e.from, e.between.ahead)) (omega (arith, start-at i n)))))

    -- where there are head cells, the walk stands at the first
    stands : EntersBlock g b ss k x i → 0 < head_cells g k → x ≡ g.head k
    stands e q = ⊎_elim (λ d. d) (λ d. absurd (omega arith)) e.clear

    pub record Headed (len : ℕ) : Type 0 where
      pub stands_at : x ≡ g.head k
      pub past : Past g b ss k (x + len) i

    headed : (len : ℕ) → len ≤ suc g.tail → head_cells g k ≡ len → 0 < len → EntersBlock g b ss k x i → Free len → Headed len
    headed len few c q e free =
        let s = stands e (omega (arith, c)) in
        record {
          stands_at = s;
          past =
              record {
                between =
                    record {
                      within = omega (arith, s, w.up k l, edge_in k l);
                      counted = e.between.counted;
                      behind = λ j r. omega (arith, e.between.behind j r);
                      ahead = omega (arith, s, no_start len few e free);
                    };
                from = omega (arith, s, c);
                reach = inl (omega (arith, s, w.up k l));
              };
        }

    pub head_fixed : EntersBlock g b ss k x i → g.is_index k ≡ false → g.is_burst k ≡ false → Headed 1
    unfolding head_cells
    head_fixed e n d = headed 1 (omega arith) (rw (n, d) refl) (omega arith) e (fixed-free n d)

    pub fixed-cells : EntersBlock g b ss k x i → g.is_index k ≡ false → g.is_burst k ≡ false → Cells g fixed x (x + 1)
    unfolding cell_of
    fixed-cells e n d y a c =
        let s = (head_fixed e n d).stands_at in
        kind-is k y l (omega (arith, s)) (omega (arith, s, w.up k l))
        ∙ rw (fixed-free n d y (omega (arith, s)) (omega (arith, s)), n, d, eqb_same (y - g.head k) 0 (omega (arith, s)))

    pub head-index : EntersBlock g b ss k x i → g.is_index k ≡ true → Headed (suc g.tail)
    unfolding head_cells
    head-index e n = headed (suc g.tail) (omega arith) (rw n refl) (omega arith) e (index-free n)

    pub index-cells : EntersBlock g b ss k x i → g.is_index k ≡ true → Cells g digit x (x + suc g.tail)
    unfolding cell_of
    index-cells e n y a c =
        let s = (head-index e n).stands_at in
        kind-is k y l (omega (arith, s)) (omega (arith, s, w.up k l))
        ∙ rw (index-free n y (omega (arith, s)) (omega (arith, s)), n, leb-holds (suc (y - g.head k)) (suc g.tail) (omega (arith, s)))

    -- whatever the block's kind
    pub head-past : EntersBlock g b ss k x i → Past g b ss k (x + head_cells g k) i
    unfolding head_cells
    head-past e =
        by_bool (g.is_index k) (λ t. rw t (head-index e t).past)
        (λ t. by_bool (g.is_burst k) (λ d. let none : x + 0 ≡ x = omega arith in rw (t, d, none) (head-none e t d)) (λ d. rw (t, d) (head_fixed e t d).past))

    -- ---- The message, up to the next burst or block

    pub message-cells : Past g b ss k x i → (to : ℕ) → to ≤ next_start g.word_len ss i → to ≤ g.head (suc k) → Cells g message x to
    unfolding cell_of head_cells
    message-cells e to u c y a v =
        let past : g.head k + head_cells g k ≤ y = omega (arith, e.from) in
        kind-is k y l (omega arith) (omega arith)
        ∙ rw (free-at e.between y a (omega arith) (omega (arith, edge_in k l)))
        (by_bool (g.is_index k) (λ t. rw (t, leb-fails (suc (y - g.head k)) (suc g.tail) (omega (arith, rw t at past))))
        (λ t. by_bool (g.is_burst k) (λ d. rw (t, d)) (λ d. rw (t, d, eqb-other (y - g.head k) 0 (omega (arith, rw (t, d) at past))))))

    -- ---- A burst that starts in the block

    -- where it reaches into the next block, that one has no head cells: its first is the burst's
    ends_next : (i : ℕ) → i < length ss → suc k < g.blocks → next_start g.word_len ss i < g.head (suc k) → g.head (suc k) < next_start g.word_len ss i + b
        → head_cells g (suc k) ≡ 0
    unfolding head_cells
    ends_next i n below a c =
        let s = start-at i n in
        let met : g.runs (g.head (suc k)) ≡ true =
        w.runs-is (g.head (suc k)) ∙ burst-at b (g.head (suc k)) i ss n (omega (arith, s)) (omega (arith, s)) in
        by_bool (g.is_index (suc k))
        (λ t. absurd (true≢false (sym met ∙ w.spares.index-heads (suc k) (g.head (suc k)) below t (omega arith) (omega arith))))
        (λ t. by_bool (g.is_burst (suc k)) (λ d. rw (t, d)) (λ d. absurd (true≢false (sym met ∙ w.spares.fixed-heads (suc k) below t d))))

    -- and it ends there
    ends-within : (s : ℕ) → suc k < g.blocks → s < g.head (suc k) → s + b ≤ g.word_len → s + b ≤ g.head (suc (suc k))
    ends-within s below a c =
        by_le (suc (suc (suc k))) g.blocks (λ _. s + b ≤ g.head (suc (suc k))) (λ q. omega (arith, w.short (suc k) q))
        (λ q. let e : suc (suc k) ≡ g.blocks = omega arith in omega (arith, ap g.head e, w.last))

    burst-cells : (i : ℕ) → i < length ss → Cells g burst (next_start g.word_len ss i) (next_start g.word_len ss i + b)
    unfolding cell_of
    burst-cells i n y a c = rw (w.runs-is y ∙ burst-at b y i ss n (omega (arith, start-at i n)) (omega (arith, start-at i n)))

    pub record Hopped (stop : ℕ) : Type 0 where
      pub onward : x ≤ stop
      pub ends : stop + b ≤ g.word_len
      pub number : i < length ss
      pub past : Past g b ss k (stop + b) (i + 1)
      pub cells : Cells g burst stop (stop + b)

    pub burst-hop : Past g b ss k x i → next_start g.word_len ss i < g.head (suc k) → Hopped (next_start g.word_len ss i)
    burst-hop e q =
        let n = is-start i (omega (arith, edge_in k l)) in
        let s = start-at i n in
        let inside = placed_at b g.word_len 0 i ss h n in
        record {
          onward = e.between.ahead;
          ends = omega (arith, s, inside);
          number = n;
          past =
              record {
                between =
                    record {
                      within = omega (arith, s, inside);
                      counted = omega arith;
                      behind = λ j r.
                          by_le (suc j) i (λ _. get_or ss j 0 + b ≤ next_start g.word_len ss i + b)
                          (λ d. omega (arith, e.between.behind j d, e.between.ahead))
                          (λ d. let same : j ≡ i = omega arith in rw (same, s) (omega arith));
                      ahead = rw (add-one i) (omega (arith, s, start-next i n));
                    };
                from = omega (arith, e.from, e.between.ahead);
                reach =
                    by_le (next_start g.word_len ss i + b) (g.head (suc k))
                    (λ _. (next_start g.word_len ss i + b ≤ g.head (suc k))
                    ⊎ ((suc k < g.blocks) × (head_cells g (suc k) ≡ 0) × (next_start g.word_len ss i + b ≤ g.head (suc (suc k))))) (λ d. inl d)
                    (λ d.
                    let below : suc k < g.blocks =
                    by_le (suc (suc k)) g.blocks (λ _. suc k < g.blocks) (λ r. r)
                    (λ r. let edge : suc k ≡ g.blocks = omega arith in absurd (omega (arith, s, inside, ap g.head edge, w.last))) in
                    inr (below, ends_next i n below q (omega arith), ends-within (next_start g.word_len ss i) below q (omega (arith, s, inside))));
              };
          cells = burst-cells i n;
        }

    -- ---- The block's end

    pub rest-hop : Past g b ss k x i → x < g.head (suc k) → g.head (suc k) ≤ next_start g.word_len ss i → EntersBlock g b ss (suc k) (g.head (suc k)) i
    rest-hop e a c =
        record {
          between = record { within = edge_in k l; counted = e.between.counted; behind = λ j r. omega (arith, e.between.behind j r); ahead = c };
          from = omega arith;
          to = λ q. omega (arith, w.up (suc k) q);
          clear = inl refl;
        }

    pub rest-none : Past g b ss k x i → g.head (suc k) ≤ x → EntersBlock g b ss (suc k) x i
    rest-none e a =
        record {
          between = e.between;
          from = a;
          to = λ q. ⊎_elim (λ d. omega (arith, w.up (suc k) q)) (λ d. d.2) e.reach;
          clear = ⊎_elim (λ d. inl (omega arith)) (λ d. inr d.1) e.reach;
        }

-- ---- A walk in code

-- a block's kind by its number
pub kind-fixed : {kind : ℕ} → kind ≡ fixed_kind → (eqb kind index_kind ≡ false) × (eqb kind burst_kind ≡ false)
kind-fixed {kind} e = (eqb-other kind index_kind (omega arith), eqb-other kind burst_kind (omega arith))

pub kind-burst : {kind : ℕ} → kind ≡ burst_kind → (eqb kind index_kind ≡ false) × (eqb kind burst_kind ≡ true)
kind-burst {kind} e = (eqb-other kind index_kind (omega arith), eqb_same kind burst_kind e)

-- plans that are the same position by position
same-plan : (n k : ℕ) (f h : ℕ → Cell) → ((x : ℕ) → k ≤ x → x < k + n → f x ≡ h x) → tabulate n k f ≡ tabulate n k h
unfolding tabulate
same-plan zero k f h e = refl
same-plan (suc n) k f h e = ap₂ {C = List Cell} ◌∷◌ (e k (omega arith) (omega arith)) (same-plan n (suc k) f h (λ x a b. e x (omega arith) (omega arith)))

module _ {w : Walk} {at : Placement} (p : PlacedIn w at) where
  pub start_none : (i : ℕ) → w.m ≤ i → next_start w.n (starts_in at) i ≡ w.n
  unfolding next_start
  start_none i q = rw (leb-fails (suc i) (length (starts_in at)) (omega (arith, p.count)))

  pub start-some : (i : ℕ) → i < w.m → next_start w.n (starts_in at) i ≡ get_or at.starts i 0
  unfolding next_start
  start-some i q = rw (leb-holds (suc i) (length (starts_in at)) (omega (arith, p.count))) (get_or-take at.count at.starts i 0 (omega (arith, p.held)))

module _ {w : Walk} {at : Placement} {heads kinds : List ℕ} (ok : Walks w at heads kinds) where
  -- the digits of an index block's head
  pub len_is : suc (w.head_len - 1) ≡ w.head_len
  len_is = omega (arith, ok.some)

  pub walkable : Walkable (frame_by w heads kinds (starts_in at)) w.b (starts_in at)
  walkable =
      record {
        some = ok.b-least;
        first = ok.first;
        last = ok.last;
        block = λ x l. top-is (λ k. get_or heads k 0) w.blocks x (omega (arith, ok.first)) (omega (arith, ok.last));
        up = λ k l. omega (arith, ok.room k l, len_is);
        short = ok.short;
        spares = ok.spares;
        placed = placed_of w.b w.n 0 (starts_in at) ok.bursts.placed;
        runs-is = λ x. refl;
      }

  pub head-len : (k : ℕ) → k < w.blocks → head_cells (frame_by w heads kinds (starts_in at)) k ≡ head_len_of w (get_or kinds k 0)
  unfolding head_cells head_len_of
  head-len k l = go (get_or kinds k 0) (ok.three k l)
    where
      go : (kind : ℕ) → kind ≤ index_kind
          → cond (eqb kind index_kind) (suc (w.head_len - 1)) (cond (eqb kind burst_kind) 0 1) ≡ cond (eqb kind index_kind) w.head_len
          (cond (eqb kind fixed_kind) 1 0)
      go zero q = refl
      go (suc zero) q = refl
      go (suc (suc zero)) q = len_is
      go (suc (suc (suc kind))) q = absurd (omega arith)

  -- the plan that the walk goes by is one whose cells are, block by block, what the tables say
  pub plan-by : (kd : ℕ → Cell)
      → ((k x : ℕ) → k < w.blocks → get_or heads k 0 ≤ x → x < get_or heads (suc k) 0
      → kd x ≡ cell_of (w.head_len - 1) (in_burst w.b (starts_in at) x) (eqb (get_or kinds k 0) index_kind) (eqb (get_or kinds k 0) burst_kind)
      (x - get_or heads k 0))
      → plan_in (frame_by w heads kinds (starts_in at)) ≡ tabulate w.n 0 kd
  plan-by kd same =
      same-plan w.n 0 (kind_in (frame_by w heads kinds (starts_in at))) kd
      (λ x _ l.
      let k = top (λ k. get_or heads k 0) w.blocks x in
      let t = walkable.block x (omega arith) in
      sym (same k x t.below t.reach t.past))
