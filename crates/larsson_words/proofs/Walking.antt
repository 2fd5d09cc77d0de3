-- Words of the Larsson code are walked by the tables of their sub-blocks. Assumes nothing.
use mathlib.Core.Path.{◌≡◌, refl, sym, ap, ◌∙◌}
use mathlib.Core.Bool.{Bool, true, false, not, cond, ◌&&◌, true≢false}
use mathlib.Core.List.{List}
use Prim.Native.Nat.{ℕ, suc, ◌+◌, ◌-◌, ◌*◌, ◌≤◌, ◌<◌}
use native.Mathlib.Omega.{arith}
use lib.Dec.{eqb, ltb}
use lib.ListN.{length, get_or}
use Rattle.combinatorics.specs.Bursts.{in_burst}
use Rattle.combinatorics.proofs.Bursts.{Placed, of-placed}
use Rattle.combinatorics.proofs.Cases.{by_le, leb-holds, leb-fails}
use Rattle.combinatorics.proofs.Stretch.{count-ext}
use Rattle.cells.specs.Cells.{message}
use Rattle.cells.specs.Plan.{cell_of, plan_in}
use Rattle.cells.proofs.Walk.{tally, tally-count}
use Rattle.cells.specs.Figures.{Params}
use Rattle.cells.proofs.Figures.{placed-starts}
use Rattle.larsson.specs.Figures.{sub_len_of, sub_blocks, sub_start, message_len_of}
use Rattle.larsson.specs.Writing.{bears, bearers, kind_at, plan, rank_digits, digits}
use Rattle.larsson.specs.Writing as L
use Rattle.larsson.proofs.Figures.{Served, serve, gap-least, sub-first, sub-next, sub-last}
use Rattle.larsson.proofs.Plan.{bearer-count, bearers-many, bearer-clear, message-cells}
use Rattle.larsson.proofs.Complete.{length-rank}
use Rattle.larsson.proofs.Walking.{kind-in}
use Rattle.placements.specs.declared.Placement.{Placement}
use Rattle.placements.specs.Bridge.{starts_in}
use Rattle.blocks.specs.Blocks.{burst_kind, index_kind}
use Rattle.stretches.specs.declared.Walk.{Walk}
use Rattle.stretches.specs.Walk.{frame_by, index_before, digits_by}
use Rattle.stretches.specs.ByBlock.{Walks}
use Rattle.stretches.specs.Fill.{DigitsFor, MessageFor}
use Rattle.stretches.proofs.ByBlock.{plan-by}
use Rattle.stretches.proofs.Dealt.{dealt-same}
use Rattle.larsson_words.specs.Walked.{sub_blocks_of, Walked}

-- ---- A sub-block's kind as its number

kind-few : (i : Bool) → cond i index_kind burst_kind ≤ index_kind
kind-few true = omega arith
kind-few false = omega arith

kind-index : (i : Bool) → eqb (cond i index_kind burst_kind) index_kind ≡ i
kind-index true = refl
kind-index false = refl

kind-burst : (i : Bool) → eqb (cond i index_kind burst_kind) burst_kind ≡ not i
kind-burst true = refl
kind-burst false = refl

-- what stands x − s positions behind the first of a sub-block of R symbols
cell_same : (R s x : ℕ) (t i : Bool) → 0 < R → s ≤ x → L.cell_of t (i && ltb x (s + R)) ≡ cell_of (R - 1) t i (not i) (x - s)
unfolding cell_of
cell_same R s x true i r l = refl
cell_same R s x false true r l =
    by_le (suc x) (s + R) (λ b. L.cell_of false b ≡ cell_of (R - 1) false true false (x - s)) (λ h. rw (leb-holds (suc (x - s)) (suc (R - 1)) (omega arith)))
    (λ h. rw (leb-fails (suc (x - s)) (suc (R - 1)) (omega arith)))
cell_same R s x false false r l = refl

module _ {f : Params} {w : Walk} {at : Placement} {starts kinds : List ℕ} (W : Walked f w at starts kinds) where
  abbrev walk : Walk
  walk = sub_blocks_of f.n f.m f.b (sub_len_of f)

  ok : Served f
  ok = serve f W.range W.fit

  h : Placed f.b f.n 0 (starts_in at)
  h = (placed-starts f (starts_in at) W.placed).0

  count : length (starts_in at) ≡ f.m
  count = (placed-starts f (starts_in at) W.placed).1

  start : (k : ℕ) → k < sub_blocks f → get_or starts k 0 ≡ sub_start f k
  start = W.starts-are.0

  index : (k : ℕ) → k < sub_blocks f → eqb (get_or kinds k 0) index_kind ≡ bears f (starts_in at) k
  index k l = ap (λ (y : ℕ). eqb y index_kind) (W.kinds-are k l) ∙ kind-index (bears f (starts_in at) k)

  burst : (k : ℕ) → k < sub_blocks f → eqb (get_or kinds k 0) burst_kind ≡ not (bears f (starts_in at) k)
  burst k l = ap (λ (y : ℕ). eqb y burst_kind) (W.kinds-are k l) ∙ kind-burst (bears f (starts_in at) k)

  -- a sub-block's symbols, before the next one or the word's end
  room : (k : ℕ) → k < sub_blocks f → get_or starts k 0 + sub_len_of f ≤ get_or starts (suc k) 0
  room k l =
      by_le (suc (suc k)) (sub_blocks f) (λ _. get_or starts k 0 + sub_len_of f ≤ get_or starts (suc k) 0)
      (λ q. omega (arith, start k l, start (suc k) q, sub-next f k))
      (λ q.
      let last : k ≡ 2 * f.m = omega arith in
      omega (arith, start k l, ap (sub_start f) last, ap (λ (y : ℕ). get_or starts (suc y) 0) last, W.starts-are.1, sub-last f ok))

  walks : Walks walk at starts kinds
  walks =
      record {
        bursts = record { few = ok.range.m-most; held = W.held; count = count; placed = of-placed f.b f.n 0 (starts_in at) h };
        n-most = ok.range.n-most;
        b-least = ok.range.b-least;
        blocks-most = omega (arith, ok.range.m-most);
        some = W.some;
        first = start 0 (omega arith) ∙ sub-first f;
        last = W.starts-are.1;
        room = room;
        short = λ k l. omega (arith, start k (omega arith), start (suc k) l, sub-next f k, gap-least f k, ok.short, W.some);
        three = λ k l. omega (arith, W.kinds-are k l, kind-few (bears f (starts_in at) k));
        spares =
            record {
              index-heads = λ k x l t a c.
                  bearer-clear f (starts_in at) k x (sym (index k l) ∙ t) (omega (arith, start k l)) (omega (arith, start k l, W.some));
              fixed-heads = λ k l t u. absurd (true≢false (sym (ap not (sym (index k l) ∙ t)) ∙ sym (burst k l) ∙ u));
            };
      }

  -- before the next sub-block's first position
  before-next : (k x : ℕ) → k < sub_blocks f → x < get_or starts (suc k) 0 → x < sub_start f (suc k)
  before-next k x l c =
      by_le (suc (suc k)) (sub_blocks f) (λ _. x < sub_start f (suc k)) (λ q. omega (arith, start (suc k) q))
      (λ q.
      let last : k ≡ 2 * f.m = omega arith in
      omega (arith, ap (sub_start f) last, ap (λ (y : ℕ). get_or starts (suc y) 0) last, W.starts-are.1, sub-last f ok, sub-next f k))

  plan-is : plan_in (frame_by walk starts kinds (starts_in at)) ≡ plan f (starts_in at)
  unfolding plan
  plan-is =
      plan-by walks (kind_at f (starts_in at))
      (λ k x l a c.
      let e = start k l in
      rw (index k l, burst k l, e)
      (kind-in f (starts_in at) k x l (omega (arith, e)) (before-next k x l c)
      ∙ cell_same (sub_len_of f) (sub_start f k) x (in_burst f.b (starts_in at) x) (bears f (starts_in at) k) W.some (omega (arith, e))))

  -- ---- For the walk in code

  pub walks-of : Walks w at starts kinds
  walks-of = rw W.walk_is walks

  pub plan-of : plan_in (frame_by w starts kinds (starts_in at)) ≡ plan f (starts_in at)
  plan-of = rw W.walk_is plan-is

  pub message-of : (ms : List ℕ) → length ms ≡ message_len_of f → MessageFor w at starts kinds ms
  unfolding plan
  message-of ms e =
      rw W.walk_is
      (ap (tally message) plan-is ∙ tally-count message f.n 0 (kind_at f (starts_in at)) ∙ message-cells f ok (starts_in at) h count ∙ sym e)

  -- the rank's digits serve each bearer
  pub digits-lent : DigitsFor w kinds (rank_digits f (starts_in at))
  digits-lent j l = rw W.walk_is (omega (arith, length-rank f (starts_in at)))

  pub digits-of : digits_by w kinds (rank_digits f (starts_in at)) ≡ digits f (starts_in at)
  unfolding digits
  digits-of =
      let all : index_before kinds (sub_blocks f) ≡ suc f.m =
      count-ext (sub_blocks f) 0 (λ i. eqb (get_or kinds i 0) index_kind) (bears f (starts_in at)) (λ k _ l. index k (omega arith))
      ∙ bearer-count f ok (starts_in at) count in
      rw (W.walk_is, all, ← length-rank f (starts_in at)) (dealt-same (suc f.m) (rank_digits f (starts_in at)) (bearers f (starts_in at))
      (bearers-many f ok (starts_in at) count))
