-- Laws of reading a word of Construction B by its layout: the part that has the burst's end, 8 and 9, and the burst's start. Assumes nothing.
use mathlib.Core.Path.{◌≡◌, sym, ap, ◌∙◌}
use mathlib.Core.Bool.{true, not}
use mathlib.Core.List.{List, [], ◌∷◌}
use Prim.Native.Nat.{ℕ, zero, suc, ◌+◌, ◌-◌, ◌*◌, ◌≤◌, ◌<◌, min}
use native.Mathlib.Numerals.{add-one}
use native.Mathlib.Omega.{arith}
use Rattle.refusals.specs.Refusals.{must, value_too_large, disagrees, erased}
use Rattle.combinatorics.specs.Bursts.{placements, starts_of}
use Rattle.combinatorics.proofs.Cases.{leb-holds, leb-fails}
use Rattle.cells.specs.Cells.{Cell, message, pick}
use Rattle.cells.specs.Codec.{accepted, refused}
use Rattle.cells.specs.Cut.{block_head}
use Rattle.cells.specs.Erasures.{has_erasure}
use Rattle.cells.specs.Outcomes.{Coding, Held, held}
use Rattle.cells.proofs.Cut.{piece-next}
use Rattle.cells.specs.Figures.{Params, is_placement, max_count}
use Rattle.construction_a.specs.Figures as A
use Rattle.construction_b.specs.DemandTwo.{IndexRead}
use Rattle.construction_b.specs.Figures.{parts, head_of, part_len, placement_count_of}
use Rattle.construction_b.specs.Figures as B
use Rattle.construction_b.specs.Outcomes.{coding}
use Rattle.construction_b.specs.Reading.{before, written, end_at, read_part, read}
use Rattle.construction_b.proofs.Base.{head-same, length-below}
use Rattle.construction_b.proofs.Figures.{part-rises, part_end, start-placed, count-is, counted}
use Rattle.construction_b.proofs.Ranking.{burst-fits, start-ranked}
use Rattle.params.specs.Given.{figures_of, long_of, coding_with, blocks_coding, LongLayoutFits}
use Rattle.params.specs.declared.Layout.{Layout}
use Rattle.params.specs.declared.Spells.{Spells}
use Rattle.params.proofs.LongFitting.{served-long, base-is, long-plan-is, long-shaped}
use Rattle.params.proofs.Shape.{blocks_is, head-is}
use Rattle.placements.specs.declared.Placement.{Placement}
use Rattle.placements.specs.Bridge.{held_as, starts_in, PlacesBursts, Room}
use Rattle.placements.proofs.Calls.{starts-held}
use Rattle.decoder.specs.Reader.{read_message}

pub before-lt : (i : ℕ) → i < parts → before i < parts
unfolding before
before-lt zero l = omega arith
before-lt (suc zero) l = omega arith
before-lt (suc (suc zero)) l = omega arith
before-lt (suc (suc (suc i))) l = absurd (omega arith)

module _ (l : Layout) (g : LongLayoutFits l) where
  long-coding : blocks_coding l ≡ coding (long_of (figures_of l))
  long-coding = ap (λ (s : Spells). coding_with s (figures_of l)) g.laid.spells-is

  -- a part is a block
  pub part-head : (k : ℕ) → block_head l.n l.parts l.m k ≡ head_of (long_of (figures_of l)) k
  part-head k = head-is l (long-shaped l g) k ∙ ap (λ (f : Params). A.head_of f k) (base-is l g) ∙ head-same (long_of (figures_of l)) k

  pub part-end-is : (k : ℕ) → block_head l.n l.parts l.m (k + 1) ≡ head_of (long_of (figures_of l)) k + part_len (long_of (figures_of l)) k
  part-end-is k = rw (add-one k) (part-head (suc k) ∙ piece-next l.n parts k)

  pub part-among : (k : ℕ) → k ≤ parts → k ≤ l.parts * l.m
  part-among k h = rw (g.laid.m-is, g.laid.parts_is) (omega arith)

  pub block-part : (k : ℕ) → k < A.blocks (figures_of l) → k < l.parts
  block-part k h =
      let one : l.parts * l.m ≡ l.parts = rw g.laid.m-is (omega arith) in
      omega (arith, one, blocks_is l (long-shaped l g))

  -- and lies within the word
  pub part-within : (k : ℕ) → k < parts → head_of (long_of (figures_of l)) k + part_len (long_of (figures_of l)) k ≤ l.n
  part-within k h =
      let f = long_of (figures_of l) in
      omega (arith, piece-next l.n parts k, part-rises f (suc k) parts h, part_end f)

  -- ---- The value: T is no less than a part's length

  module _ (w : List ℕ) (i v : ℕ) (spelled : v ≡ min (written (long_of (figures_of l)) w i) l.placement_count) where
    pub value-is : v < part_len (long_of (figures_of l)) (before i) → v ≡ written (long_of (figures_of l)) w i
    value-is h = omega (arith, spelled, g.laid.count-is, length-below (long_of (figures_of l)) (served-long l g) (before i))

    pub too_long : part_len (long_of (figures_of l)) (before i) ≤ v
        → read_part (long_of (figures_of l)) w (before i) (written (long_of (figures_of l)) w i) ≡ refused value_too_large
    unfolding read_part
    too_long h =
        let f = long_of (figures_of l) in
        rw (leb-fails (suc (written f w i)) (part_len f (before i)) (omega (arith, spelled)))

  -- ---- 9, or what is left once the start is known

  module _ (w : List ℕ) (e v : ℕ) (below : v < part_len (long_of (figures_of l)) e) where
    pub before-word : end_at (long_of (figures_of l)) e v < l.b → read_part (long_of (figures_of l)) w e v ≡ refused disagrees
    unfolding read_part
    before-word h =
        let f = long_of (figures_of l) in
        rw (leb-holds (suc v) (part_len f e) below, leb-fails l.b (end_at f e v) h)

    pub started : (s : ℕ) → s ≡ end_at (long_of (figures_of l)) e v - l.b → l.b ≤ end_at (long_of (figures_of l)) e v → is_placement (figures_of l) (s ∷ []) ≡ true
        → read_part (long_of (figures_of l)) w e v ≡ read_message l w (s ∷ [])
    unfolding read_part
    started s is from placed =
        let f = long_of (figures_of l) in
        rw (leb-holds (suc v) (part_len f e) below, leb-holds l.b (end_at f e v) from, ← is)
        (ap (λ (p : List Cell). let ms = pick message p w in must (not (has_erasure l.q ms)) (refused erased) (accepted (s ∷ []) ms))
        (sym (long-plan-is l g (s ∷ []) placed)))

  pub long-read : (w : List ℕ) (i v : ℕ) → IndexRead (long_of (figures_of l)) w i → v ≡ written (long_of (figures_of l)) w i
      → (blocks_coding l).codec.decode w ≡ read_part (long_of (figures_of l)) w (before i) v
  unfolding read
  long-read w i v h e = ap (λ (d : Coding). d.codec.decode w) long-coding ∙ rw (h.pattern, h.whole, e)

  -- ---- The placement of a start

  pub start-room : Room l.n l.m l.b
  start-room =
      let ok = served-long l g in
      rw g.laid.m-is
      (record { short = ok.range.n-most; few = omega arith; some = ok.range.b-least; within = omega (arith, burst-fits (long_of (figures_of l)) ok) })

  pub start-counts : (placements l.n l.m l.b ≤ max_count) × ((s : ℕ) → s + l.b ≤ l.n → s < placements l.n l.m l.b)
  unfolding placement_count_of
  start-counts =
      let f = long_of (figures_of l) in
      let ok = served-long l g in
      let c = count-is f (burst-fits f ok) in
      rw g.laid.m-is (omega (arith, c, counted f ok.range), λ s h. omega (arith, c, h))

  module _ (s : ℕ) (p : Placement) (inside : s + l.b ≤ l.n) (e : held_as p ≡ held (starts_of l.n l.m l.b s)) where
    start-held : held_as p ≡ held (s ∷ [])
    start-held =
        e ∙ ap (λ (m : ℕ). held (starts_of l.n m l.b s)) g.laid.m-is ∙ ap held (start-ranked (long_of (figures_of l)) (served-long l g) s inside)

    pub start-starts : starts_in p ≡ s ∷ []
    start-starts = starts-held (s ∷ []) start-held

    pub start-valid : is_placement (figures_of l) (s ∷ []) ≡ true
    unfolding is_placement B.is_placement
    start-valid = ap (λ (f : Params). is_placement f (s ∷ [])) (base-is l g) ∙ start-placed (long_of (figures_of l)) s inside

    pub start-placing : PlacesBursts l p
    start-placing =
        record {
          layout = long-shaped l g;
          count = ap (λ (h : Held). h.count) start-held ∙ sym g.laid.m-is;
          placed = ap (is_placement (figures_of l)) start-starts ∙ start-valid;
        }

    pub start-is-held : held_as p ≡ held (starts_in p)
    start-is-held = start-held ∙ ap held (sym start-starts)
