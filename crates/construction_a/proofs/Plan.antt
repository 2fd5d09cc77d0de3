-- Laws of Construction A's plan: exactly m B-blocks and m I-blocks, the heads of I- and F-blocks in no burst, and how many cells there are of each kind.
-- Assumes nothing.
use mathlib.Core.Path.{◌≡◌, refl, sym, ap, ◌∙◌}
use mathlib.Core.Bool.{Bool, true, false, true≢false, false≢true}
use mathlib.Core.List.{List, [], ◌∷◌}
use Prim.Native.Nat.{ℕ, suc, ◌+◌, ◌-◌, ◌*◌, ◌/◌, ◌%◌, ◌≤◌, ◌<◌}
use native.Mathlib.Nat.{mul-le-mul_right, div-add-mod', mod-lt, div-lt_iff_lt-mul}
use native.Mathlib.Omega.{arith}
use lib.ListN.{length}
use Rattle.combinatorics.specs.Stretch.{count}
use Rattle.combinatorics.specs.Bursts.{in_burst}
use Rattle.combinatorics.proofs.Cases.{by_bool}
use Rattle.combinatorics.proofs.Members.{Each, length-members}
use Rattle.combinatorics.proofs.Stretch.{count_none}
use Rattle.combinatorics.proofs.Bursts.{Placed, placed_end, by-burst, burst-count}
use Rattle.cells.specs.Cells.{digit, message, is}
use Rattle.cells.specs.Plan.{kind_in, Spares}
use Rattle.cells.proofs.Cut.{block-with, block-next, block-first, block-end, burst-touches}
use Rattle.cells.proofs.Plan.{Framed}
use Rattle.cells.proofs.Plan as Frames
use Rattle.cells.specs.Figures.{Params}
use Rattle.construction_a.specs.Figures.{parts, head_of, block_of, index_tail_of, message_len_of}
use Rattle.construction_a.specs.Writing.{last_blocks, is_burst, is_index_in, is_index, index_blocks, frame_with, frame, kind_at}
use Rattle.cells.proofs.Figures.{Ranged}
use Rattle.construction_a.proofs.Figures.{Served, three-parts, parts-most}
use Rattle.construction_a.proofs.Rule.{with_bursts-count, with_bursts-ends, i-not-b, i-list}

-- ---- What goes by the cut and the rule alone, for figures in range and whatever r

module _ (f : Params) (range : Ranged f) where
  some-parts : 0 < parts f
  some-parts = omega (arith, three-parts f)

  ends-under : (lo : ℕ) (ss : List ℕ) → Placed f.b f.n lo ss → Each (λ e. e < parts f * f.m) (last_blocks f ss)
  ends-under lo [] h = tt
  ends-under lo (s ∷ ss) (l, h) = (
    (block-with f.n (parts f) f.m (s + f.b - 1) some-parts range.m-least
        (omega (arith, range.b-least, placed_end f.b f.n (s + f.b) ss h))).below,
    ends-under (s + f.b) ss h,
  )

  length-ends : (ss : List ℕ) → length (last_blocks f ss) ≡ length ss
  length-ends [] = refl
  length-ends (s ∷ ss) = ap suc (length-ends ss)

  -- each burst ends in a B-block
  pub ends-burst : (ss : List ℕ) → Each (λ e. is_burst f ss e ≡ true) (last_blocks f ss)
  unfolding is_burst
  ends-burst ss = with_bursts-ends (parts f * f.m) (last_blocks f ss) (λ _. false)

  module _ (ss : List ℕ) (h : Placed f.b f.n 0 ss) (e : length ss ≡ f.m) where
    -- exactly m B-blocks
    pub burst-blocks : count (parts f * f.m) 0 (is_burst f ss) ≡ f.m
    unfolding is_burst
    burst-blocks =
        let z = count_none (parts f * f.m) 0 (λ _. false) (λ x _ _. refl) in
        let y = length-ends ss in
        omega (arith, with_bursts-count (parts f * f.m) (last_blocks f ss) (λ _. false) (ends-under 0 ss h) (omega (arith, mul-le-mul_right f.m some-parts)))

    -- no block is both I and B
    pub index-not-burst : (k : ℕ) → k < parts f * f.m → is_index f ss k ≡ true → is_burst f ss k ≡ false
    unfolding is_index is_index_in
    index-not-burst k l t =
        rw (div-add-mod' k f.m) at
        (i-not-b (parts f) f.m (is_burst f ss) (three-parts f) range.m-least (parts-most f) burst-blocks (k / f.m) (k % f.m)
        ((div-lt_iff_lt-mul range.m-least).1 l) (mod-lt k range.m-least) t)

    -- exactly m I-blocks
    pub index-blocks : length (index_blocks f ss) ≡ f.m
    unfolding index_blocks is_index
    index-blocks =
        let i = i-list (parts f) f.m (is_burst f ss) (three-parts f) range.m-least (parts-most f) burst-blocks in
        ap length i.0 ∙ i.1

    pub index-count : count (parts f * f.m) 0 (is_index f ss) ≡ f.m
    unfolding index_blocks
    index-count = sym (length-members (parts f * f.m) 0 (is_index f ss)) ∙ index-blocks

    module _ (r : ℕ) (room : r < f.n / (parts f * f.m)) (spares : Spares (frame_with r f ss)) where
      pub framed-with : Framed (frame_with r f ss)
      framed-with =
          record {
            first = block-first f.n (parts f) f.m range.m-least;
            last = block-end f.n (parts f) f.m some-parts range.m-least;
            block = λ x. block-with f.n (parts f) f.m x some-parts range.m-least;
            up = λ k. omega (arith, room, block-next f.n (parts f) f.m k range.m-least);
            index-not-burst = index-not-burst;
            spares = spares;
          }

      pub digits-with : count f.n 0 (λ x. is digit (kind_in (frame_with r f ss) x)) ≡ f.m * suc r
      digits-with = Frames.digit-count (frame_with r f ss) framed-with ∙ ap (λ (y : ℕ). y * suc r) index-count

      pub messages-with : count f.n 0 (λ x. is message (kind_in (frame_with r f ss) x)) + f.m * (f.b + parts f + r - 1) ≡ f.n
      messages-with =
          let d = f.b - 1 in
          let bursts = burst-count f.b f.n 0 ss f.n h (omega arith) in
          let y : f.b + parts f + r - 1 ≡ d + parts f + r = omega (arith, range.b-least) in
          let x : f.b ≡ suc d = omega (arith, range.b-least) in
          rw y (omega (
            arith,
            Frames.message-count (frame_with r f ss) framed-with,
            bursts,
            index-count,
            burst-blocks,
            ap (λ (v : ℕ). v * f.b) e,
            ap (λ (v : ℕ). f.m * v) x,
            ap (λ (v : ℕ). v * suc r) index-count,
          ))

-- ---- Figures that fit

module _ (f : Params) (ok : Served f) where
  -- a position in a burst and among the first 1 + r of a block: that block is B
  burst-in : (lo : ℕ) (ss : List ℕ) (B : ℕ → Bool) → Placed f.b f.n lo ss → Each (λ e. B e ≡ true) (last_blocks f ss) → (k x : ℕ)
      → in_burst f.b ss x ≡ true
      → head_of f k ≤ x → x < head_of f k + suc (index_tail_of f) → B k ≡ true
  unfolding in_burst
  burst-in lo [] B h a k x t l₁ l₂ = absurd (false≢true t)
  burst-in lo (s ∷ ss) B (l, h) (e, a) k x t l₁ l₂ =
      by-burst f.b s x ss t
      (λ u u'.
      let i = block-with f.n (parts f) f.m (s + f.b - 1) (omega arith) ok.some (omega (arith, ok.long, placed_end f.b f.n (s + f.b) ss h)) in
      let d : k ≡ block_of f (s + f.b - 1) =
      burst-touches f.n (parts f) f.m (index_tail_of f) f.b s (block_of f (s + f.b - 1)) k x ok.some ok.room ok.short i u u' l₁ l₂ in
      rw d e)
      (λ q. burst-in (s + f.b) ss B h a k x q l₁ l₂)

  -- the first 1 + r positions of an F- or an I-block are in no burst
  head_clear : (ss : List ℕ) → Placed f.b f.n 0 ss → (k x : ℕ) → is_burst f ss k ≡ false → head_of f k ≤ x → x < head_of f k + suc (index_tail_of f)
      → in_burst f.b ss x ≡ false
  head_clear ss h k x e a c =
      by_bool (in_burst f.b ss x) (λ t. absurd (true≢false (sym (burst-in 0 ss (is_burst f ss) h (ends-burst f ok.range ss) k x t a c) ∙ e))) (λ t. t)

  module _ (ss : List ℕ) (h : Placed f.b f.n 0 ss) (e : length ss ≡ f.m) where
    pub spares : Spares (frame f ss)
    spares =
        record {
          index-heads = λ k x l t. head_clear ss h k x (index-not-burst f ok.range ss h e k l t);
          fixed-heads = λ k _ _ t. head_clear ss h k (head_of f k) t (omega arith) (omega arith);
        }

    pub framed : Framed (frame f ss)
    framed = framed-with f ok.range ss h e (index_tail_of f) ok.room spares

    pub digit-count : count f.n 0 (λ x. is digit (kind_at f ss x)) ≡ f.m * suc (index_tail_of f)
    unfolding kind_at
    digit-count = digits-with f ok.range ss h e (index_tail_of f) ok.room spares

    -- "k is n less m × (b + p + r − 1)": the number of message cells
    pub messages-count : count f.n 0 (λ x. is message (kind_at f ss x)) + f.m * (f.b + parts f + index_tail_of f - 1) ≡ f.n
    unfolding kind_at
    messages-count = messages-with f ok.range ss h e (index_tail_of f) ok.room spares

    pub message-cells : count f.n 0 (λ x. is message (kind_at f ss x)) ≡ message_len_of f
    unfolding message_len_of
    message-cells = omega (arith, messages-count)
