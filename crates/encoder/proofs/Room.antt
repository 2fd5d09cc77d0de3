-- The digits of what the index blocks spell have room: figures that fit need fewer than the array holds, and they spell every value that a placement has.
-- Assumes nothing.
use mathlib.Core.Path.{◌≡◌, refl, ap, ap₂, ◌∙◌}
use mathlib.Core.Bool.{true}
use mathlib.Core.List.{List}
use Prim.Native.Nat.{ℕ, zero, suc, ◌+◌, ◌-◌, ◌*◌, ◌/◌, ◌^◌, ◌≤◌, ◌<◌}
use native.Mathlib.Nat.{mul-zero, mul-suc, mul-le-mul, pow-zero, pow-le-pow_left, one-le-pow, le-mul_of_pos_right, mul_comm, div-le_self}
use native.Mathlib.Numerals.{add-one}
use native.Mathlib.Omega.{arith}
use lib.ListN.{length, take}
use lib.Pow.{pow-add, pow_mono}
use Rattle.combinatorics.proofs.Cases.{by_le}
use Rattle.cells.specs.Cells.{Cell, weave}
use Rattle.cells.specs.Plan.{plan_in}
use Rattle.cells.specs.Digits.{span, spell, places}
use Rattle.cells.proofs.Digits.{span-places, span-first, span-longer, length-places, length-spell}
use Rattle.cells.specs.Figures.{is_placement, max_bursts, max_count, index_values, placement_count_of}
use Rattle.construction_a.specs.Figures.{index_tail_of}
use Rattle.construction_a.specs.Writing.{word}
use Rattle.construction_a.proofs.Figures.{index-least, span-enough}
use Rattle.construction_a.proofs.Ranking.{rank-bijection}
use Rattle.construction_b.specs.Figures as B
use Rattle.construction_b.specs.Writing as B'
use Rattle.construction_b.specs.Writing.{start_in, burst_part}
use Rattle.construction_b.proofs.Figures as BFigures
use Rattle.construction_b.proofs.Plan.{burst-lt, offset-lt}
use Rattle.params.specs.Given.{figures_of, long_of, frame_of, LayoutFitsWith, coding_with, blocks_coding, BlocksServe, spelled_with, spelled_in}
use Rattle.params.specs.declared.Layout.{Layout}
use Rattle.params.specs.declared.Spells.{Spells}
use Rattle.params.specs.declared.Spells.TheVariants.{Rank, EndOffset}
use Rattle.params.proofs.Fitting.{served, plan-is}
use Rattle.params.proofs.LongFitting.{served-long, start_is, long-plan-is}
use Rattle.encoder.specs.Digits.{max_digits, SpellableRank}

-- the largest count that is served is below this power of 2
abbrev count_bits : ℕ
count_bits = 63

-- r further symbols spell at least as many values as that many bits a block
span-least : (q m r : ℕ) → 2 ≤ q → 2 ^ (m * r) ≤ span q (places m r)
span-least q m zero h = rw (mul-zero m, pow-zero 2, span-first q m) (one-le-pow m (q - 1) (omega arith))
span-least q m (suc r) h =
    rw (mul-suc m r, pow-add 2 (m * r) m, span-longer q m r)
    (mul-le-mul (span-least q m r h) (pow-le-pow_left h m))

-- r is the least that serves so many values
module _ (q m values : ℕ) (two : 2 ≤ q) (few : m ≤ max_bursts) (counted : values ≤ max_count) (tail : ℕ)
    (least : (r : ℕ) → values ≤ index_values q m r → tail ≤ r) where
  -- one symbol fewer would not do, so it spells fewer values
  fewer : (r : ℕ) → tail ≡ suc r → m * r < count_bits
  fewer r e =
      by_le count_bits (m * r) (λ _. m * r < count_bits)
      (λ l. absurd (omega (
        arith,
        least r (omega (arith, counted, span-least q m r two, span-places q m r, pow_mono {i = count_bits} {j = m * r} l)),
        e,
      )))
      (λ l. l)

  digits-few : m * suc tail ≤ max_digits
  digits-few = go tail refl
    where
      go : (r : ℕ) → tail ≡ r → m * suc r ≤ max_digits
      go zero e = omega (arith, mul-suc m 0, mul-zero m, few)
      go (suc r) e = omega (arith, mul-suc m (suc r), mul-suc m r, fewer r e, few)

-- as many digits as places, where a count is worked out as m × (r + 1)
pub spelled_count : (q m r v : ℕ) (ds : List ℕ) → take (m * suc r) ds ≡ spell q (places m r) v → length (take (m * (r + 1)) ds) ≡ m * suc r
spelled_count q m r v ds e = rw (add-one r) (ap length e ∙ length-spell q (places m r) v ∙ length-places m r)

-- ---- The same of a layout, and of a placement of its bursts

-- the values that an I part has to spell are few
values-few : (n : ℕ) → n ≤ 4096 → (n + 2) / 3 ≤ max_count
values-few n h = omega (arith, div-le_self (n + 2) 3)

module _ (l : Layout) where
  room-with : (s : Spells) → LayoutFitsWith s l → (l.m * suc l.index_tail ≤ max_digits) × (1 ≤ l.m)
  unfolding B.part_most
  room-with Rank g =
      let f = figures_of l in
      let ok = served l g in (
        rw g.laid.tail-is (digits-few f.q f.m (placement_count_of f) ok.range.q-least ok.range.m-most ok.counted (index_tail_of f)
            (index-least f)),
        ok.some,
      )
  room-with EndOffset g =
      let f = long_of (figures_of l) in
      let ok = served-long l g in (
        rw (g.laid.m-is, g.laid.tail-is)
            (digits-few f.q 1 (B.part_most f) ok.range.q-least (omega arith) (values-few f.n ok.range.n-most) (B.index_tail_of f)
            (BFigures.index-least f)),
        omega (arith, g.laid.m-is),
      )

  pub count_most : BlocksServe l → l.m * suc l.index_tail ≤ max_digits
  count_most g = (room-with l.spells g).0

  tail-few : BlocksServe l → l.index_tail < max_digits
  tail-few g =
      omega (arith, count_most g, le-mul_of_pos_right {m = l.m} (suc l.index_tail) (room-with l.spells g).1, mul_comm l.m (suc l.index_tail))

  -- what is spelled is below what the places can spell
  below-with : (s : Spells) → LayoutFitsWith s l → (ss : List ℕ) → is_placement (figures_of l) ss ≡ true
      → (2 ≤ l.q) × (l.q ≤ 256) × (spelled_with s (figures_of l) ss < span l.q (places l.m l.index_tail))
  below-with Rank g ss placed =
      let f = figures_of l in
      let ok = served l g in
      (ok.range.q-least, ok.range.q-most, rw g.laid.tail-is (omega (arith, (rank-bijection f ok).below ss placed, span-enough f ok)))
  below-with EndOffset g ss placed =
      let f = long_of (figures_of l) in
      let ok = served-long l g in
      let inside = (start_is l g ss placed).1 in (
        ok.range.q-least,
        ok.range.q-most,
        rw (g.laid.m-is, g.laid.tail-is)
            (omega (
              arith,
              offset-lt f ok (start_in ss) inside,
              BFigures.part-most f (burst_part f (start_in ss))
                  (burst-lt f ok (start_in ss) inside),
              BFigures.span-enough f ok,
            )),
      )

  pub spellable : BlocksServe l → (ss : List ℕ) (v : ℕ) → is_placement (figures_of l) ss ≡ true → v ≡ spelled_in l ss → SpellableRank l.q l.m l.index_tail v
  spellable g ss v placed e =
      let b = below-with l.spells g ss placed in
      record { alphabet = b.0; bytes = b.1; room = count_most g; tail = tail-few g; below = omega (arith, b.2, e) }

  -- the digits of what is spelled, woven into the plan, give the word of either construction
  woven-with : (s : Spells) → LayoutFitsWith s l → (ss ms : List ℕ) → is_placement (figures_of l) ss ≡ true
      → weave (plan_in (frame_of l ss)) (spell l.q (places l.m l.index_tail) (spelled_with s (figures_of l) ss)) ms
      ≡ (coding_with s (figures_of l)).codec.encode ss ms
  unfolding word B'.word_from
  woven-with Rank g ss ms placed =
      ap₂ (λ (cs : List Cell) (r : ℕ). weave cs (spell l.q (places l.m r) (spelled_with Rank (figures_of l) ss)) ms) (plan-is l g ss) g.laid.tail-is
  woven-with EndOffset g ss ms placed =
      ap (λ (cs : List Cell). weave cs (spell l.q (places l.m l.index_tail) (spelled_with EndOffset (figures_of l) ss)) ms)
      (long-plan-is l g ss placed)
      ∙ ap₂ (λ (m r : ℕ). weave (B'.plan (long_of (figures_of l)) (start_in ss)) (spell l.q (places m r) (spelled_with EndOffset (figures_of l) ss)) ms)
      g.laid.m-is g.laid.tail-is

  -- the word that these digits give
  pub word_of : BlocksServe l → (ss ds ms out : List ℕ) (v : ℕ) → is_placement (figures_of l) ss ≡ true → v ≡ spelled_in l ss
      → take (l.m * suc l.index_tail) ds ≡ spell l.q (places l.m l.index_tail) v
      → out ≡ weave (plan_in (frame_of l ss)) (take (l.m * (l.index_tail + 1)) ds) ms → out ≡ (blocks_coding l).codec.encode ss ms
  word_of g ss ds ms out v placed e d o =
      o ∙ ap (λ (y : List ℕ). weave (plan_in (frame_of l ss)) y ms)
      (ap (λ (r : ℕ). take (l.m * r) ds) (add-one l.index_tail) ∙ d ∙ ap (spell l.q (places l.m l.index_tail)) e)
      ∙ woven-with l.spells g ss ms placed
