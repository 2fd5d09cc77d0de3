-- What a caller needs: what its figures give, which starts an answer has in use, and that covering answers as the definitions do. Assumes nothing.
use mathlib.Core.Path.{◌≡◌, refl, sym, ap, ◌∙◌}
use mathlib.Core.Logic.{◌≢◌}
use mathlib.Core.Bool.{true, false}
use mathlib.Core.List.{List}
use Prim.Native.Nat.{ℕ, ◌-◌, ◌*◌, ◌≤◌}
use native.Mathlib.Omega.{arith}
use lib.Dec.{ltb, eqb}
use lib.ListN.{length, replicate}
use lib.Seq.{take-append_seam}
use Rattle.refusals.specs.Refusals.{must, served, wrong_length, bad_symbol, uncovered}
use Rattle.combinatorics.specs.Bursts.{apart, placements, rank_of, starts_of, cover_rank}
use Rattle.combinatorics.specs.Lists.{all_below}
use Rattle.combinatorics.proofs.Cases.{by_bool, eqb_same, eqb-other}
use Rattle.combinatorics.proofs.Loops.{apart-longer}
use Rattle.cells.specs.Outcomes.{Coding, in_use, held, defect_at, unserved, figures_under, unplaced, cover_under}
use Rattle.cells.proofs.Outcomes.{refused-alike}
use Rattle.cells.specs.Figures.{Params, max_word, max_bursts, max_count}
use Rattle.cells.proofs.Figures.{ranged}
use Rattle.construction_a.proofs.Figures.{Served}
use Rattle.construction_b.proofs.Figures.{count-is}
use Rattle.params.specs.declared.Spells.{Spells}
use Rattle.params.specs.declared.Spells.TheVariants.{Rank, EndOffset}
use Rattle.params.specs.declared.Layout.{Layout}
use Rattle.params.specs.Given.{figures_of, long_of, coding_with, blocks_coding, LayoutFitsWith, BlocksServe}
use Rattle.params.proofs.Either.{in-shape, in_order, numbers-in}
use Rattle.placements.specs.declared.Placement.{Placement}
use Rattle.placements.specs.Bridge.{held_as, starts_in, coverable, least_cover, cover_within, Rankable, Room}

pub room_of : (f : Params) → Served f → Room f.n f.m f.b
room_of f ok = record { short = ok.range.n-most; few = ok.range.m-most; some = ok.long; within = ok.total }

-- a placement that passed the test for refusal 5
pub rankable : {p : Placement} (n b : ℕ) → p.count ≤ max_bursts → n ≤ max_word → 1 ≤ b → apart b n 0 (starts_in p) ≡ true → rank_of b (starts_in p) ≤ max_count
    → Rankable p b
rankable {p} n b few short some valid small = record { few = few; some = some; valid = apart-longer b n max_word 0 (starts_in p) short valid; small = small }

pub starts-held : {p : Placement} (ss : List ℕ) → held_as p ≡ held ss → starts_in p ≡ ss
starts-held ss e = ap in_use e ∙ take-append_seam ss (replicate (max_bursts - length ss) 0)

-- ---- "covering 1 2 3 4 6"

-- 1 and 2, with the number that the figures have alone
pub cover-unfit : (d : Coding) (map : List ℕ) (a : ℕ) → figures_under d ≡ unserved a → cover_under d map ≡ unplaced a
cover-unfit d map a e =
    let n = d.codec.word_len in
    let v = cover_rank n d.bursts d.burst_len (defect_at map) in
    refused-alike d a unplaced
    (must (eqb (length map) n) (unplaced wrong_length)
    (must (all_below 2 map) (unplaced bad_symbol)
    (must (ltb v d.placement_count_of) (unplaced uncovered)
    (record { answer = served; placement = held (starts_of n d.bursts d.burst_len v) })))) e

-- the cover that is given, where there is one
pub by-cover : (n m b : ℕ) (map : List ℕ) → cover_within n m b map
    ≡ must (eqb (length map) n) (unplaced wrong_length)
    (must (all_below 2 map) (unplaced bad_symbol)
    (must (coverable n m b map) (unplaced uncovered)
    (record { answer = served; placement = held (starts_of n m b (cover_rank n m b (defect_at map))) })))
by-cover n m b map = by_bool (coverable n m b map) (λ t. rw t) (λ t. rw t)

-- 3, 4 and 6, and a cover
module _ (n m b : ℕ) (map : List ℕ) where
  pub cover-length : length map ≢ n → cover_within n m b map ≡ unplaced wrong_length
  cover-length size = rw (eqb-other (length map) n size)

  module _ (size : length map ≡ n) where
    pub cover-symbol : all_below 2 map ≡ false → cover_within n m b map ≡ unplaced bad_symbol
    cover-symbol bytes = rw (eqb_same (length map) n size, bytes)

    pub cover-none : all_below 2 map ≡ true → coverable n m b map ≡ false → cover_within n m b map ≡ unplaced uncovered
    cover-none bytes none = rw (eqb_same (length map) n size, bytes, none)

    pub cover-some : all_below 2 map ≡ true → coverable n m b map ≡ true → cover_within n m b map ≡ record { answer = served; placement = least_cover n m b map }
    cover-some bytes some = rw (eqb_same (length map) n size, bytes, some)

module _ (l : Layout) (g : BlocksServe l) where
  -- T counts all placements, whichever construction laid the figures out
  counts_all : (blocks_coding l).placement_count_of ≡ placements l.n l.m l.b
  counts_all = go l.spells g
    where
      go : (s : Spells) → LayoutFitsWith s l → (coding_with s (figures_of l)).placement_count_of ≡ placements l.n l.m l.b
      go Rank h = refl
      go EndOffset h =
          let t : 1 * l.b ≤ l.n = rw h.laid.m-is at (in-shape l g).total in
          rw h.laid.m-is (count-is (long_of (figures_of l)) (omega (arith, t)))

  pub room_in : Room l.n l.m l.b
  room_in =
      let h = in-shape l g in
      let r = ranged (figures_of l) h.range in
      record { short = r.n-most; few = r.m-most; some = r.b-least; within = h.total }

  -- behind 1 and 2 it is covering by the layout's own numbers
  pub covers-within : (map : List ℕ) → cover_within l.n l.m l.b map ≡ cover_under (blocks_coding l) map
  covers-within map =
      let order = in_order l g in
      let is = numbers-in l g in
      by-cover l.n l.m l.b map ∙ rw (order.0, order.1, sym is.word-is, sym is.bursts-is, sym is.burst-is, counts_all)
