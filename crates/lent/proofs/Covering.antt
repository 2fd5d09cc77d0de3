-- Laws of the placement that starts in bytes give, and of covering on bytes, refusal by refusal. Assumes nothing.
use mathlib.Core.Path.{◌≡◌, refl, sym, ap, ◌∙◌}
use mathlib.Core.Logic.{◌≢◌}
use mathlib.Core.Bool.{true}
use mathlib.Core.List.{List, []}
use Prim.Native.Nat.{ℕ, suc, ◌*◌, ◌≤◌, ◌<◌}
use native.Mathlib.Omega.{arith}
use borrow.Author.Tests.{leb-true}
use lib.Dec.{eqb}
use lib.ListN.{length}
use Rattle.refusals.specs.Refusals.{must, served, wrong_length}
use Rattle.combinatorics.specs.Bursts.{placements, starts_of, cover_rank}
use Rattle.combinatorics.specs.Lists.{all_below}
use Rattle.combinatorics.proofs.Cases.{by-eq, by_bool, eqb_same, eqb-other, leb-holds, leb-fails}
use Rattle.combinatorics.proofs.Bursts.{rank-of-starts}
use Rattle.cells.specs.Outcomes.{Coding, held, in_use, defect_at, unserved, figures_under, Covered, unplaced, cover_under}
use Rattle.cells.proofs.Outcomes.{refused-alike}
use Rattle.cells.specs.Figures.{max_bursts}
use Rattle.std.specs.Prelude.{Result, Ok, Err}
use Rattle.refusals.specs.declared.Refusal.{Refusal}
use Rattle.refusals.specs.Numbers.{number_of}
use Rattle.refusals.proofs.Numbers.{never-served}
use Rattle.placements.specs.declared.Placement.{Placement}
use Rattle.placements.specs.Bridge.{coverable, cover_within, covered_as as found_as, Room}
use Rattle.placements.proofs.Calls.{cover-length, cover-symbol, cover-none, cover-some}
use Rattle.decoder.specs.Exported.{start_bytes}
use Rattle.lent.specs.Starts.{starts_from, placement_from}
use Rattle.lent.specs.Covering.{cover_lent, cover_lent_as, cover_bytes_under, covered_by, RefusedBy, CoverFits}

-- ---- The placement that is given

module _ (m : ℕ) (bytes : List ℕ) where
  pub placed-many : max_bursts < m → held [] ≡ placement_from m bytes
  placed-many h = rw (leb-fails m max_bursts h)

  pub placed-other : m ≤ max_bursts → length bytes ≢ 2 * m → held [] ≡ placement_from m bytes
  placed-other h e = rw (leb-holds m max_bursts h, eqb-other (length bytes) (2 * m) e)

  pub placed-all : m ≤ max_bursts → length bytes ≡ 2 * m → held (starts_from bytes) ≡ placement_from m bytes
  placed-all h e = rw (leb-holds m max_bursts h, eqb_same (length bytes) (2 * m) e)

-- ---- "covering 1 2 3 4 6"

module _ (d : Coding) (map bytes : List ℕ) where
  -- 1 and 2, with the number that the figures have alone
  pub cover-bytes-unfit : (a : ℕ) → figures_under d ≡ unserved a → cover_bytes_under d map bytes ≡ cover_lent a bytes
  cover-bytes-unfit a e =
      refused-alike d a (λ x. cover_lent x bytes)
      (must (eqb (length bytes) (2 * d.bursts)) (cover_lent wrong_length bytes)
      (cover_lent_as bytes (cover_under d map))) e

  module _ (range : d.in_range ≡ true) (fit : d.fits ≡ true) where
    -- 3, for the starts
    pub cover-bytes-length : length bytes ≢ 2 * d.bursts → cover_bytes_under d map bytes ≡ cover_lent wrong_length bytes
    cover-bytes-length size = rw (range, fit, eqb-other (length bytes) (2 * d.bursts) size)

    -- and what covering answers, put into the lent buffer
    pub cover-bytes-put : length bytes ≡ 2 * d.bursts → (c : Covered) → c ≡ cover_under d map
        → (a : ℕ) (starts : List ℕ) → cover_lent a starts ≡ cover_lent_as bytes c → cover_lent a starts ≡ cover_bytes_under d map bytes
    cover-bytes-put size c e a starts put =
        let is : cover_bytes_under d map bytes ≡ cover_lent_as bytes (cover_under d map) = rw (range, fit, eqb_same (length bytes) (2 * d.bursts) size) in
        put ∙ ap (cover_lent_as bytes) e ∙ sym is

-- the answer of covering, taken apart
module _ (bytes : List ℕ) (c : Covered) where
  pub covered-refused : c.answer ≢ served → cover_lent c.answer bytes ≡ cover_lent_as bytes c
  covered-refused a = rw (eqb-other c.answer served a)

  pub covered-served : c.answer ≡ served → cover_lent served (start_bytes (in_use c.placement)) ≡ cover_lent_as bytes c
  covered-served a = rw (eqb_same c.answer served a)

-- what covering answered, by the numbers of the list
pub covered-same : (c : Result Placement Refusal) → covered_by number_of c ≡ found_as c
covered-same (Ok at) = refl
covered-same (Err a) = refl

pub refused-by : (c : Result Placement Refusal) → RefusedBy number_of c
refused-by c e is = never-served e

-- a map that is not refused has a placement of m starts
refused-not : {P : Type 0} (c : Covered) (a : ℕ) → c ≡ unplaced (suc a) → c.answer ≡ served → P
refused-not c a e r = absurd (let x : suc a ≡ served = sym (ap (λ (c : Covered). c.answer) e) ∙ r in omega arith)

module _ (n m b : ℕ) (room : Room n m b) (map : List ℕ) where
  covered-count : (c : Covered) → c ≡ cover_within n m b map → c.answer ≡ served → c.placement.count ≡ m
  covered-count c is r =
      by-eq (length map) n (λ _. c.placement.count ≡ m)
      (λ size. by_bool (all_below 2 map)
      (λ low. by_bool (coverable n m b map)
      (λ some. ap (λ (c : Covered). c.placement.count) (is ∙ cover-some n m b map size low some) ∙ rw some (count some))
      (λ none. refused-not c 5 (is ∙ cover-none n m b map size low none) r))
      (λ high. refused-not c 3 (is ∙ cover-symbol n m b map size high) r))
      (λ other. refused-not c 2 (is ∙ cover-length n m b map other) r)
    where
      v : ℕ
      v = cover_rank n m b (defect_at map)

      count : coverable n m b map ≡ true → length (starts_of n m b v) ≡ m
      count some = (rank-of-starts n m b room.some room.within v (leb-true (suc v) (placements n m b) some)).count

  pub cover-fits : (bytes : List ℕ) → length bytes ≡ 2 * m → (c : Result Placement Refusal) → found_as c ≡ cover_within n m b map → CoverFits c bytes
  cover-fits bytes size c e at is =
      let told = ap found_as is in
      let count : at.count ≡ m = sym (ap (λ (c : Covered). c.placement.count) told) ∙ covered-count (found_as c) e (ap (λ (c : Covered). c.answer) told) in
      (omega (arith, count, room.few), omega (arith, count))
