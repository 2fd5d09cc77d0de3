-- A placement of the code as the definitions hold it, what a call may be given, and what covering answers. Assumes nothing.
use Rattle.std.specs.Prelude.{◌≡◌, Result, Ok, Err, Bool, true, not, cond, ◌&&◌, List, [], ℕ, ◌+◌, ◌*◌, ◌≤◌, leb, ltb, eqb, length, get_or}
use Rattle.refusals.specs.declared.Refusal.{Refusal}
use Rattle.refusals.specs.Numbers.{number_of}
use Rattle.refusals.specs.Refusals.{must, served, wrong_length, bad_symbol, uncovered}
use Rattle.combinatorics.specs.Lists.{all_below}
use Rattle.combinatorics.specs.Bursts.{apart, placements, rank_of, starts_of, cover_rank}
use Rattle.combinatorics.specs.Stretch.{tabulate}
use Rattle.cells.specs.Bytes.{byte_values}
use Rattle.cells.specs.Figures.{max_word, max_bursts, max_count, is_placement}
use Rattle.construction_a.specs.Outcomes.{Held, in_use, held, defect_at, Covered, unplaced}
use Rattle.params.specs.Given.{figures_of, Shaped}
use Rattle.params.specs.declared.Layout.{Layout}
use Rattle.placements.specs.declared.Placement.{Placement}

-- "A placement is held as six starts and the count in use", eight since document 02, ticket 11
abbrev pub held_as : Placement → Held
held_as p = record { starts = p.starts; count = p.count }

-- "starts past the count are .. unread in a call"
abbrev pub starts_in : Placement → List ℕ
starts_in p = in_use (held_as p)

-- "starts of 2 bytes each, high byte first": m of them, from a position of the bytes on
abbrev pub starts_at : List ℕ → ℕ → ℕ → List ℕ
starts_at bytes from m = tabulate m 0 (λ i. get_or bytes (from + 2 * i) 0 * byte_values + get_or bytes (from + 2 * i + 1) 0)

-- whether the burst from s on has position x
abbrev pub burst_has : ℕ → ℕ → ℕ → Bool
burst_has b s x = leb s x && ltb x (s + b)

-- the positions at which two words differ
abbrev pub differ_at : List ℕ → List ℕ → ℕ → Bool
differ_at v w x = not (eqb (get_or v x 0) (get_or w x 0))

-- a placement whose bursts are apart, and within a word
pub record WithinWord (p : Placement) (b : ℕ) (w : List ℕ) : Type 0 where
  pub few : p.count ≤ max_bursts
  pub valid : apart b (length w) 0 (starts_in p) ≡ true

-- a placement that has a rank: its bursts are apart, and within the longest word, and the rank is no larger than a count can be
pub record Rankable (p : Placement) (b : ℕ) : Type 0 where
  pub few : p.count ≤ max_bursts
  pub some : 1 ≤ b
  pub valid : apart b max_word 0 (starts_in p) ≡ true
  pub small : rank_of b (starts_in p) ≤ max_count

-- m bursts of b have room among n positions, within the limits
pub record Room (n m b : ℕ) : Type 0 where
  pub short : n ≤ max_word
  pub few : m ≤ max_bursts
  pub some : 1 ≤ b
  pub within : m * b ≤ n

-- some placement covers the map: otherwise "6: no placement covers the map."
abbrev pub coverable : ℕ → ℕ → ℕ → List ℕ → Bool
coverable n m b map = ltb (cover_rank n m b (defect_at map)) (placements n m b)

-- "the planner gives the placement of least rank whose runs cover every worn position"; no starts where none covers
abbrev pub least_cover : ℕ → ℕ → ℕ → List ℕ → Held
least_cover n m b map = cond (coverable n m b map) (held (starts_of n m b (cover_rank n m b (defect_at map)))) (held [])

-- and the refusal where none covers
abbrev pub covered_least : ℕ → ℕ → ℕ → List ℕ → Covered
covered_least n m b map = must (coverable n m b map) (unplaced uncovered) (record { answer = served; placement = least_cover n m b map })

-- covering behind the figures, "3 4 6"
abbrev pub cover_within : ℕ → ℕ → ℕ → List ℕ → Covered
cover_within n m b map =
    must (eqb (length map) n) (unplaced wrong_length)
    (must (all_below 2 map) (unplaced bad_symbol)
    (covered_least n m b map))

-- the answer of covering, and the placement beside it
abbrev pub covered_as : Result Placement Refusal → Covered
covered_as (Ok at) = record { answer = served; placement = held_as at }
covered_as (Err r) = unplaced (number_of r)

-- a placement of the bursts of a layout
pub record PlacesBursts (l : Layout) (at : Placement) : Type 0 where
  pub layout : Shaped l
  pub count : at.count ≡ l.m
  pub placed : is_placement (figures_of l) (starts_in at) ≡ true
