-- What R, the sub-blocks, their bearers, k, ranks and covers are under the Larsson code: statements about definitions that search, or that go by a formula.
-- The proof of all is `faithful` of proofs/Ranking.antt. Assumes nothing.
use Rattle.std.specs.Prelude.{◌≡◌, Bool, true, List, ℕ, suc, ◌+◌, ◌*◌, ◌^◌, ◌≤◌, ◌<◌, take}
use Rattle.combinatorics.specs.Stretch.{count, members}
use Rattle.cells.specs.Cells.{message, is}
use Rattle.cells.specs.Ranking.{RankBijection, CoversLeast}
use Rattle.cells.specs.Figures.{Params, in_range, is_placement, placement_count_of}
use Rattle.larsson.specs.Figures.{sub_len_of, sub_blocks, gaps, gap_len, sub_start, fits, message_len_of}
use Rattle.larsson.specs.Writing.{untouched, bears, bearers, kind_at}
use Rattle.larsson.specs.Outcomes.{coding}

-- "R is the least number of symbols that spell at least T values": of all numbers
pub record SpellsLeast (q values r : ℕ) : Type 0 where
  pub serves : values ≤ q ^ r
  pub least : (r' : ℕ) → values ≤ q ^ r' → r ≤ r'

-- "There are 2 × m + 1 sub-blocks of R symbols, the first at 0, the last ending the word, the gaps between as equal as possible and shorter first"
pub record EvenlySpaced (f : Params) : Type 0 where
  pub at-start : sub_start f 0 ≡ 0
  pub at-end : sub_start f (2 * f.m) + sub_len_of f ≡ f.n
  pub between : (i : ℕ) → i < gaps f → sub_start f (suc i) ≡ sub_start f i + sub_len_of f + gap_len f i
  pub as-equal : (i j : ℕ) → i < gaps f → j < gaps f → gap_len f j ≤ gap_len f i + 1
  pub shorter-first : (i j : ℕ) → i ≤ j → j < gaps f → gap_len f i ≤ gap_len f j

-- "The first m + 1 sub-blocks that no run touches hold the rank": there are so many
pub record RankBearers (f : Params) (ss : List ℕ) : Type 0 where
  pub as_many : count (sub_blocks f) 0 (bears f ss) ≡ suc f.m
  pub the-first : bearers f ss ≡ take (suc f.m) (members (sub_blocks f) 0 (untouched f ss))

-- what is said of figures in range that fit, and of their placements
pub record Faithful (f : Params) : Type 0 where
  pub ranks : RankBijection (coding f)
  pub rank-symbols : SpellsLeast f.q (placement_count_of f) (sub_len_of f)
  pub spacing : EvenlySpaced f
  pub rank-bearers : (ss : List ℕ) → is_placement f ss ≡ true → RankBearers f ss
  -- "the message fills what remains": k is the number of message cells
  pub message-cells : (ss : List ℕ) → is_placement f ss ≡ true → count f.n 0 (λ x. is message (kind_at f ss x)) ≡ message_len_of f
  pub covers : (worn : ℕ → Bool) → CoversLeast (coding f) worn

abbrev pub AllFaithful : Type 0
AllFaithful = (f : Params) → in_range f ≡ true → fits f ≡ true → Faithful f
