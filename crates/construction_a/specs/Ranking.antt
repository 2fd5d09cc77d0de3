-- What ranks, burst blocks, covers, r and k are under Construction A: statements about definitions that search, or that go by a formula. The proof of all is
-- `faithful` of proofs/Ranking.antt. Assumes nothing.
use Rattle.std.specs.Prelude.{◌≡◌, Bool, true, List, ℕ, ◌<◌}
use Rattle.combinatorics.specs.Stretch.{count}
use Rattle.cells.specs.Cells.{message, is}
use Rattle.cells.specs.Ranking.{ServesLeast}
use Rattle.cells.specs.Ranking as AnyRanking
use Rattle.cells.specs.Figures.{Params, in_range, is_placement, placement_count_of}
use Rattle.construction_a.specs.Figures.{parts, blocks, index_tail_of, fits, message_len_of}
use Rattle.construction_a.specs.Writing.{is_burst, part_count, one_each, chosen, kind_at}
use Rattle.construction_a.specs.Outcomes.{coding}

abbrev pub RankBijection : Params → Type 0
RankBijection f = AnyRanking.RankBijection (coding f)

-- "The block in which a run ends becomes a B-block ..; if it is one already, the leftmost block of the word that is not yet B becomes B": there are m
pub record BurstBlocks (f : Params) (ss : List ℕ) : Type 0 where
  pub as_many : count (blocks f) 0 (is_burst f ss) ≡ f.m
  -- the third case of the rule: "each part has one B"
  pub one-each : chosen (parts f) f.m (is_burst f ss) ≡ one_each → (i : ℕ) → i < parts f → part_count f.m (is_burst f ss) i ≡ 1

abbrev pub CoversLeast : Params → (ℕ → Bool) → Type 0
CoversLeast f worn = AnyRanking.CoversLeast (coding f) worn

-- what is said of figures in range that fit, and of their placements
pub record Faithful (f : Params) : Type 0 where
  pub ranks : RankBijection f
  pub burst-blocks : (ss : List ℕ) → is_placement f ss ≡ true → BurstBlocks f ss
  pub covers : (worn : ℕ → Bool) → CoversLeast f worn
  pub tail : ServesLeast f.q f.m (placement_count_of f) (index_tail_of f)
  -- "A message has k symbols": k is the number of message cells
  pub message-cells : (ss : List ℕ) → is_placement f ss ≡ true → count f.n 0 (λ x. is message (kind_at f ss x)) ≡ message_len_of f

abbrev pub AllFaithful : Type 0
AllFaithful = (f : Params) → in_range f ≡ true → fits f ≡ true → Faithful f
