-- What ranks, the B part, covers, r and k are under Construction B: statements about definitions that search, or that go by a formula. The proof of all is
-- `faithful` of proofs/Ranking.antt. Assumes nothing.
use Rattle.std.specs.Prelude.{◌≡◌, Bool, true, [], ◌∷◌, ℕ, ◌+◌, ◌≤◌, ◌<◌}
use Rattle.combinatorics.specs.Stretch.{count}
use Rattle.cells.specs.Cells.{message, is}
use Rattle.cells.specs.Plan.{kind_in}
use Rattle.cells.specs.Ranking.{RankBijection, CoversLeast, ServesLeast}
use Rattle.construction_b.specs.Figures.{LongParams, in_range, parts, head_of, part_len, part_most, index_tail_of, fits, message_len_of}
use Rattle.construction_b.specs.Writing.{last_of, burst_part, end_offset, frame, rank}
use Rattle.construction_b.specs.Outcomes.{coding}

-- "B the part where it ends", and "how far into its part the run ends, counted from 0"
pub record BurstPart (f : LongParams) (s : ℕ) : Type 0 where
  pub among : burst_part f s < parts
  pub last : head_of f (burst_part f s) + end_offset f s ≡ last_of f s
  pub within : end_offset f s < part_len f (burst_part f s)

-- what is said of figures in range that fit, and of every run that ends within the word
pub record Faithful (f : LongParams) : Type 0 where
  pub ranks : RankBijection (coding f)
  -- the rank of a placement is its start
  pub rank-is : (s : ℕ) → rank f (s ∷ []) ≡ s
  pub burst-part : (s : ℕ) → s + f.b ≤ f.n → BurstPart f s
  pub covers : (worn : ℕ → Bool) → CoversLeast (coding f) worn
  -- "the least for which the I-block's first 1 + r symbols spell at least n/3, rounded up, values": as many as the longest part has symbols
  pub tail : ServesLeast f.q 1 (part_most f) (index_tail_of f)
  pub longest : (i : ℕ) → i < parts → part_len f i ≤ part_most f
  -- "k is n − b − r − 2": the number of message cells
  pub message-cells : (s : ℕ) → s + f.b ≤ f.n → count f.n 0 (λ x. is message (kind_in (frame f s) x)) ≡ message_len_of f

abbrev pub AllFaithful : Type 0
AllFaithful = (f : LongParams) → in_range f ≡ true → fits f ≡ true → Faithful f
