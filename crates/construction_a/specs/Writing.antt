-- Document 01, "Writing by the FBI rule". A set of blocks is a test of their numbers. Assumes nothing.
use Rattle.std.specs.Prelude.{Bool, false, not, cond, ◌||◌, ◌&&◌, List, [], ◌∷◌, map, ℕ, ◌+◌, ◌-◌, ◌*◌, ◌/◌, ◌%◌, ltb, eqb}
use Rattle.combinatorics.specs.Bursts.{in_burst}
use Rattle.combinatorics.specs.Stretch.{count, first, members, tabulate}
use Rattle.cells.specs.Cells.{Cell, weave}
use Rattle.cells.specs.Plan.{Frame, kind_in}
use Rattle.cells.specs.Digits.{spell, places}
use Rattle.cells.specs.Figures.{Params, rank}
use Rattle.cells.specs.Round.{next}
use Rattle.construction_a.specs.Figures.{parts, blocks, head_of, block_of, index_tail_of}

-- ---- B-blocks

-- "The block in which a run ends becomes a B-block ..; if it is one already, the leftmost block of the word that is not yet B becomes B."
-- Of n blocks, those of B are B already, and the run ends in block e.
unfoldable pub becomes : ℕ → (ℕ → Bool) → ℕ → ℕ
becomes n B e = let spare = first n 0 (λ k. not (B k)) in cond (B e) spare e

unfoldable pub with_burst : ℕ → (ℕ → Bool) → ℕ → ℕ → Bool
with_burst n B e k = eqb k (becomes n B e) || B k

-- "Runs are taken left to right."
unfoldable pub with_bursts : ℕ → List ℕ → (ℕ → Bool) → ℕ → Bool
with_bursts n [] B = B
with_bursts n (e ∷ es) B = with_bursts n es (with_burst n B e)

-- the blocks in which the runs end, "even across a part's edge"
abbrev pub last_blocks : Params → List ℕ → List ℕ
last_blocks f ss = map (λ s. block_of f (s + f.b - 1)) ss

unfoldable pub is_burst : Params → List ℕ → ℕ → Bool
is_burst f ss = with_bursts (blocks f) (last_blocks f ss) (λ _. false)

-- ---- I-blocks, for p parts of m blocks

-- part i of a set of blocks
abbrev pub row : ℕ → (ℕ → Bool) → ℕ → ℕ → Bool
row m w i j = w (i * m + j)

-- how many blocks of part i are in a set, and the first part that has so many, or p
unfoldable pub part_count : ℕ → (ℕ → Bool) → ℕ → ℕ
part_count m B i = count m 0 (row m B i)

unfoldable pub part_with : ℕ → ℕ → (ℕ → Bool) → ℕ → ℕ
part_with p m B wanted = first p 0 (λ i. eqb (part_count m B i) wanted)

-- the I-blocks are every block of one part, or one block of each part
pub data Chosen : Type 0 where
  whole : ℕ → Chosen
  one_each : Chosen

-- "all B in one part i: every block of part i+1, part 0 after the last; some part has no B, and B lie in more than one part: every block
-- of the first such part; each part has one B ..": all B lie in one part where it has as many as the word; that each part
-- has one where neither is so is said by `BurstBlocks` of specs/Ranking
unfoldable pub chosen : ℕ → ℕ → (ℕ → Bool) → Chosen
chosen p m B =
    let filled = part_with p m B (count (p * m) 0 B) in
    let bare = part_with p m B 0 in
    cond (ltb filled p) (whole (next p filled)) (cond (ltb bare p) (whole bare) one_each)

-- ".., at block j: block j+1 of that part, block 0 after the last"
unfoldable pub beside : ℕ → (ℕ → Bool) → ℕ → ℕ
beside m B i = next m (first m 0 (row m B i))

-- whether block j of part i is among them
unfoldable pub is_chosen : ℕ → (ℕ → Bool) → Chosen → ℕ → ℕ → Bool
is_chosen m B (whole a) i j = eqb i a
is_chosen m B one_each i j = eqb j (beside m B i)

unfoldable pub is_index_in : ℕ → (ℕ → Bool) → Chosen → ℕ → Bool
is_index_in m B c k = is_chosen m B c (k / m) (k % m)

unfoldable pub is_index : Params → List ℕ → ℕ → Bool
is_index f ss = is_index_in f.m (is_burst f ss) (chosen (parts f) f.m (is_burst f ss))

-- the I-blocks "from left to right"
unfoldable pub index_blocks : Params → List ℕ → List ℕ
index_blocks f ss = members (blocks f) 0 (is_index f ss)

-- "All other blocks are F."
unfoldable pub is_fixed : Params → List ℕ → ℕ → Bool
is_fixed f ss k = not (is_index f ss k) && not (is_burst f ss k)

-- ---- What stands at each position

-- its blocks, and the positions of its runs, for any r
abbrev pub frame_with : ℕ → Params → List ℕ → Frame
frame_with r f ss =
    record {
      word_len = f.n;
      blocks = blocks f;
      head = head_of f;
      block_of = block_of f;
      tail = r;
      is_index = is_index f ss;
      is_burst = is_burst f ss;
      runs = in_burst f.b ss;
    }

abbrev pub frame : Params → List ℕ → Frame
frame f = frame_with (index_tail_of f) f

unfoldable pub kind_at : Params → List ℕ → ℕ → Cell
kind_at f ss x = kind_in (frame f ss) x

unfoldable pub plan : Params → List ℕ → List Cell
plan f ss = tabulate f.n 0 (kind_at f ss)

-- ---- The word

-- "It is written over the I-blocks from left to right, most significant digit first .. Run positions hold 0. The message fills all remaining
-- positions in ascending order."
unfoldable pub word : Params → List ℕ → List ℕ → List ℕ
word f ss ms = weave (plan f ss) (spell f.q (places f.m (index_tail_of f)) (rank f ss)) ms
