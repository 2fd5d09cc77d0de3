-- What a walk over the cells of a word meets, from left to right, by tables of its blocks. Assumes nothing.
use Rattle.std.specs.Prelude.{cond, List, [], ◌++◌, ℕ, zero, suc, ◌-◌, ltb, eqb, length, get_or, take, drop}
use Rattle.combinatorics.specs.Bursts.{in_burst}
use Rattle.combinatorics.specs.Stretch.{count, top}
use Rattle.cells.specs.Cells.{Cell, burst, fixed, digit, message}
use Rattle.cells.specs.Plan.{Frame}
use Rattle.blocks.specs.Blocks.{fixed_kind, burst_kind, index_kind}
use Rattle.stretches.specs.declared.Walk.{Walk}

-- a kind of cell by its number
abbrev pub cell_named : ℕ → Cell
cell_named c = cond (eqb c 0) burst (cond (eqb c 1) fixed (cond (eqb c 2) digit message))

-- how many cells at a block's head are set apart from its message
unfoldable pub head_cells : Frame → ℕ → ℕ
head_cells g k = cond (g.is_index k) (suc g.tail) (cond (g.is_burst k) 0 1)

-- where the burst of a number starts, or the end of a word of n symbols behind the last
unfoldable pub next_start : ℕ → List ℕ → ℕ → ℕ
next_start n ss i = cond (ltb i (length ss)) (get_or ss i 0) n

-- ---- A walk in code, with the tables that it goes by

-- the blocks of its word: where each starts, and of which kind it is
abbrev pub frame_by : Walk → List ℕ → List ℕ → List ℕ → Frame
frame_by w heads kinds ss =
    record {
      word_len = w.n;
      blocks = w.blocks;
      head = λ k. get_or heads k 0;
      block_of = top (λ k. get_or heads k 0) w.blocks;
      tail = w.head_len - 1;
      is_index = λ k. eqb (get_or kinds k 0) index_kind;
      is_burst = λ k. eqb (get_or kinds k 0) burst_kind;
      runs = in_burst w.b ss;
    }

-- the head cells of a block of a kind
unfoldable pub head_len_of : Walk → ℕ → ℕ
head_len_of w kind = cond (eqb kind index_kind) w.head_len (cond (eqb kind fixed_kind) 1 0)

-- how many of the blocks before block k are index blocks
abbrev pub index_before : List ℕ → ℕ → ℕ
index_before kinds k = count k 0 (λ i. eqb (get_or kinds i 0) index_kind)

-- the digits of so many index blocks, of `len` each: those of the next one stand `step` further on in the list that is lent
unfoldable pub dealt : ℕ → ℕ → ℕ → List ℕ → List ℕ
dealt zero len step ds = []
dealt (suc k) len step ds = take len ds ++ dealt k len step (drop step ds)

abbrev pub digits_by : Walk → List ℕ → List ℕ → List ℕ
digits_by w kinds ds = dealt (index_before kinds w.blocks) w.head_len w.digit_step ds
