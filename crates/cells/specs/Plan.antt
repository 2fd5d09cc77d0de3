-- The plan of a word by its blocks: which are index blocks (document 01's I), which burst blocks (B), and all others fixed (F). Assumes nothing.
use Rattle.std.specs.Prelude.{◌≡◌, Bool, true, false, cond, List, ℕ, suc, ◌+◌, ◌-◌, ◌≤◌, ◌<◌, ltb, eqb}
use Rattle.combinatorics.specs.Stretch.{tabulate}
use Rattle.cells.specs.Cells.{Cell, burst, fixed, digit, message}

-- the length of a word, how many blocks it has, where each starts and which has a position, r, which blocks are I and which are B, and the positions of
-- the runs
pub record Frame : Type 0 where
  pub word_len : ℕ
  pub blocks : ℕ
  pub head : ℕ → ℕ
  pub block_of : ℕ → ℕ
  pub tail : ℕ
  pub is_index : ℕ → Bool
  pub is_burst : ℕ → Bool
  pub runs : ℕ → Bool

-- of a position in a run or not, in an I-block or not, in a B-block or not, that lies so far behind its block's first: "An F-block's first
-- symbol is 0"; in each I-block "one digit .., then r digits"; "Run positions"; "The message fills all remaining positions"
unfoldable pub cell_of : ℕ → Bool → Bool → Bool → ℕ → Cell
cell_of r true i b far = burst
cell_of r false true b far = cond (ltb far (suc r)) digit message
cell_of r false false true far = message
cell_of r false false false far = cond (eqb far 0) fixed message

-- what stands at position x
abbrev pub kind_in : Frame → ℕ → Cell
kind_in g x =
    let k = g.block_of x in
    cell_of g.tail (g.runs x) (g.is_index k) (g.is_burst k) (x - g.head k)

abbrev pub plan_in : Frame → List Cell
plan_in g = tabulate g.word_len 0 (kind_in g)

-- the runs spare the first 1 + r symbols of each I-block, and the first of each F-block
pub record Spares (g : Frame) : Type 0 where
  pub index-heads : (k x : ℕ) → k < g.blocks → g.is_index k ≡ true → g.head k ≤ x → x < g.head k + suc g.tail → g.runs x ≡ false
  pub fixed-heads : (k : ℕ) → k < g.blocks → g.is_index k ≡ false → g.is_burst k ≡ false → g.runs (g.head k) ≡ false
