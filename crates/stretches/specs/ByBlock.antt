-- A walk over the cells of a word block by block: a block's head cells, the bursts that start in it, the rest. Assumes nothing.
use Rattle.std.specs.Prelude.{◌≡◌, ◌⊎◌, true, List, ℕ, suc, ◌+◌, ◌≤◌, ◌<◌, length, get_or}
use Rattle.combinatorics.specs.Bursts.{apart}
use Rattle.cells.specs.Cells.{Cell}
use Rattle.cells.specs.Plan.{Frame, Spares, kind_in}
use Rattle.cells.specs.Figures.{max_word, max_bursts}
use Rattle.construction_a.specs.Figures.{blocks}
use Rattle.params.specs.declared.Layout.{Layout}
use Rattle.params.specs.Given.{figures_of, max_blocks, HeadsOf}
use Rattle.placements.specs.declared.Placement.{Placement}
use Rattle.placements.specs.Bridge.{starts_in}
use Rattle.blocks.specs.Blocks.{KindsOf, index_kind}
use Rattle.stretches.specs.declared.Walk.{Walk}
use Rattle.stretches.specs.Walk.{head_cells, next_start, frame_by}

-- a position behind the first i bursts of b, and not behind the start of the next
pub record Between (n b : ℕ) (ss : List ℕ) (x i : ℕ) : Type 0 where
  pub within : x ≤ n
  pub counted : i ≤ length ss
  pub behind : (j : ℕ) → j < i → get_or ss j 0 + b ≤ x
  pub ahead : x ≤ next_start n ss i

-- the walk comes to block k, or to the word's end: at its first cell, or behind a burst that ends in it, and then it has no head cells
pub record EntersBlock (g : Frame) (b : ℕ) (ss : List ℕ) (k x i : ℕ) : Type 0 where
  pub between : Between g.word_len b ss x i
  pub from : g.head k ≤ x
  pub to : k < g.blocks → x ≤ g.head (suc k)
  pub clear : (x ≡ g.head k) ⊎ (head_cells g k ≡ 0)

-- the walk has passed the head cells of block k, and perhaps a burst that reaches into the next block, which then has no head cells
pub record Past (g : Frame) (b : ℕ) (ss : List ℕ) (k x i : ℕ) : Type 0 where
  pub between : Between g.word_len b ss x i
  pub from : g.head k + head_cells g k ≤ x
  pub reach : (x ≤ g.head (suc k)) ⊎ ((suc k < g.blocks) × (head_cells g (suc k) ≡ 0) × (x ≤ g.head (suc (suc k))))

-- cells of one kind
abbrev pub Cells : Frame → Cell → ℕ → ℕ → Type 0
Cells g kind x to = (y : ℕ) → x ≤ y → y < to → kind_in g y ≡ kind

-- ---- What a walk in code may count on

-- a placement of its bursts
pub record PlacedIn (w : Walk) (at : Placement) : Type 0 where
  pub few : w.m ≤ max_bursts
  pub held : at.count ≡ w.m
  pub count : length (starts_in at) ≡ w.m
  pub placed : apart w.b w.n 0 (starts_in at) ≡ true

-- the tables of heads and kinds are those of a word whose blocks follow one another, with room for the digits of an index block, and but for the last
-- for a burst; its bursts spare the heads of index and fixed blocks
pub record Walks (w : Walk) (at : Placement) (heads kinds : List ℕ) : Type 0 where
  pub bursts : PlacedIn w at
  pub n-most : w.n ≤ max_word
  pub b-least : 1 ≤ w.b
  pub blocks-most : w.blocks ≤ max_blocks
  pub some : 1 ≤ w.head_len
  pub first : get_or heads 0 0 ≡ 0
  pub last : get_or heads w.blocks 0 ≡ w.n
  pub room : (k : ℕ) → k < w.blocks → get_or heads k 0 + w.head_len ≤ get_or heads (suc k) 0
  pub short : (k : ℕ) → suc k < w.blocks → get_or heads k 0 + w.b ≤ get_or heads (suc k) 0
  pub three : (k : ℕ) → k < w.blocks → get_or kinds k 0 ≤ index_kind
  pub spares : Spares (frame_by w heads kinds (starts_in at))

-- ---- Of a layout

-- each index block has its own digits
abbrev pub walk_of : Layout → Walk
walk_of l =
    record {
      n = l.n;
      m = l.m;
      b = l.b;
      blocks = blocks (figures_of l);
      head_len = suc l.index_tail;
      digit_step = suc l.index_tail;
    }

-- the tables of a word's blocks
abbrev pub Tables : Layout → Placement → List ℕ → List ℕ → Type 0
Tables l at heads kinds = HeadsOf (figures_of l) heads × KindsOf (figures_of l) (starts_in at) kinds
