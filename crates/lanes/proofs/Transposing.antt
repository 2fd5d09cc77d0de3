-- A transposition, region by region: cells that are moved join cells that were moved before, until the whole table is. Assumes nothing.
use mathlib.Core.Path.{◌≡◌, refl, sym, ap, ◌∙◌}
use mathlib.Core.List.{List}
use Prim.Native.Nat.{ℕ, zero, suc, ◌+◌, ◌*◌, ◌/◌, ◌%◌, ◌≤◌, ◌<◌}
use native.Mathlib.Nat.{mul_comm, div-lt_iff_lt-mul, mod-lt, div-add-mod'}
use native.Mathlib.Omega.{arith}
use lib.Arith.{digits_lt, digits_div, digits_mod}
use lib.ListN.{length, get_or, set, length-set}
use lib.Seq.{get_or-set_same, get_or-set_other, ext_get_or}
use Rattle.combinatorics.proofs.Cases.{by_le}
use Rattle.lanes.specs.Interleaving.{transposed_table}
use Rattle.lanes.specs.Transposing.{CellsMoved}
use Rattle.lanes.proofs.Interleaving.{length-transposed, cell_at}

-- ---- Where a cell stands, before and after

pub cell-from : (rows columns i j : ℕ) → i < columns → j < rows → j * columns + i < rows * columns
cell-from rows columns i j hi hj = digits_lt hj hi

pub cell-to : (rows columns i j : ℕ) → i < columns → j < rows → i * rows + j < rows * columns
cell-to rows columns i j hi hj = omega (arith, digits_lt hi hj, mul_comm rows columns)

-- two cells in one place are one cell
pub same-column : (rows i j k l : ℕ) → j < rows → l < rows → i * rows + j ≡ k * rows + l → i ≡ k
same-column rows i j k l hj hl e = sym (digits_div i hj) ∙ ap (λ (x : ℕ). x / rows) e ∙ digits_div k hl

pub same_row : (rows i j k l : ℕ) → j < rows → l < rows → i * rows + j ≡ k * rows + l → j ≡ l
same_row rows i j k l hj hl e = sym (digits_mod i hj) ∙ ap (λ (x : ℕ). x % rows) e ∙ digits_mod k hl

module _ (rows columns : ℕ) (from : List ℕ) where
  -- ---- No cell, one cell

  pub moved_none : (before : List ℕ) (left right top bottom : ℕ) → ((i j : ℕ) → left ≤ i → i < right → top ≤ j → j < bottom → ⊥)
      → CellsMoved rows columns from before before left right top bottom
  moved_none before left right top bottom none =
      record { size = refl; inside = λ i j a b c d. absurd (none i j a b c d); outside = λ i j hi hj out. refl }

  pub moved-cell : (before : List ℕ) (i j : ℕ) → length before ≡ rows * columns → i < columns → j < rows
      → CellsMoved rows columns from before (set before (i * rows + j) (get_or from (j * columns + i) 0)) i (i + 1) j (j + 1)
  moved-cell before i j long hi hj =
      let v = get_or from (j * columns + i) 0 in
      record {
        size = length-set before (i * rows + j) v;
        inside = λ k l a b c d.
            let x : k ≡ i = omega arith in
            let y : l ≡ j = omega arith in
            rw (x, y) (get_or-set_same before (i * rows + j) v 0 (omega (arith, cell-to rows columns i j hi hj)));
        outside = λ k l hk hl out.
            get_or-set_other before (i * rows + j) (k * rows + l) v 0
            (λ e.
            let x = same-column rows k l i j hl hj e in
            let y = same_row rows k l i j hl hj e in
            out (omega arith) (omega arith) (omega arith) (omega arith));
      }

  -- ---- A region beside another, or below it

  module _ (before between after : List ℕ) where
    pub moved-right : (left middle right top bottom : ℕ) → middle ≤ right → right ≤ columns → bottom ≤ rows → left ≤ middle
        → CellsMoved rows columns from before between left middle top bottom → CellsMoved rows columns from between after middle right top bottom
        → CellsMoved rows columns from before after left right top bottom
    moved-right left middle right top bottom hm hr hb hl first second =
        record {
          size = second.size ∙ first.size;
          inside = λ i j a b c d.
              by_le (suc i) middle (λ _. get_or after (i * rows + j) 0 ≡ get_or from (j * columns + i) 0)
              (λ l. second.outside i j (omega arith) (omega arith) (λ m _ _ _. omega arith) ∙ first.inside i j a l c d)
              (λ l. second.inside i j (omega arith) b c d);
          outside = λ i j hi hj out.
              second.outside i j hi hj (λ a b c d. out (omega arith) b c d) ∙ first.outside i j hi hj (λ a b c d. out a (omega arith) c d);
        }

    pub moved_down : (left right top middle bottom : ℕ) → middle ≤ bottom → right ≤ columns → bottom ≤ rows → top ≤ middle
        → CellsMoved rows columns from before between left right top middle → CellsMoved rows columns from between after left right middle bottom
        → CellsMoved rows columns from before after left right top bottom
    moved_down left right top middle bottom hm hr hb ht first second =
        record {
          size = second.size ∙ first.size;
          inside = λ i j a b c d.
              by_le (suc j) middle (λ _. get_or after (i * rows + j) 0 ≡ get_or from (j * columns + i) 0)
              (λ l. second.outside i j (omega arith) (omega arith) (λ _ _ m _. omega arith) ∙ first.inside i j a b c l)
              (λ l. second.inside i j a b (omega arith) d);
          outside = λ i j hi hj out.
              second.outside i j hi hj (λ a b c d. out a b (omega arith) d) ∙ first.outside i j hi hj (λ a b c d. out a b c (omega arith));
        }

  -- ---- The whole table

  pub moved_all : (before after : List ℕ) → length before ≡ rows * columns → CellsMoved rows columns from before after 0 columns 0 rows
      → after ≡ transposed_table rows columns from
  moved_all before after long moved =
      ext_get_or 0 after (transposed_table rows columns from) (moved.size ∙ long ∙ sym (length-transposed rows columns from))
      (λ t l. here t (omega (arith, moved.size)))
    where
      some : (t : ℕ) → t < rows * columns → 0 < rows
      some t l = go rows l
        where
          go : (r : ℕ) → t < r * columns → 0 < r
          go zero l = absurd (omega arith)
          go (suc r) l = omega arith

      here : (t : ℕ) → t < rows * columns → get_or after t 0 ≡ get_or (transposed_table rows columns from) t 0
      here t l =
          let s = some t l in
          let j : t % rows < rows = mod-lt t s in
          let i : t / rows < columns = (div-lt_iff_lt-mul s).1 (omega (arith, mul_comm rows columns)) in
          let d = div-add-mod' t rows in
          ap (λ (y : ℕ). get_or after y 0) (sym d)
          ∙ moved.inside (t / rows) (t % rows) (omega arith) i (omega arith) j
          ∙ sym (cell_at rows columns (t / rows) (t % rows) from i j)
          ∙ ap (λ (y : ℕ). get_or (transposed_table rows columns from) y 0) d
