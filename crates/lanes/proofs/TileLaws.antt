-- A tile by way of its own cells: lines copied in, four shuffles, lines copied out. Assumes nothing.
use mathlib.Core.Path.{◌≡◌, refl, sym, ap, ◌∙◌}
use mathlib.Core.Bool.{Bool, true, ◌&&◌}
use mathlib.Core.List.{List, ◌++◌}
use Prim.Native.Nat.{ℕ, suc, ◌+◌, ◌-◌, ◌*◌, ◌≤◌, ◌<◌}
use native.Mathlib.Nat.{add-mul, mul-le-mul_right}
use native.Mathlib.Omega.{arith}
use lib.Dec.{eqb, ltb}
use lib.ListN.{length, get_or, take, drop, set, get_or-append, length-drop, length-set}
use lib.Seq.{take_all, get_or-take, get_or-drop, length-take-le, get_or-append-add, ext_get_or}
use borrow.Rule.Slice.PartMut.{mid_of, put_mid, same_len_mid}
use Rattle.combinatorics.specs.Lists.{every}
use Rattle.combinatorics.specs.Stretch.{tabulate, consecutive}
use Rattle.combinatorics.proofs.Cases.{by_le, eqb-true, le_of}
use Rattle.combinatorics.proofs.Lists.{both, fill-turn}
use Rattle.combinatorics.proofs.Members.{tabulate-at, length-tabulate}
use Rattle.combinatorics.proofs.Table.{at_each}
use Rattle.lanes.specs.Interleaving.{source, transposed_table}
use Rattle.lanes.specs.Transposing.{CellsMoved, LinesWithin, LinesCopied}
use Rattle.lanes.proofs.Interleaving.{length-transposed, cell_at}
use Rattle.lanes.proofs.Transposing.{same-column, same_row}

-- ---- A part that is put into a list

module _ (a k : ℕ) (xs part : List ℕ) (room : a + k ≤ length xs) (long : length part ≡ k) where
  put-before : (t : ℕ) → t < a → get_or (put_mid a k xs part) t 0 ≡ get_or xs t 0
  put-before t l =
      get_or-append (take a xs) (part ++ drop k (drop a xs)) 0 t (omega (arith, length-take-le a xs (omega arith))) ∙ get_or-take a xs t 0 l

  put-behind : (x : ℕ) → get_or (put_mid a k xs part) (a + x) 0 ≡ get_or (part ++ drop k (drop a xs)) x 0
  put-behind x =
      let e : a + x ≡ length (take a xs) + x = omega (arith, length-take-le a xs (omega arith)) in
      rw e (get_or-append-add (take a xs) (part ++ drop k (drop a xs)) x 0)

  pub put-inside : (x : ℕ) → x < k → get_or (put_mid a k xs part) (a + x) 0 ≡ get_or part x 0
  put-inside x l = put-behind x ∙ get_or-append part (drop k (drop a xs)) 0 x (omega arith)

  put-past : (x : ℕ) → get_or (put_mid a k xs part) (a + (k + x)) 0 ≡ get_or xs (a + (k + x)) 0
  put-past x =
      let e : k + x ≡ length part + x = omega arith in
      put-behind (k + x)
      ∙ ap (λ (y : ℕ). get_or (part ++ drop k (drop a xs)) y 0) e
      ∙ get_or-append-add part (drop k (drop a xs)) x 0
      ∙ get_or-drop k (drop a xs) x 0
      ∙ get_or-drop a xs (k + x) 0

  pub put-outside : (t : ℕ) → ((x : ℕ) → x < k → t ≡ a + x → ⊥) → get_or (put_mid a k xs part) t 0 ≡ get_or xs t 0
  put-outside t out =
      by_le (suc t) a (λ _. get_or (put_mid a k xs part) t 0 ≡ get_or xs t 0) (put-before t)
      (λ l. by_le (suc t) (a + k) (λ _. get_or (put_mid a k xs part) t 0 ≡ get_or xs t 0)
      (λ m. absurd (out (t - a) (omega arith) (omega arith)))
      (λ m.
      let e : t ≡ a + (k + (t - (a + k))) = omega arith in
      ap (λ (y : ℕ). get_or (put_mid a k xs part) y 0) e ∙ put-past (t - (a + k)) ∙ sym (ap (λ (y : ℕ). get_or xs y 0) e)))

-- ---- Lines

-- each line ends within the buffer
pub line-within : (at step k : ℕ) (xs : List ℕ) → LinesWithin at step xs → k < 16 → at + k * step + 16 ≤ length xs
line-within at step k xs h l = omega (arith, h.within, mul-le-mul_right {m = k} {n = 15} step (omega arith))

module _ (at step : ℕ) (from : List ℕ) (onto stride : ℕ) where
  pub lines_none : (before : List ℕ) → LinesCopied at step from onto stride 0 before before
  lines_none before = record { size = refl; inside = λ k x l m. absurd (omega arith); outside = λ t out. refl }

  -- one line more
  lines-turn : (k : ℕ) (before between part : List ℕ) → LinesWithin at step from → LinesWithin onto stride before → k < 16
      → length part ≡ 16 → part ≡ take 16 (take 16 (drop (at + k * step) from)) → LinesCopied at step from onto stride k before between
      → LinesCopied at step from onto stride (k + 1) before (put_mid (onto + k * stride) 16 between part)
  lines-turn k before between part source room hk long copied so =
      let a = onto + k * stride in
      let fit : a + 16 ≤ length between = omega (arith, so.size, line-within onto stride k before room hk) in
      record {
        size = same_len_mid a 16 between part (long ∙ sym (length-take-le 16 (drop a between) (omega (arith, length-drop a between)))) ∙ so.size;
        inside = λ l x hl hx.
            by_le (suc l) k (λ _. get_or (put_mid a 16 between part) (onto + l * stride + x) 0 ≡ get_or from (at + l * step + x) 0)
            (λ g.
            put-outside a 16 between part fit long (onto + l * stride + x)
            (λ y hy e. omega (arith, room.apart, mul-le-mul_right {m = suc l} {n = k} stride g))
            ∙ so.inside l x g hx)
            (λ g.
            let e : l ≡ k = omega arith in
            rw e (put-inside a 16 between part fit long x hx
            ∙ ap (λ (y : List ℕ). get_or y x 0) copied
            ∙ get_or-take 16 (take 16 (drop (at + k * step) from)) x 0 hx
            ∙ get_or-take 16 (drop (at + k * step) from) x 0 hx
            ∙ get_or-drop (at + k * step) from x 0));
        outside = λ t out.
            put-outside a 16 between part fit long t (λ x hx e. out k x (omega arith) hx e)
            ∙ so.outside t (λ l x hl hx e. out l x (omega arith) hx e);
      }

  -- the same as it is lent: parts from a start to an end
  pub lines-on : (k : ℕ) (before between part : List ℕ) → LinesWithin at step from → LinesWithin onto stride before → k < 16
      → let a = onto + k * stride in let s = at + k * step in
      part ≡ take (length (mid_of a (a + 16 - a) between)) (mid_of s (s + 16 - s) from) → LinesCopied at step from onto stride k before between
      → LinesCopied at step from onto stride (k + 1) before (put_mid a (a + 16 - a) between part)
  lines-on k before between part source room hk copied so =
      let a = onto + k * stride in
      let s = at + k * step in
      let here : a + 16 - a ≡ 16 = omega arith in
      let there : s + 16 - s ≡ 16 = omega arith in
      let fit : a + 16 ≤ length between = omega (arith, so.size, line-within onto stride k before room hk) in
      let given : s + 16 ≤ length from = line-within at step k from source hk in
      let size : length (take 16 (drop a between)) ≡ 16 = length-take-le 16 (drop a between) (omega (arith, length-drop a between)) in
      let now : part ≡ take 16 (take 16 (drop s from)) = rw (here, there, size) at copied in
      let long : length part ≡ 16 =
      ap length now ∙ length-take-le 16 (take 16 (drop s from)) (omega (arith, length-take-le 16 (drop s from) (omega (arith, length-drop s from)))) in
      rw here (lines-turn k before between part source room hk long now so)

-- ---- Four perfect shuffles of 256 symbols are the transposition of 16 × 16

abbrev cut : ℕ → ℕ
cut t = source 2 128 t

unfoldable shuffles : ℕ → ℕ → Bool
shuffles t _ = ltb (cut t) 256 && eqb (cut (cut (cut (cut t)))) (source 16 16 t)

all-shuffle : every shuffles 0 (consecutive 256 0) ≡ true
unfolding every tabulate shuffles
all-shuffle = refl

shuffled : (t : ℕ) → t < 256 → (cut t < 256) × (cut (cut (cut (cut t))) ≡ source 16 16 t)
unfolding shuffles
shuffled t l =
    let e = both (ltb (cut t) 256) (eqb (cut (cut (cut (cut t)))) (source 16 16 t))
    (at_each shuffles (consecutive 256 0) all-shuffle t (omega (arith, length-tabulate 256 0 (λ x. x)))) in
    (le_of (suc (cut t)) 256 e.0, eqb-true (cut (cut (cut (cut t)))) (source 16 16 t) e.1)

shuffle-at : (xs : List ℕ) (t : ℕ) → t < 256 → get_or (transposed_table 2 128 xs) t 0 ≡ get_or xs (cut t) 0
unfolding transposed_table
shuffle-at xs t l =
    let z : 0 + t ≡ t = omega arith in
    tabulate-at 256 0 t (λ t. get_or xs (source 2 128 t) 0) l ∙ ap (λ (y : ℕ). get_or xs (cut y) 0) z

turned-at : (xs : List ℕ) (t : ℕ) → t < 256 → get_or (transposed_table 16 16 xs) t 0 ≡ get_or xs (source 16 16 t) 0
unfolding transposed_table
turned-at xs t l =
    let z : 0 + t ≡ t = omega arith in
    tabulate-at 256 0 t (λ t. get_or xs (source 16 16 t) 0) l ∙ ap (λ (y : ℕ). get_or xs (source 16 16 y) 0) z

pub four-shuffles : (xs : List ℕ) → transposed_table 2 128 (transposed_table 2 128 (transposed_table 2 128 (transposed_table 2 128 xs))) ≡ transposed_table 16 16 xs
four-shuffles xs =
    let one = transposed_table 2 128 xs in
    let two = transposed_table 2 128 one in
    let three = transposed_table 2 128 two in
    ext_get_or 0 (transposed_table 2 128 three) (transposed_table 16 16 xs) (length-transposed 2 128 three ∙ sym (length-transposed 16 16 xs))
    (λ t l.
    let h : t < 256 = omega (arith, length-transposed 2 128 three) in
    let h1 = (shuffled t h).0 in
    let h2 = (shuffled (cut t) h1).0 in
    let h3 = (shuffled (cut (cut t)) h2).0 in
    shuffle-at three t h
    ∙ shuffle-at two (cut t) h1
    ∙ shuffle-at one (cut (cut t)) h2
    ∙ shuffle-at xs (cut (cut (cut t))) h3
    ∙ ap (λ (y : ℕ). get_or xs y 0) (shuffled t h).1
    ∙ sym (turned-at xs t h))

-- one symbol of each half more
pub shuffle-turn : (from to : List ℕ) (i : ℕ) → i < 128 → length to ≡ 256 → take (2 * i) to ≡ take (2 * i) (transposed_table 2 128 from)
    → take (2 * (i + 1)) (set (set to (2 * i) (get_or from i 0)) (2 * i + 1) (get_or from (128 + i) 0)) ≡ take (2 * (i + 1)) (transposed_table 2 128 from)
shuffle-turn from to i l long so =
    let t = transposed_table 2 128 from in
    let h : length t ≡ 256 = length-transposed 2 128 from in
    let even : get_or t (2 * i) 0 ≡ get_or from i 0 =
    ap (λ (y : ℕ). get_or t y 0) (let e : 2 * i ≡ i * 2 + 0 = omega arith in e)
    ∙ cell_at 2 128 i 0 from l (omega arith)
    ∙ ap (λ (y : ℕ). get_or from y 0) (let e : 0 * 128 + i ≡ i = omega arith in e) in
    let odd : get_or t (2 * i + 1) 0 ≡ get_or from (128 + i) 0 =
    ap (λ (y : ℕ). get_or t y 0) (let e : 2 * i + 1 ≡ i * 2 + 1 = omega arith in e) ∙ cell_at 2 128 i 1 from l (omega arith) in
    let one = set to (2 * i) (get_or t (2 * i) 0) in
    let first = fill-turn to t (2 * i) (omega arith) (omega arith) so in
    let both = fill-turn one t (2 * i + 1) (omega (arith, length-set to (2 * i) (get_or t (2 * i) 0))) (omega arith) first in
    let end : 2 * (i + 1) ≡ 2 * i + 1 + 1 = omega arith in
    rw (end, ← even, ← odd) both

pub shuffle-done : (from to : List ℕ) (i : ℕ) → 128 ≤ i → i ≤ 128 → length to ≡ 256
    → take (2 * i) to ≡ take (2 * i) (transposed_table 2 128 from) → to ≡ transposed_table 2 128 from
shuffle-done from to i h l long so =
    sym (take_all (2 * i) to (omega arith)) ∙ so ∙ take_all (2 * i) (transposed_table 2 128 from) (omega (arith, length-transposed 2 128 from))

-- ---- The tile

-- its lines lie within the table
pub tile-within : (rows columns left top : ℕ) (xs : List ℕ) → length xs ≡ rows * columns → left + 16 ≤ columns → top + 16 ≤ rows
    → LinesWithin (top * columns + left) columns xs
tile-within rows columns left top xs long hl ht =
    record { apart = omega arith; within = omega (arith, add-mul top 16 columns, mul-le-mul_right {m = top + 16} {n = rows} columns ht) }

pub tile-moved : (rows columns left top : ℕ) (from before after cells taken : List ℕ) → left + 16 ≤ columns → top + 16 ≤ rows
    → LinesCopied (top * columns + left) columns from 0 16 16 cells taken
    → LinesCopied 0 16 (transposed_table 16 16 taken) (left * rows + top) rows 16 before after
    → CellsMoved rows columns from before after left (left + 16) top (top + 16)
tile-moved rows columns left top from before after cells taken hl ht gathered put =
    record {
      size = put.size;
      inside = λ i j a b c d.
          let k = i - left in
          let x = j - top in
          let ek : left + k ≡ i = omega arith in
          let ex : top + x ≡ j = omega arith in
          let to : i * rows + j ≡ left * rows + top + k * rows + x = omega (arith, add-mul left k rows, ap (λ (y : ℕ). y * rows) ek) in
          let at : 0 + k * 16 + x ≡ k * 16 + x = omega arith in
          let at2 : 0 + x * 16 + k ≡ x * 16 + k = omega arith in
          let of : top * columns + left + x * columns + k ≡ j * columns + i = omega (arith, add-mul top x columns, ap (λ (y : ℕ). y * columns) ex) in
          ap (λ (y : ℕ). get_or after y 0) to
          ∙ put.inside k x (omega arith) (omega arith)
          ∙ ap (λ (y : ℕ). get_or (transposed_table 16 16 taken) y 0) at
          ∙ cell_at 16 16 k x taken (omega arith) (omega arith)
          ∙ ap (λ (y : ℕ). get_or taken y 0) (sym at2)
          ∙ gathered.inside x k (omega arith) (omega arith)
          ∙ ap (λ (y : ℕ). get_or from y 0) of;
      outside = λ i j hi hj out.
          put.outside (i * rows + j)
          (λ k x hk hx e.
          let f : i * rows + j ≡ (left + k) * rows + (top + x) = omega (arith, add-mul left k rows) in
          let p = same-column rows i j (left + k) (top + x) hj (omega arith) f in
          let q = same_row rows i j (left + k) (top + x) hj (omega arith) f in
          out (omega arith) (omega arith) (omega arith) (omega arith));
    }
