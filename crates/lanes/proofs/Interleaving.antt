-- Laying side by side and taking apart are each other's inverse, and what stands where. Assumes nothing.
use mathlib.Core.Path.{◌≡◌, refl, sym, ap, ◌∙◌}
use mathlib.Core.Bool.{true}
use mathlib.Core.List.{List, flat_map}
use Prim.Native.Nat.{ℕ, zero, suc, ◌+◌, ◌*◌, ◌/◌, ◌%◌, ◌≤◌, ◌<◌}
use native.Mathlib.Nat.{mul_comm, mul-le-mul_right, div-lt_iff_lt-mul, mod-lt, div-add-mod'}
use native.Mathlib.Omega.{arith}
use lib.Arith.{digits_lt, digits_div, digits_mod}
use lib.Dec.{ltb}
use lib.ListN.{length, get_or, drop, length-append, length-drop, get_or-append}
use lib.Seq.{get_or-take, get_or-drop, length-take-le, get_or-append-add, ext_get_or}
use Rattle.combinatorics.specs.Lists.{all, all_below}
use Rattle.combinatorics.specs.Stretch.{tabulate, consecutive}
use Rattle.combinatorics.proofs.Lists.{below_at, some_below, at-below, all_append, all_take, all_drop}
use Rattle.combinatorics.proofs.Members.{length-tabulate, tabulate-at}
use Rattle.lanes.specs.Interleaving.{source, transposed_table, interleaved, deinterleaved, lane}

-- ---- A table and its columns

pub length-transposed : (rows columns : ℕ) (xs : List ℕ) → length (transposed_table rows columns xs) ≡ rows * columns
unfolding transposed_table
length-transposed rows columns xs = length-tabulate (rows * columns) 0 (λ t. get_or xs (source rows columns t) 0)

-- what stood in row j, column i
pub cell_at : (rows columns i j : ℕ) (xs : List ℕ) → i < columns → j < rows
    → get_or (transposed_table rows columns xs) (i * rows + j) 0 ≡ get_or xs (j * columns + i) 0
unfolding transposed_table
cell_at rows columns i j xs hi hj =
    let t = i * rows + j in
    let z : 0 + t ≡ t = omega arith in
    tabulate-at (rows * columns) 0 t (λ t. get_or xs (source rows columns t) 0) (omega (arith, digits_lt hi hj, mul_comm rows columns))
    ∙ rw (z, digits_mod i hj, digits_div i hj)

pub transposed-twice : (rows columns : ℕ) (xs : List ℕ) → length xs ≡ rows * columns → transposed_table columns rows (transposed_table rows columns xs) ≡ xs
transposed-twice rows columns xs e =
    ext_get_or 0 (transposed_table columns rows (transposed_table rows columns xs)) xs
    (length-transposed columns rows (transposed_table rows columns xs) ∙ mul_comm columns rows ∙ sym e)
    (λ t l. here t (omega (arith, length-transposed columns rows (transposed_table rows columns xs), mul_comm columns rows)))
  where
    some : (t : ℕ) → t < rows * columns → 0 < columns
    some t l = go columns l
      where
        go : (c : ℕ) → t < rows * c → 0 < c
        go zero l = absurd (omega arith)
        go (suc c) l = omega arith

    here : (t : ℕ) → t < rows * columns → get_or (transposed_table columns rows (transposed_table rows columns xs)) t 0 ≡ get_or xs t 0
    here t l =
        let s = some t l in
        let i : t % columns < columns = mod-lt t s in
        let j : t / columns < rows = (div-lt_iff_lt-mul s).1 l in
        let d = div-add-mod' t columns in
        ap (λ (y : ℕ). get_or (transposed_table columns rows (transposed_table rows columns xs)) y 0) (sym d)
        ∙ cell_at columns rows (t / columns) (t % columns) (transposed_table rows columns xs) j i
        ∙ cell_at rows columns (t % columns) (t / columns) xs i j
        ∙ ap (λ (y : ℕ). get_or xs y 0) d

-- symbols below q stay so
pub transposed-below : (q rows columns : ℕ) (xs : List ℕ) → length xs ≡ rows * columns → all_below q xs ≡ true
    → all_below q (transposed_table rows columns xs) ≡ true
unfolding transposed_table
transposed-below q rows columns xs e h =
    let at : ℕ → ℕ = λ t. get_or xs (source rows columns t) 0 in
    at-below q (tabulate (rows * columns) 0 at)
    (λ x l.
    let k : x < rows * columns = omega (arith, length-tabulate (rows * columns) 0 at) in
    rw (tabulate-at (rows * columns) 0 x at k) (below_at q xs (some_below q xs h (omega arith)) h (source rows columns (0 + x))))

-- ---- Words one after another

pub lane-at : (n j i : ℕ) (xs : List ℕ) → i < n → get_or (lane n j xs) i 0 ≡ get_or xs (j * n + i) 0
unfolding lane
lane-at n j i xs h = get_or-take n (drop (j * n) xs) i 0 h ∙ get_or-drop (j * n) xs i 0

pub length-lane : (n d j : ℕ) (xs : List ℕ) → length xs ≡ d * n → j < d → length (lane n j xs) ≡ n
unfolding lane
length-lane n d j xs e h =
    let l : suc j * n ≤ d * n = mul-le-mul_right n h in
    length-take-le n (drop (j * n) xs) (omega (arith, length-drop (j * n) xs))

pub lane_below : (q n j : ℕ) (xs : List ℕ) → all_below q xs ≡ true → all_below q (lane n j xs) ≡ true
unfolding lane
lane_below q n j xs h = all_take (λ x. ltb x q) n (drop (j * n) xs) (all_drop (λ x. ltb x q) (j * n) xs h)

-- words of n symbols put one after another
pub words-at : (n d k j i : ℕ) (g : ℕ → List ℕ) → ((x : ℕ) → k ≤ x → x < k + d → length (g x) ≡ n) → j < d → i < n
    → get_or (flat_map g (consecutive d k)) (j * n + i) 0 ≡ get_or (g (k + j)) i 0
unfolding flat_map tabulate
words-at n zero k j i g long hj hi = absurd (omega arith)
words-at n (suc d) k zero i g long hj hi =
    let z : 0 * n + i ≡ i = omega arith in
    let y : k + 0 ≡ k = omega arith in
    rw (z, y) (get_or-append (g k) (flat_map g (consecutive d (suc k))) 0 i (omega (arith, long k (omega arith) (omega arith))))
words-at n (suc d) k (suc j) i g long hj hi =
    let z : suc j * n + i ≡ length (g k) + (j * n + i) = omega (arith, long k (omega arith) (omega arith)) in
    let y : k + suc j ≡ suc k + j = omega arith in
    rw (z, y) (get_or-append-add (g k) (flat_map g (consecutive d (suc k))) (j * n + i) 0
    ∙ words-at n d (suc k) j i g (λ x a b. long x (omega arith) (omega arith)) (omega arith) hi)

pub length-words : (n d k : ℕ) (g : ℕ → List ℕ) → ((x : ℕ) → k ≤ x → x < k + d → length (g x) ≡ n) → length (flat_map g (consecutive d k)) ≡ d * n
unfolding flat_map tabulate
length-words n zero k g long = omega arith
length-words n (suc d) k g long =
    omega (
      arith,
      length-append (g k) (flat_map g (consecutive d (suc k))),
      long k (omega arith) (omega arith),
      length-words n d (suc k) g (λ x a b. long x (omega arith) (omega arith)),
    )

pub words-below : (q d k : ℕ) (g : ℕ → List ℕ) → ((x : ℕ) → k ≤ x → x < k + d → all_below q (g x) ≡ true) → all_below q (flat_map g (consecutive d k)) ≡ true
unfolding flat_map tabulate all
words-below q zero k g h = refl
words-below q (suc d) k g h =
    all_append (λ x. ltb x q) (g k) (flat_map g (consecutive d (suc k))) (h k (omega arith) (omega arith))
    (words-below q d (suc k) g (λ x a b. h x (omega arith) (omega arith)))

-- each of them is a lane
pub lane-of-words : (n d j : ℕ) (g : ℕ → List ℕ) → ((x : ℕ) → x < d → length (g x) ≡ n) → j < d → lane n j (flat_map g (consecutive d 0)) ≡ g j
lane-of-words n d j g long hj =
    let words = flat_map g (consecutive d 0) in
    let whole = length-lane n d j words (length-words n d 0 g (λ x _ l. long x (omega arith))) hj in
    let z : 0 + j ≡ j = omega arith in
    ext_get_or 0 (lane n j words) (g j) (whole ∙ sym (long j hj))
    (λ i l. lane-at n j i words (omega (arith, whole))
    ∙ words-at n d 0 j i g (λ x _ l. long x (omega arith)) hj (omega (arith, whole)) ∙ ap (λ (x : ℕ). get_or (g x) i 0) z)

-- ---- "strip cell t holds symbol t/d (rounded down) of word t mod d"

-- symbol i of word j is the strip's cell i × d + j
pub strip-cell : (d n i j : ℕ) (words : List ℕ) → i < n → j < d → get_or (interleaved d n words) (i * d + j) 0 ≡ get_or words (j * n + i) 0
strip-cell d n i j words hi hj = cell_at d n i j words hi hj

pub word_cell : (d n i j : ℕ) (strip : List ℕ) → i < n → j < d → get_or (lane n j (deinterleaved d n strip)) i 0 ≡ get_or strip (i * d + j) 0
word_cell d n i j strip hi hj = lane-at n j i (deinterleaved d n strip) hi ∙ cell_at n d j i strip hj hi

-- "the rearrangement and its inverse"
pub apart-again : (d n : ℕ) (words : List ℕ) → length words ≡ d * n → deinterleaved d n (interleaved d n words) ≡ words
apart-again d n words e = transposed-twice d n words e

pub together-again : (d n : ℕ) (strip : List ℕ) → length strip ≡ d * n → interleaved d n (deinterleaved d n strip) ≡ strip
together-again d n strip e = transposed-twice n d strip (e ∙ mul_comm d n)
