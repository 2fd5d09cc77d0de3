-- Laws of starts in bytes: written and read back they are the same, and how a loop reads them; and how many there are. Assumes nothing.
use mathlib.Core.Path.{◌≡◌, refl, sym, ap, ◌∙◌}
use mathlib.Core.Bool.{true, ◌&&◌}
use mathlib.Core.List.{List, [], ◌∷◌}
use Prim.Native.Nat.{ℕ, zero, suc, ◌+◌, ◌*◌, ◌/◌, ◌%◌, ◌≤◌, ◌<◌}
use native.Mathlib.Omega.{arith}
use borrow.Author.Tests.{leb-true}
use lib.Dec.{ltb}
use lib.ListN.{length, get_or}
use lib.Seq.{take_all}
use Rattle.combinatorics.specs.Lists.{all, all_below}
use Rattle.combinatorics.proofs.Lists.{both}
use Rattle.combinatorics.proofs.Members.{take-is}
use Rattle.cells.specs.Bytes.{byte_values}
use Rattle.cells.specs.Figures.{Params, max_bursts, in_range}
use Rattle.cells.proofs.Figures.{ranged}
use Rattle.codes.specs.declared.Figures.{Figures}
use Rattle.codes.specs.declared.Figures.TheVariants.{Ranked, Long, Larsson}
use Rattle.params.specs.Bridge.{given}
use Rattle.codes.specs.Bridge.{coding_of}
use Rattle.placements.specs.Bridge.{starts_at}
use Rattle.decoder.specs.Exported.{start_bytes}
use Rattle.lent.specs.Starts.{starts_from}

-- ---- There and back

pub starts-back : (ss : List ℕ) → starts_from (start_bytes ss) ≡ ss
unfolding starts_from start_bytes
starts-back [] = refl
starts-back (s ∷ ss) =
    let e : s / byte_values * byte_values + s % byte_values ≡ s = omega arith in
    rw (e, starts-back ss)

-- two numbers of one byte each
high_byte : (x y : ℕ) → y < byte_values → (x * byte_values + y) / byte_values ≡ x
high_byte x y h = omega arith

low_byte : (x y : ℕ) → y < byte_values → (x * byte_values + y) % byte_values ≡ y
low_byte x y h = omega arith

pub bytes_back : (bs : List ℕ) (m : ℕ) → length bs ≡ 2 * m → all_below byte_values bs ≡ true → start_bytes (starts_from bs) ≡ bs
unfolding starts_from start_bytes all
bytes_back [] m e h = refl
bytes_back (x ∷ []) m e h = absurd (omega arith)
bytes_back (x ∷ y ∷ bs) zero e h = absurd (omega arith)
bytes_back (x ∷ y ∷ bs) (suc m) e h =
    let b = both (ltb x byte_values) (ltb y byte_values && all_below byte_values bs) h in
    let d = both (ltb y byte_values) (all_below byte_values bs) b.1 in
    let l : y < byte_values = leb-true (suc y) byte_values d.0 in
    rw (high_byte x y l, low_byte x y l, bytes_back bs m (omega arith) d.1)

-- ---- As a loop reads them

pub length-starts : (bs : List ℕ) (m : ℕ) → length bs ≡ 2 * m → length (starts_from bs) ≡ m
unfolding starts_from
length-starts [] m e = omega arith
length-starts (x ∷ []) m e = absurd (omega arith)
length-starts (x ∷ y ∷ bs) zero e = absurd (omega arith)
length-starts (x ∷ y ∷ bs) (suc m) e = ap suc (length-starts bs m (omega arith))

pub start-at : (bs : List ℕ) (j : ℕ) → 2 * j + 1 < length bs → get_or (starts_from bs) j 0 ≡ get_or bs (2 * j) 0 * byte_values + get_or bs (2 * j + 1) 0
unfolding starts_from
start-at [] j h = absurd (omega arith)
start-at (x ∷ []) j h = absurd (omega arith)
start-at (x ∷ y ∷ bs) zero h = refl
start-at (x ∷ y ∷ bs) (suc j) h =
    let d : 2 * suc j + 1 ≡ suc (suc (2 * j + 1)) = omega arith in
    let e : 2 * suc j ≡ suc (suc (2 * j)) = omega arith in
    rw (d, e) (start-at bs j (omega arith))

-- so that read one by one they are these
pub starts-read : (bs : List ℕ) (m : ℕ) → length bs ≡ 2 * m → starts_at bs 0 m ≡ starts_from bs
starts-read bs m e =
    let size = length-starts bs m e in
    sym (take-is m 0 (starts_from bs) (λ i. get_or bs (0 + 2 * i) 0 * byte_values + get_or bs (0 + 2 * i + 1) 0) (omega (arith, size))
    (λ j h. let z : 0 + 2 * (0 + j) ≡ 2 * j = omega arith in rw z (start-at bs j (omega arith))))
    ∙ take_all m (starts_from bs) (omega (arith, size))

-- ---- How many: figures in range have a burst, and no more than a placement holds

pub as_many : (f : Params) → in_range f ≡ true → (1 ≤ f.m) × (f.m ≤ max_bursts)
as_many f i = let r = ranged f i in (r.m-least, r.m-most)

pub some-bursts : (f : Figures) → (coding_of f).in_range ≡ true → (1 ≤ (coding_of f).bursts) × ((coding_of f).bursts ≤ max_bursts)
some-bursts (Ranked p) i = as_many (given p) i
some-bursts (Long p) i = (omega arith, omega arith)
some-bursts (Larsson p) i = as_many (given p) i
