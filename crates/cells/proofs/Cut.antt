-- Laws of cutting: pieces follow one another, no two lengths differ by more than one, and shorter ones come first; blocks of parts likewise; and
-- which blocks' first positions a burst can touch. Assumes nothing.
use mathlib.Core.Path.{◌≡◌, refl, ap, ◌∙◌}
use Prim.Native.Nat.{ℕ, zero, suc, ◌+◌, ◌-◌, ◌*◌, ◌/◌, ◌%◌, ◌≤◌, ◌<◌}
use native.Mathlib.Nat.{add-mul, mul-add, div-lt_iff_lt-mul, lt-div-mul-add, div-add-mod, div-add-mod', mod-lt, le-div_iff_mul-le, div-mul-le_self}
use native.Mathlib.Nat.{div-div-eq-div-mul, le_trans, mul-le-mul_right}
use native.Mathlib.Decide.{le_ind}
use native.Mathlib.Omega.{arith}
use lib.Arith.{digits_div, digits_mod}
use lib.Dec.{leb}
use Rattle.combinatorics.specs.Stretch.{sum, bit}
use Rattle.combinatorics.proofs.Cases.{by_le}
use Rattle.combinatorics.proofs.Stretch.{IsTop, top-is, top-only, sum-next}
use Rattle.cells.specs.Cut.{piece_len, piece_start, block_at, block_head, block_with}

-- ---- Pieces

pub piece-zero : (t c : ℕ) → piece_start t c 0 ≡ 0
unfolding piece_start sum
piece-zero t c = refl

-- the pieces follow one another
pub piece-next : (t c i : ℕ) → piece_start t c (suc i) ≡ piece_start t c i + piece_len t c i
unfolding piece_start
piece-next t c i = sum-next i (piece_len t c)

-- as one expression: the quotient each, and one more from the first longer piece on
pub piece_is : (t c i : ℕ) → piece_start t c i ≡ i * (t / c) + (i - (c - t % c))
unfolding piece_len
piece_is t c zero = piece-zero t c ∙ omega arith
piece_is t c (suc i) =
    rw (piece-next t c i, piece_is t c i)
    (by_le (c - t % c) i (λ b. i * (t / c) + (i - (c - t % c)) + (t / c + bit b) ≡ suc i * (t / c) + (suc i - (c - t % c))) (λ h. omega arith)
    (λ h. omega arith))

-- together they have the whole length
pub piece-all : (t c : ℕ) → 0 < c → piece_start t c c ≡ t
piece-all t c h = piece_is t c c ∙ omega (arith, div-add-mod t c, mod-lt t h)

-- and none starts past the end
pub piece-most : (t c i : ℕ) → 0 < c → i ≤ c → piece_start t c i ≤ t
piece-most t c i h l = rw (piece_is t c i) (omega (arith, mul-le-mul_right (t / c) l, div-add-mod t c, mod-lt t h))

-- "shorter ones first", "lengths differ by at most one"
pub len_grows : (t c i : ℕ) → piece_len t c i ≤ piece_len t c (suc i)
unfolding piece_len
len_grows t c i =
    by_le (c - t % c) i (λ a. t / c + bit a ≤ t / c + bit (leb (c - t % c) (suc i)))
    (λ h. by_le (c - t % c) (suc i) (λ a. t / c + 1 ≤ t / c + bit a) (λ _. omega arith) (λ k. absurd (omega arith))) (λ h. omega arith)

pub len-least : (t c i : ℕ) → t / c ≤ piece_len t c i
unfolding piece_len
len-least t c i = omega arith

pub len-most : (t c i : ℕ) → piece_len t c i ≤ t / c + 1
unfolding piece_len
len-most t c i = by_le (c - t % c) i (λ a. t / c + bit a ≤ t / c + 1) (λ _. omega arith) (λ _. omega arith)

-- ---- The piece that has a position

pub record InPiece (t c x r : ℕ) : Type 0 where
  pub below : r < c
  pub reach : piece_start t c r ≤ x
  pub past : x < piece_start t c (suc r)

module _ (t c x : ℕ) (some : 0 < c) where
  -- among the shorter pieces
  pub piece-short : 0 < t / c → x < (c - t % c) * (t / c) → InPiece t c x (x / (t / c))
  piece-short h l =
      let r = x / (t / c) in
      let g : r < c - t % c = (div-lt_iff_lt-mul h).1 l in
      record {
        below = omega arith;
        reach = omega (arith, piece_is t c r, div-mul-le_self x (t / c));
        past = omega (arith, piece_is t c (suc r), lt-div-mul-add {a = x} h);
      }

  -- among the longer ones
  pub piece-long : (c - t % c) * (t / c) ≤ x → x < t → InPiece t c x (c - t % c + (x - (c - t % c) * (t / c)) / (t / c + 1))
  piece-long l h =
      let each = t / c in
      let few = c - t % c in
      let y = x - few * each in
      let e = y / (each + 1) in
      let u : c ≡ few + t % c = omega (arith, mod-lt t some) in
      let whole : t ≡ few * each + t % c * each + t % c = omega (arith, div-add-mod t c, ap (λ (z : ℕ). z * each) u, add-mul few (t % c) each) in
      let z : 0 < each + 1 = omega arith in
      let v : y < t % c * (each + 1) = omega (arith, mul-add (t % c) each 1) in
      let g : e < t % c = (div-lt_iff_lt-mul z).1 v in
      let s : (few + e) * each ≡ few * each + e * each = add-mul few e each in
      let d : e * (each + 1) ≡ e * each + e = omega (arith, mul-add e each 1) in
      record {
        below = omega arith;
        reach = omega (arith, piece_is t c (few + e), div-mul-le_self y (each + 1));
        past = omega (arith, piece_is t c (suc (few + e)), lt-div-mul-add {a = y} z);
      }

-- ---- Blocks

block-wrap : (n p m i : ℕ) → 0 < m → block_at n p m i m ≡ block_at n p m (suc i) 0
unfolding block_at
block-wrap n p m i h = omega (arith, piece-all (piece_len n p i) m h, piece-zero (piece_len n p (suc i)) m, piece-next n p i)

pub block-place : (n p m i j k : ℕ) → k ≡ i * m + j → j < m → block_head n p m k ≡ block_at n p m i j
unfolding block_head
block-place n p m i j k e l = rw (e, digits_div i l, digits_mod i l)

-- the blocks follow one another
pub block-suc : (n p m k : ℕ) → 0 < m → block_head n p m (suc k) ≡ block_at n p m (k / m) (suc (k % m))
block-suc n p m k h =
    by_le m (suc (k % m)) (λ _. block_head n p m (suc k) ≡ block_at n p m (k / m) (suc (k % m)))
    (λ l.
    let e : suc (k % m) ≡ m = omega (arith, mod-lt k h) in
    rw (e, block-wrap n p m (k / m) h) (block-place n p m (suc (k / m)) 0 (suc k) (omega (arith, div-add-mod' k m)) h))
    (λ l. block-place n p m (k / m) (suc (k % m)) (suc k) (omega (arith, div-add-mod' k m)) l)

div_mono : (a b m : ℕ) → 0 < m → a ≤ b → a / m ≤ b / m
div_mono a b m h l = (le-div_iff_mul-le {x = a / m} {y = b} h).1 (le_trans (div-mul-le_self a m) l)

pub block-next : (n p m k : ℕ) → 0 < m → block_head n p m k + n / (p * m) ≤ block_head n p m (suc k)
unfolding block_head block_at
block-next n p m k h =
    let i = k / m in
    rw (block-suc n p m k h, ← div-div-eq-div-mul n p m)
    (omega (arith, piece-next (piece_len n p i) m (k % m), len-least (piece_len n p i) m (k % m), div_mono (n / p) (piece_len n p i) m h (len-least n p i)))

pub block-first : (n p m : ℕ) → 0 < m → block_head n p m 0 ≡ 0
unfolding block_at
block-first n p m h = block-place n p m 0 0 0 (omega arith) h ∙ omega (arith, piece-zero n p, piece-zero (piece_len n p 0) m)

pub block-end : (n p m : ℕ) → 0 < p → 0 < m → block_head n p m (p * m) ≡ n
unfolding block_at
block-end n p m g h = block-place n p m p 0 (p * m) (omega arith) h ∙ omega (arith, piece-all n p g, piece-zero (piece_len n p p) m)

pub block-rises : (n p m : ℕ) → 0 < m → (a b : ℕ) → a ≤ b → block_head n p m a ≤ block_head n p m b
block-rises n p m h a b l =
    le_ind (λ (k : ℕ). block_head n p m a ≤ block_head n p m k) (omega arith) (λ k _ g. omega (arith, block-next n p m k h)) b l

-- none starts past the end
pub block-most : (n p m k : ℕ) → 0 < p → 0 < m → k ≤ p * m → block_head n p m k ≤ n
block-most n p m k g h l = omega (arith, block-rises n p m h k (p * m) l, block-end n p m g h)

-- the block that has position x
pub block-with : (n p m x : ℕ) → 0 < p → 0 < m → x < n → IsTop (block_head n p m) (p * m) x (block_with n p m x)
unfolding block_with
block-with n p m x g h l = top-is (block_head n p m) (p * m) x (omega (arith, block-first n p m h)) (omega (arith, block-end n p m g h))

pub block_in : (n p m x k : ℕ) → 0 < p → 0 < m → k < p * m → block_head n p m k ≤ x → x < block_head n p m (suc k) → block_with n p m x ≡ k
block_in n p m x k hp hm l reach past =
    let inside : x < n = omega (arith, block-most n p m (suc k) hp hm l) in
    top-only (block_head n p m) (block-rises n p m hm) (block-with n p m x hp hm inside) record { below = l; reach = reach; past = past }

-- a burst of b positions from s on, which ends in block e, touches the first r + 1 positions of no other block
pub burst-touches : (n p m r b s e k x : ℕ) → 0 < m → r < n / (p * m) → b ≤ n / (p * m) - r
    → IsTop (block_head n p m) (p * m) (s + b - 1) e → s ≤ x → x < s + b → block_head n p m k ≤ x → x < block_head n p m k + suc r → k ≡ e
burst-touches n p m r b s e k x h hr hb t l₁ l₂ l₃ l₄ =
    let after : ¬ (e < k) = λ g. omega (arith, t.past, block-rises n p m h (suc e) k g) in
    let before : ¬ (k < e) = λ g. omega (arith, t.reach, block-next n p m k h, block-rises n p m h (suc k) e g) in
    omega arith
