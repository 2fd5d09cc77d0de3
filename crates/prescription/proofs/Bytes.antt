-- The two bytes of a number in a text. Assumes nothing.
use Rattle.std.proofs.Common.{◌≡◌, ℕ, zero, suc, ◌+◌, ◌/◌, ◌%◌, ◌<◌, ◌≤◌, List, [], ◌∷◌, length, set, refl, sym, ap, ◌∙◌, arith}
use Rattle.std.specs.Int.{w16, to_be_bytes}
use borrow.Rule.Slice.PartMut.{put_mid}

two-put : (t : List ℕ) (a x y : ℕ) → a + 2 ≤ length t → put_mid a 2 t (x ∷ y ∷ []) ≡ set (set t a x) (suc a) y
two-put [] a x y h = absurd (omega arith)
two-put (p ∷ []) zero x y h = absurd (omega arith)
two-put (p ∷ q ∷ t) zero x y h = refl
two-put (p ∷ t) (suc a) x y h = ap (λ (s : List ℕ). p ∷ s) (two-put t a x y (omega arith))

high-low : (n : ℕ) → n < 65536 → to_be_bytes w16 n ≡ n / 256 ∷ n % 256 ∷ []
high-low n h = ap (λ (x : ℕ). x ∷ n % 256 ∷ []) (within n h)
  where
    within : (n : ℕ) → n < 65536 → n / 256 % 256 ≡ n / 256
    within n h = omega arith

-- a number of 16 bits in the part of k bytes from a on
pub bytes-put : (t : List ℕ) (a b k n : ℕ) (bytes : List ℕ) → b ≡ suc a → k ≡ 2 → bytes ≡ to_be_bytes w16 n → n < 65536 → a + 2 ≤ length t
    → put_mid a k t bytes ≡ set (set t a (n / 256)) b (n % 256)
bytes-put t a b k n bytes next two is small h =
    ap (λ (j : ℕ). put_mid a j t bytes) two
    ∙ ap (put_mid a 2 t) (is ∙ high-low n small)
    ∙ two-put t a (n / 256) (n % 256) h
    ∙ ap (λ (j : ℕ). set (set t a (n / 256)) j (n % 256)) (sym next)
