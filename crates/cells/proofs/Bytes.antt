-- Laws of a byte's symbols: their number is the least of all that serve, for two symbols or more. Assumes nothing.
use mathlib.Core.Path.{◌≡◌, sym, ◌∙◌}
use mathlib.Core.Bool.{Bool, true≢false}
use Prim.Native.Nat.{ℕ, suc, ◌^◌, ◌≤◌, ◌<◌}
use native.Mathlib.Nat.{pow-zero, pow-le-pow_left}
use native.Mathlib.Omega.{arith}
use borrow.Author.Tests.{leb-true}
use lib.Dec.{leb}
use Rattle.combinatorics.proofs.Cases.{by_le, leb-holds}
use Rattle.combinatorics.proofs.Stretch.{first-true, first-false, first-within}
use Rattle.cells.specs.Bytes.{byte_values, max_byte_width, byte_width}

-- whether w symbols spell a byte
abbrev pub spells_byte : ℕ → ℕ → Bool
spells_byte q w = leb byte_values (q ^ w)

pub width-most : (q : ℕ) → byte_width q ≤ max_byte_width
unfolding byte_width
width-most q = first-within max_byte_width 0 (spells_byte q)

found : (q : ℕ) → byte_width q < max_byte_width → byte_values ≤ q ^ byte_width q
unfolding byte_width
found q l = leb-true byte_values (q ^ byte_width q) (first-true max_byte_width 0 (spells_byte q) l)

-- at least one symbol, since none spells but one value
pub width_some : (q : ℕ) → 0 < byte_width q
width_some q =
    by_le 1 (byte_width q) (λ _. 0 < byte_width q) (λ l. l)
    (λ l.
    let e : byte_width q ≡ 0 = omega arith in
    absurd (omega (arith, rw (e, pow-zero q) at (found q (omega arith)))))

-- so many do, for two symbols or more
pub width-enough : (q : ℕ) → 2 ≤ q → byte_values ≤ q ^ byte_width q
width-enough q h =
    by_le (suc (byte_width q)) max_byte_width (λ _. byte_values ≤ q ^ byte_width q) (found q)
    (λ l.
    let e : byte_width q ≡ max_byte_width = omega (arith, width-most q) in
    rw e (pow-le-pow_left h max_byte_width))

-- and no smaller number does, of all numbers
pub width-least : (q w : ℕ) → byte_values ≤ q ^ w → byte_width q ≤ w
unfolding byte_width
width-least q w h =
    by_le (byte_width q) w (λ _. byte_width q ≤ w) (λ l. l)
    (λ l. absurd (true≢false (sym (leb-holds byte_values (q ^ w) h) ∙ first-false max_byte_width 0 w (spells_byte q) (omega arith) l)))
