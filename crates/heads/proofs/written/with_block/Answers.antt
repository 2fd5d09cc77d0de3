-- `with_block` meets its contract: the lead digit is taken in, and then the plain ones. Assumes nothing.
use mathlib.Core.Path.{◌≡◌, ap, ◌∙◌}
use Prim.Native.Nat.{ℕ, suc, ◌+◌, ◌-◌, ◌<◌}
use native.Mathlib.Omega.{arith}
use lib.ListN.{length, get_or, take, drop, length-drop}
use lib.Seq.{get_or-take, get_or-drop, length-take-le}
use Rattle.heads.proofs.Valued.{block-digits}
use Rattle.heads.proofs.written.with_block.Goals as goal

pub returns : goal.returns
returns c =
    let a = c.args in
    let w = a.block.now in
    let n : a.tail + 1 - 1 ≡ a.tail = omega arith in
    let ds = take (a.tail + 1 - 1) (drop 1 w) in
    let size : length ds ≡ a.tail = length-take-le (a.tail + 1 - 1) (drop 1 w) (omega (arith, length-drop 1 w, c.requires.room)) ∙ n in
    let at : (i : ℕ) → i < a.tail → get_or ds i 0 ≡ get_or w (suc i) 0 =
    λ i l. get_or-take (a.tail + 1 - 1) (drop 1 w) i 0 (omega arith) ∙ get_or-drop 1 w i 0
    ∙ ap (λ (y : ℕ). get_or w y 0) (let e : 1 + i ≡ suc i = omega arith in e) in
    rw (c.with_digit-value.ensures, block-digits a.q a.tail a.cap a.high c.requires.alphabet w ds size at c.requires.room)
    at c.with_digits.ensures
