-- A part of a list that is lent from a position on, and comes back with its first elements stored. Assumes nothing.
use mathlib.Core.Path.{◌≡◌, ap, ◌∙◌}
use mathlib.Core.List.{List, ◌++◌}
use Prim.Native.Nat.{ℕ, ◌+◌, ◌-◌, ◌≤◌}
use native.Mathlib.Omega.{arith}
use lib.ListN.{length, take, drop, length-drop}
use lib.Seq.{take-append-add, take-append-le, length-take-le}
use borrow.Rule.Slice.PartMut.{put_mid, same_len_mid}
use Rattle.cells.proofs.Walk.{rest-is}

part-made : (x to : ℕ) (out part body : List ℕ) → x ≤ to → x ≤ length out → to - x ≤ length part → take (to - x) part ≡ body
    → take to (put_mid x (length out - x) out part) ≡ take x out ++ body
part-made x to out part body h l k e =
    let rest = drop (length out - x) (drop x out) in
    let size : to ≡ length (take x out) + (to - x) = omega (arith, length-take-le x out l) in
    ap (λ (y : ℕ). take y (take x out ++ (part ++ rest))) size
    ∙ take-append-add (take x out) (part ++ rest) (to - x)
    ∙ ap (λ (r : List ℕ). take x out ++ r) (take-append-le (to - x) part rest k ∙ e)

-- what is behind the part is not touched, and nothing before it
pub part-put : (x to : ℕ) (out part body : List ℕ) → x ≤ to → to ≤ length out → length part ≡ length (take (length out - x) (drop x out))
    → take (to - x) part ≡ body
    → (take to (put_mid x (length out - x) out part) ≡ take x out ++ body) × (length (put_mid x (length out - x) out part) ≡ length out)
part-put x to out part body up room size made =
    let whole : length part ≡ length out - x = size ∙ ap length (rest-is x out) ∙ length-drop x out in
    (part-made x to out part body up (omega arith) (omega (arith, whole)) made, same_len_mid x (length out - x) out part size)
