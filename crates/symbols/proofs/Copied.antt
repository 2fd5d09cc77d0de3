-- Laws of copying the first symbols of a list over another's, part by part. Assumes nothing.
use mathlib.Core.Path.{◌≡◌, sym, ap, ap₂, ◌∙◌, subst}
use mathlib.Core.List.{List, ◌++◌}
use Prim.Native.Nat.{ℕ, ◌+◌, ◌-◌, ◌≤◌}
use native.Mathlib.Omega.{arith}
use lib.ListN.{length, take, drop, length-drop}
use lib.Seq.{take_all, take-add, take-append-add, take-append-le, length-take-le, take-take}
use borrow.Rule.Slice.PartMut.{put_mid}

-- a part more: what is copied so far, and the first symbols of a part from there on; what lies behind them may be anything
pub copied-turn : (d n : ℕ) (out t part : List ℕ) → d ≤ length out → n ≤ length part → take d out ≡ take d t
    → take n part ≡ take n (take (length t - d) (drop d t))
    → take (d + n) (put_mid d (length out - d) out part) ≡ take (d + n) t
copied-turn d n out t part l k e f =
    let p = take d out in
    let rest = drop (length out - d) (drop d out) in
    let size : d + n ≡ length p + n = omega (arith, length-take-le d out l) in
    let left : take (length t - d) (drop d t) ≡ drop d t = take_all (length t - d) (drop d t) (omega (arith, length-drop d t)) in
    ap (λ (x : ℕ). take x (p ++ (part ++ rest))) size
    ∙ take-append-add p (part ++ rest) n
    ∙ ap₂ {C = List ℕ} ◌++◌ e (take-append-le n part rest k ∙ f ∙ ap (take n) left)
    ∙ sym (take-add d n t)

-- part of what is copied
fewer : (len d : ℕ) (out t : List ℕ) → len ≤ d → take d out ≡ take d t → take len out ≡ take len t
fewer len d out t h e = sym (take-take len d out h) ∙ ap (take len) e ∙ take-take len d t h

-- the last part, which may lie over some of what is copied so far
pub copied-last : (d n len : ℕ) (out t part : List ℕ) → n ≤ len → len - n ≤ d → len ≤ length out → n ≤ length part → take d out ≡ take d t
    → take n part ≡ take n (take (length t - (len - n)) (drop (len - n) t))
    → take len (put_mid (len - n) (length out - (len - n)) out part) ≡ take len t
copied-last d n len out t part s h l k e f =
    let all : (len - n) + n ≡ len = omega arith in
    subst (λ (x : ℕ). take x (put_mid (len - n) (length out - (len - n)) out part) ≡ take x t) all
    (copied-turn (len - n) n out t part (omega arith) k (fewer (len - n) d out t h e) f)
