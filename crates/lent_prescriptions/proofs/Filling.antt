-- A lent buffer whose last places are stored one after the other holds what was stored. Assumes nothing.
use mathlib.Core.Path.{◌≡◌, ap, ◌∙◌}
use mathlib.Core.List.{List, ◌++◌, append-nil}
use Prim.Native.Nat.{ℕ, ◌+◌}
use native.Mathlib.Omega.{arith}
use lib.ListN.{length, take, drop_of_length-le}
use lib.Seq.{sets, sets-eq}

pub stored-all : {A : Type 0} (vs l : List A) (i : ℕ) → length l ≡ i + length vs → sets l i vs ≡ take i l ++ vs
stored-all {A} vs l i e =
    sets-eq vs l i (omega arith)
    ∙ ap (λ (r : List A). take i l ++ vs ++ r) (drop_of_length-le l {i = i + length vs} (omega arith))
    ∙ append-nil (take i l ++ vs)
