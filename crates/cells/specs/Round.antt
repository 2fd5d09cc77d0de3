-- Numbers below n, taken round: the one after a number, and the one that two neighbours give. Assumes nothing.
use Rattle.std.specs.Prelude.{cond, ◌&&◌, List, [], ◌∷◌, ℕ, suc, eqb}
use Rattle.std.proofs.Math.Option.{Option, none, some}

-- the one after i, of n: "part i+1, part 0 after the last"; "block j+1 of that part, block 0 after the last"; document 02, ticket 1: "the next part round"
unfoldable pub next : ℕ → ℕ → ℕ
next n i = cond (eqb (suc i) n) 0 (suc i)

-- of ascending numbers the one, or of two the later: "neighbours i and i+1 give i+1; parts 0 and p−1 give part 0", and "neighbours give the later and
-- blocks 0 and m − 1 give block 0"; every other list gives none
unfoldable pub later : ℕ → List ℕ → Option ℕ
later n [] = none
later n (i ∷ []) = some i
later n (i ∷ j ∷ []) = cond (eqb j (suc i)) (some j) (cond (eqb i 0 && eqb (suc j) n) (some 0) none)
later n (i ∷ j ∷ k ∷ r) = none
