-- Laws of the search for a listed pattern: candidates, the later of two, and the index blocks as an array. Assumes nothing.
use mathlib.Core.Path.{◌≡◌, refl, sym, ap, ◌∙◌}
use mathlib.Core.Logic.{◌≢◌}
use mathlib.Core.Bool.{Bool, true, false, cond, ◌&&◌}
use mathlib.Core.List.{List, [], ◌∷◌, ◌++◌, append-nil}
use mathlib.Core.Option.{Option, none, some}
use Prim.Native.Nat.{ℕ, zero, suc, ◌+◌, ◌*◌, ◌≤◌, ◌<◌}
use native.Mathlib.Omega.{arith}
use lib.Dec.{eqb}
use lib.ListN.{length, get_or, length-append}
use Rattle.combinatorics.specs.Stretch.{members, consecutive}
use Rattle.combinatorics.proofs.Cases.{by_le, eqb_same, eqb-other, leb-holds, leb-fails}
use Rattle.combinatorics.proofs.Members.{members-on, members-most, length-members}
use Rattle.combinatorics.proofs.Stretch.{count-le}
use Rattle.cells.specs.Round.{later}
use Rattle.construction_a.specs.Reading.{bare_parts, open_blocks, index_in_part, cons_both, collect, index_by, index_found}
use Rattle.heads.specs.declared.pattern.Candidates.{Candidates}
use Rattle.heads.specs.Patterns.{candidates_of}

-- ---- The candidates of a list

module _ (c : Candidates) (xs : List ℕ) (e : c ≡ candidates_of xs) where
  pub count-is : c.count ≡ length xs
  count-is = ap (λ (y : Candidates). y.count) e

  first-is : c.first ≡ get_or xs 0 0
  first-is = ap (λ (y : Candidates). y.first) e

  second_is : c.second ≡ get_or xs 1 0
  second_is = ap (λ (y : Candidates). y.second) e

  -- one more
  module _ (x : ℕ) where
    pub candidates-first : c.count ≡ 0 → record { count = 1; first = x; second = 0 } ≡ candidates_of (xs ++ (x ∷ []))
    candidates-first h = go xs (sym count-is ∙ h)
      where
        go : (ys : List ℕ) → length ys ≡ 0 → record { count = 1; first = x; second = 0 } ≡ candidates_of (ys ++ (x ∷ []))
        go [] z = refl
        go (y ∷ ys) z = absurd (omega arith)

    pub candidates-second : c.count ≡ 1 → record { count = 2; first = c.first; second = x } ≡ candidates_of (xs ++ (x ∷ []))
    candidates-second h = rw first-is (go xs (sym count-is ∙ h))
      where
        go : (ys : List ℕ) → length ys ≡ 1 → record { count = 2; first = get_or ys 0 0; second = x } ≡ candidates_of (ys ++ (x ∷ []))
        go [] z = absurd (omega arith)
        go (y ∷ []) z = refl
        go (y ∷ z ∷ zs) u = absurd (omega arith)

    pub candidates-more : c.count ≢ 0 → c.count ≢ 1 → record { count = c.count + 1; first = c.first; second = c.second } ≡ candidates_of (xs ++ (x ∷ []))
    candidates-more f g = rw (count-is, first-is, second_is) (go xs (λ z. f (count-is ∙ z)) (λ z. g (count-is ∙ z)))
      where
        go : (ys : List ℕ) → length ys ≢ 0 → length ys ≢ 1 → record { count = length ys + 1; first = get_or ys 0 0; second = get_or ys 1 0 } ≡ candidates_of
            (ys ++ (x ∷ []))
        go [] u v = absurd (u refl)
        go (y ∷ []) u v = absurd (v refl)
        go (y ∷ z ∷ zs) u v =
            let n : length (y ∷ z ∷ zs) + 1 ≡ length ((y ∷ z ∷ zs) ++ (x ∷ [])) = omega (arith, length-append zs (x ∷ [])) in
            rw n

-- the numbers of a set below i
module _ (c : Candidates) (i : ℕ) (w : ℕ → Bool) (e : c ≡ candidates_of (members i 0 w)) where
  pub candidates-few : c.count ≤ i
  candidates-few = omega (arith, count-is c (members i 0 w) e, length-members i 0 w, count-le i 0 w)

  pub candidates-below : 0 < i → (c.first < i) × (c.second < i)
  candidates-below h = (
    omega (arith, ap (λ (y : Candidates). y.first) e, members-most i 0 0 w (omega arith)),
    omega
        (arith, ap (λ (y : Candidates). y.second) e, members-most i 0 1 w (omega arith)),
  )

  pub candidates-out : w i ≡ false → c ≡ candidates_of (members (i + 1) 0 w)
  candidates-out t = rw (members-on i w, t, append-nil (members i 0 w)) e

pub candidates-in : (i : ℕ) (w : ℕ → Bool) → w i ≡ true → candidates_of (members i 0 w ++ (i ∷ [])) ≡ candidates_of (members (i + 1) 0 w)
candidates-in i w t = rw (members-on i w, t)

-- ---- The later of two

module _ (n : ℕ) (c : Candidates) (xs : List ℕ) (e : c ≡ candidates_of xs) where
  pub later-alone : c.count ≡ 1 → some c.first ≡ later n xs
  unfolding later
  later-alone h = rw (first-is c xs e) (go xs (sym (count-is c xs e) ∙ h))
    where
      go : (ys : List ℕ) → length ys ≡ 1 → some (get_or ys 0 0) ≡ later n ys
      go [] z = absurd (omega arith)
      go (y ∷ []) z = refl
      go (y ∷ z ∷ zs) u = absurd (omega arith)

  pub later-many : c.count ≢ 1 → c.count ≢ 2 → none ≡ later n xs
  unfolding later
  later-many f g = go xs (λ z. f (count-is c xs e ∙ z)) (λ z. g (count-is c xs e ∙ z))
    where
      go : (ys : List ℕ) → length ys ≢ 1 → length ys ≢ 2 → none ≡ later n ys
      go [] u v = refl
      go (y ∷ []) u v = absurd (u refl)
      go (y ∷ z ∷ []) u v = absurd (v refl)
      go (y ∷ z ∷ a ∷ r) u v = refl

  module _ (two : c.count ≡ 2) where
    two_is : later n xs ≡ cond (eqb c.second (suc c.first)) (some c.second) (cond (eqb c.first 0 && eqb (suc c.second) n) (some 0) none)
    unfolding later
    two_is = rw (first-is c xs e, second_is c xs e) (go xs (sym (count-is c xs e) ∙ two))
      where
        go : (ys : List ℕ) → length ys ≡ 2
            → later n ys ≡ cond (eqb (get_or ys 1 0) (suc (get_or ys 0 0))) (some (get_or ys 1 0))
            (cond (eqb (get_or ys 0 0) 0 && eqb (suc (get_or ys 1 0)) n) (some 0) none)
        go [] z = absurd (omega arith)
        go (y ∷ []) z = absurd (omega arith)
        go (y ∷ z ∷ []) u = refl
        go (y ∷ z ∷ a ∷ r) u = absurd (omega arith)

    pub later-next : c.second ≡ c.first + 1 → some c.second ≡ later n xs
    later-next d = rw (two_is, eqb_same c.second (suc c.first) (omega arith))

    module _ (f : c.second ≢ c.first + 1) where
      pub later-inner : c.first ≢ 0 → none ≡ later n xs
      later-inner g =
          rw (two_is, eqb-other c.second (suc c.first) (omega arith), eqb-other c.first 0 g)

      pub later-short : c.first ≡ 0 → c.second + 1 ≢ n → none ≡ later n xs
      later-short z g =
          rw (two_is, eqb-other c.second (suc c.first) (omega arith), eqb_same c.first 0 z, eqb-other (suc c.second) n (omega arith))

      pub later-ends : c.first ≡ 0 → c.second + 1 ≡ n → some 0 ≡ later n xs
      later-ends z g =
          rw (two_is, eqb-other c.second (suc c.first) (omega arith), eqb_same c.first 0 z, eqb_same (suc c.second) n (omega arith))

-- ---- Parts

-- the index block of a part, by its number within the part
module _ (m i : ℕ) (looks : ℕ → Bool) where
  pub in-part : (j : ℕ) → some j ≡ later m (open_blocks m looks i) → index_in_part m looks i ≡ some (i * m + j)
  unfolding open_blocks index_in_part
  in-part j found = rw (← found)

  pub in-part-none : none ≡ later m (open_blocks m looks i) → index_in_part m looks i ≡ none
  unfolding open_blocks index_in_part
  in-part-none found = rw (← found)

both-none : (o : Option ℕ) → cons_both o none ≡ none
both-none none = refl
both-none (some x) = refl

pub collect-none : (n k x : ℕ) (g : ℕ → Option ℕ) → k ≤ x → x < k + n → g x ≡ none → collect n k g ≡ none
unfolding collect
collect-none zero k x g a b e = absurd (omega arith)
collect-none (suc n) k x g a b e =
    by_le (suc k) x (λ _. cons_both (g k) (collect n (suc k) g) ≡ none)
    (λ l. rw (collect-none n (suc k) x g l (omega arith) e) (both-none (g k)))
    (λ l.
    let d : k ≡ x = omega arith in
    rw (d, e))

-- ---- The pattern found

module _ (p m : ℕ) (looks : ℕ → Bool) where
  pub found-whole : (i : ℕ) → later p (bare_parts p m looks) ≡ some i → index_found p m looks ≡ some (consecutive m (i * m))
  unfolding index_found
  found-whole i e = rw e

  module _ (e : later p (bare_parts p m looks) ≡ none) where
    pub found_none : length (bare_parts p m looks) ≢ 0 → index_found p m looks ≡ none
    unfolding index_found
    found_none f = rw e (go (bare_parts p m looks) f)
      where
        go : (bare : List ℕ) → length bare ≢ 0 → index_by p m looks bare none ≡ none
        go [] f = absurd (f refl)
        go (x ∷ xs) f = refl

    module _ (z : length (bare_parts p m looks) ≡ 0) where
      no_bare : bare_parts p m looks ≡ []
      no_bare = go (bare_parts p m looks) z
        where
          go : (bare : List ℕ) → length bare ≡ 0 → bare ≡ []
          go [] f = refl
          go (x ∷ xs) f = absurd (omega arith)

      pub found-few : m ≤ 2 → index_found p m looks ≡ none
      unfolding index_found
      found-few l = rw (e, no_bare, leb-fails 3 m (omega arith))

      pub found-each : 2 < m → index_found p m looks ≡ collect p 0 (index_in_part m looks)
      unfolding index_found
      found-each l = rw (e, no_bare, leb-holds 3 m l)
