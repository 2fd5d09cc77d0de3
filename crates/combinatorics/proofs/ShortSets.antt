-- Sets of positions that each fit into one burst: as many bursts as there are sets cover them all, wherever the sets lie. Assumes nothing.
use mathlib.Core.Path.{◌≡◌, refl, sym, ap, ◌∙◌}
use mathlib.Core.Bool.{Bool, true, false, ◌||◌, false≢true}
use mathlib.Core.List.{List, [], ◌∷◌}
use Prim.Native.Nat.{ℕ, zero, suc, ◌+◌, ◌-◌, ◌*◌, ◌≤◌, ◌<◌, max}
use native.Mathlib.Omega.{arith}
use lib.ListN.{length}
use Rattle.combinatorics.specs.Lists.{any}
use Rattle.combinatorics.specs.Stretch.{last_end}
use Rattle.combinatorics.specs.Bursts.{in_burst, placements, cover_rank}
use Rattle.combinatorics.proofs.Bursts.{burst-here, burst-there}
use Rattle.combinatorics.proofs.Cases.{by_le, by_bool}
use Rattle.combinatorics.proofs.Cover.{greedy_down, Covers, last-le, last-all, last-is, greedy, turned-burst, greedy-covers}

-- bursts that leave no position free cover whatever is worn
tiled : (worn : ℕ → Bool) (b m n : ℕ) → n ≡ m * b → Covers worn b n (greedy_down worn b m n)
unfolding greedy_down
tiled worn b zero n e x l w = absurd (omega arith)
tiled worn b (suc m) n e x l w =
    let s = max (last_end worn n - b) (m * b) in
    let at : s ≡ m * b = omega (arith, last-le worn n) in
    by_le s x (λ _. in_burst b (s ∷ greedy_down worn b m s) x ≡ true)
    (λ p. burst-here b s x (greedy_down worn b m s) p (omega arith))
    (λ p. burst-there b s x (greedy_down worn b m s) (tiled worn b m s at x p w))

-- sets named by the elements of a list; any two positions of one are less than b apart
module _ {A : Type 0} (In : A → ℕ → Bool) (b : ℕ) where
  abbrev pub Short : A → Type 0
  Short a = (x y : ℕ) → In a x ≡ true → In a y ≡ true → x < y + b

  abbrev pub Shorts : List A → Type 0
  Shorts [] = Unit {0}
  Shorts (a ∷ sets) = Short a × Shorts sets

  -- the set that has a position, and the others
  record Split (sets : List A) (x : ℕ) : Type 0 where
    a : A
    rest : List A
    has : In a x ≡ true
    fewer : length sets ≡ suc (length rest)
    parts : (y : ℕ) → any (λ c. In c y) sets ≡ (In a y || any (λ c. In c y) rest)
    short : Short a
    shorts : Shorts rest

  swap : (p q r : Bool) → (p || (q || r)) ≡ (q || (p || r))
  swap true true r = refl
  swap true false r = refl
  swap false true r = refl
  swap false false r = refl

  split : (sets : List A) (x : ℕ) → Shorts sets → any (λ c. In c x) sets ≡ true → Split sets x
  unfolding any
  split [] x h t = absurd (false≢true t)
  split (a ∷ sets) x (h, hs) t =
      by_bool (In a x)
      (λ e. record { a = a; rest = sets; has = e; fewer = refl; parts = λ y. refl; short = h; shorts = hs })
      (λ e.
      let s = split sets x hs (rw e at t) in
      record {
        a = s.a;
        rest = a ∷ s.rest;
        has = s.has;
        fewer = ap suc s.fewer;
        parts = λ y. ap (λ (r : Bool). In a y || r) (s.parts y) ∙ swap (In a y) (In s.a y) (any (λ c. In c y) s.rest);
        short = s.short;
        shorts = (h, s.shorts);
      })

  -- from the right, each burst takes the set of the last worn position that is left
  short-down : (worn : ℕ → Bool) (m n : ℕ) (sets : List A) → m * b ≤ n → length sets ≤ m → Shorts sets
      → ((x : ℕ) → x < n → worn x ≡ true → any (λ c. In c x) sets ≡ true) → Covers worn b n (greedy_down worn b m n)
  unfolding greedy_down any
  short-down worn zero n [] room few h all x l w = absurd (false≢true (all x l w))
  short-down worn zero n (a ∷ sets) room few h all x l w = absurd (omega arith)
  short-down worn (suc m) n sets room few h all x l w =
      let e = last_end worn n in
      let u = last-le worn n in
      let k : x < e = last-all worn n x l w in
      let s = max (e - b) (m * b) in
      let rest = greedy_down worn b m s in
      let d = split sets (e - 1) h (all (e - 1) (omega arith) (last-is worn n (omega arith))) in
      let left : (y : ℕ) → y < e - b → worn y ≡ true → any (λ c. In c y) d.rest ≡ true =
      λ y ly wy. by_bool (In d.a y)
      (λ t. absurd (omega (arith, d.short (e - 1) y d.has t)))
      (λ t. rw t at (sym (d.parts y) ∙ all y (omega arith) wy)) in
      by_le s x (λ _. in_burst b (s ∷ rest) x ≡ true)
      (λ p. burst-here b s x rest p (omega arith))
      (λ p. burst-there b s x rest
      (by_le (m * b) (e - b) (λ _. in_burst b rest x ≡ true)
      (λ g. short-down worn m s d.rest (omega arith) (omega (arith, d.fewer)) d.shorts (λ y ly wy. left y (omega arith) wy) x p w)
      (λ g. tiled worn b m s (omega arith) x p w)))

  -- so there is a cover
  pub short-covered : (worn : ℕ → Bool) (m n : ℕ) (sets : List A) → 0 < b → m * b ≤ n → length sets ≤ m → Shorts sets
      → ((x : ℕ) → x < n → worn x ≡ true → any (λ c. In c x) sets ≡ true) → cover_rank n m b worn < placements n m b
  unfolding greedy
  short-covered worn m n sets some room few h all =
      (greedy-covers n m b worn some room).1 (λ x l w. turned-burst b x (greedy_down worn b m n) ∙ short-down worn m n sets room few h all x l w)
