-- Laws of looking for the burst that has a position, and of testing position by position whether bursts have them. Assumes nothing.
use mathlib.Core.Path.{◌≡◌, refl, sym, ap, ◌∙◌}
use mathlib.Core.Bool.{Bool, true, false, not, true≢false, false≢true}
use mathlib.Core.List.{List, [], ◌∷◌}
use Prim.Native.Nat.{ℕ, suc, ◌+◌, ◌-◌, ◌≤◌, ◌<◌}
use native.Mathlib.Omega.{arith}
use borrow.Author.Tests.{leb-true}
use lib.Dec.{ltb}
use lib.ListN.{length, get_or, take, drop, length-drop}
use lib.Seq.{length-take-le, get_or-take, get_or-drop}
use Rattle.combinatorics.specs.Bursts.{apart, in_burst, covers}
use Rattle.combinatorics.specs.Lists.{all_below}
use Rattle.combinatorics.proofs.Bursts.{Placed, placed_of, placed_end, placed-grows, burst-here, burst-free}
use Rattle.combinatorics.proofs.Cases.{by_le, by-eq, by_bool, leb-holds, leb-fails}
use Rattle.combinatorics.proofs.Cover.{Covers, covers_of, of-covers}
use Rattle.combinatorics.proofs.Lists.{below_at, some_below, at-below}
use Rattle.cells.specs.Erasures.{erased_at}
use Rattle.placements.specs.Bridge.{burst_has}

pub burst-next : (b s x : ℕ) (ss : List ℕ) → burst_has b s x ≡ false → in_burst b (s ∷ ss) x ≡ in_burst b ss x
unfolding in_burst
burst-next b s x ss e = rw e

pub burst-found : (b s x : ℕ) (ss : List ℕ) → burst_has b s x ≡ true → in_burst b (s ∷ ss) x ≡ true
unfolding in_burst
burst-found b s x ss e = rw e

pub burst-none : (b x : ℕ) → in_burst b [] x ≡ false
unfolding in_burst
burst-none b x = refl

-- ---- Positions that bursts have to have, as a loop goes from left to right

module _ (worn : ℕ → Bool) (b x : ℕ) (ss : List ℕ) where
  pub covers-on : Covers worn b x ss → (worn x ≡ true → in_burst b ss x ≡ true) → Covers worn b (x + 1) ss
  covers-on c h y l = by-eq y x (λ _. worn y ≡ true → in_burst b ss y ≡ true) (λ e w. rw e (h (rw e at w))) (λ o w. c y (omega arith) w)

  pub uncovered : (n : ℕ) → x < n → worn x ≡ true → in_burst b ss x ≡ false → covers n b worn ss ≡ false
  uncovered n l w e =
      by_bool (covers n b worn ss) (λ t. absurd (true≢false (sym (covers_of n b worn ss t x l w) ∙ e))) (λ t. t)

-- ---- The same from one burst to the next

-- before the first of the bursts that are left there is none of them
pub before-first : (b n lo s x : ℕ) (ss : List ℕ) → Placed b n lo (s ∷ ss) → x < s → in_burst b (s ∷ ss) x ≡ false
before-first b n lo s x ss h l = burst-free b x (s ∷ ss) (λ j k a _. absurd (omega (arith, placed-grows b n lo 0 j (s ∷ ss) h (omega arith) k, a)))

-- behind a burst only the later ones matter
pub behind-first : (b s x : ℕ) (ss : List ℕ) → s + b ≤ x → in_burst b (s ∷ ss) x ≡ in_burst b ss x
behind-first b s x ss l = burst-next b s x ss (rw (leb-holds s x (omega arith), leb-fails (suc x) (s + b) (omega arith)))

-- a part of a word without a burst: its symbols are below q exactly where the bursts cover its erasures
module _ (b q from to : ℕ) (w ss : List ℕ) (within : to ≤ length w) (free : (x : ℕ) → from ≤ x → x < to → in_burst b ss x ≡ false) where
  abbrev part : List ℕ
  part = take (to - from) (drop from w)

  part_at : (i : ℕ) → i < to - from → get_or part i 0 ≡ get_or w (from + i) 0
  part_at i l = get_or-take (to - from) (drop from w) i 0 l ∙ get_or-drop from w i 0

  part_length : length part ≡ to - from
  part_length = length-take-le (to - from) (drop from w) (omega (arith, length-drop from w))

  pub part-below : covers (length w) b (erased_at q w) ss ≡ true → all_below q part ≡ true
  part-below t =
      at-below q part
      (λ i l.
      let k : i < to - from = omega (arith, part_length) in
      rw (part_at i k)
      (by_bool (ltb (get_or w (from + i) 0) q) (λ e. leb-true (suc (get_or w (from + i) 0)) q e)
      (λ e. absurd (true≢false (sym (covers_of (length w) b (erased_at q w) ss t (from + i) (omega arith) (ap not e))
      ∙ free (from + i) (omega arith) (omega arith))))))

  pub part-covered : Covers (erased_at q w) b from ss → all_below q part ≡ true → Covers (erased_at q w) b to ss
  part-covered c e x l h =
      by_le from x (λ _. in_burst b ss x ≡ true)
      (λ k.
      let is : from + (x - from) ≡ x = omega arith in
      let some = some_below q part e (omega (arith, part_length)) in
      let small : get_or w x 0 < q = omega (arith, below_at q part some e (x - from), part_at (x - from) (omega arith), ap (λ (y : ℕ). get_or w y 0) is) in
      absurd (false≢true (rw (leb-holds (suc (get_or w x 0)) q small) at h)))
      (λ k. c x k h)

-- ---- The loop over the bursts: up to `from` every erasure lies in one, and the bursts that are left decide from there on

pub record Tested (b q : ℕ) (w ss : List ℕ) (from : ℕ) (left : List ℕ) : Type 0 where
  pub placed : Placed b (length w) from left
  pub later : (x : ℕ) → from ≤ x → in_burst b ss x ≡ in_burst b left x
  pub covered : Covers (erased_at q w) b from ss

pub tested-start : (b q : ℕ) (w ss : List ℕ) → apart b (length w) 0 ss ≡ true → Tested b q w ss 0 ss
tested-start b q w ss e = record { placed = placed_of b (length w) 0 ss e; later = λ x _. refl; covered = λ y l _. absurd (omega arith) }

module _ (b q : ℕ) (w ss : List ℕ) (from s : ℕ) (rest : List ℕ) (t : Tested b q w ss from (s ∷ rest)) where
  end : s + b ≤ length w
  end = placed_end b (length w) (s + b) rest t.placed.1

  free : (x : ℕ) → from ≤ x → x < s → in_burst b ss x ≡ false
  free x l k = t.later x l ∙ before-first b (length w) from s x rest t.placed k

  pub tested-not : all_below q (take (s - from) (drop from w)) ≡ false → covers (length w) b (erased_at q w) ss ≡ false
  tested-not e =
      by_bool (covers (length w) b (erased_at q w) ss) (λ c. absurd (true≢false (sym (part-below b q from s w ss (omega (arith, end)) free c) ∙ e))) (λ c. c)

  pub tested-on : all_below q (take (s - from) (drop from w)) ≡ true → Tested b q w ss (s + b) rest
  tested-on e =
      record {
        placed = t.placed.1;
        later = λ x l. t.later x (omega (arith, t.placed.0)) ∙ behind-first b s x rest l;
        covered = λ x l h.
            by_le s x (λ _. in_burst b ss x ≡ true)
            (λ k. t.later x (omega (arith, t.placed.0)) ∙ burst-here b s x rest k l)
            (λ k. part-covered b q from s w ss (omega (arith, end)) free t.covered e x k h);
      }

-- behind the last burst
pub tested-end : (b q : ℕ) (w ss : List ℕ) (from : ℕ) → Tested b q w ss from []
    → all_below q (take (length w - from) (drop from w)) ≡ covers (length w) b (erased_at q w) ss
tested-end b q w ss from t =
    by_bool (all_below q (take (length w - from) (drop from w)))
    (λ e. e ∙ sym (of-covers (length w) b (erased_at q w) ss (part-covered b q from (length w) w ss (omega arith) free t.covered e)))
    (λ e. by_bool (covers (length w) b (erased_at q w) ss)
    (λ c. absurd (true≢false (sym (part-below b q from (length w) w ss (omega arith) free c) ∙ e))) (λ c. e ∙ sym c))
  where
    free : (x : ℕ) → from ≤ x → x < length w → in_burst b ss x ≡ false
    free x l k = t.later x l ∙ burst-none b x
