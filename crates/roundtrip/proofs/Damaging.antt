-- Laws of damaging a word position by position. Assumes nothing.
use mathlib.Core.Path.{◌≡◌, refl, sym, ap, ◌∙◌}
use mathlib.Core.Bool.{Bool, true, false, cond}
use mathlib.Core.List.{List}
use Prim.Native.Nat.{ℕ, ◌+◌, ◌≤◌, ◌<◌}
use native.Mathlib.Nat.{zero-add}
use native.Mathlib.Omega.{arith}
use lib.ListN.{length, get_or, set, take, length-set}
use lib.Seq.{get_or-set_same, get_or-set_other, take-length}
use Rattle.combinatorics.proofs.Cases.{by-eq}
use Rattle.combinatorics.proofs.Members.{take-is}
use Rattle.roundtrip.specs.Damage.{damaged}

-- ---- A word that is damaged before position x, and as it was from there on

abbrev symbol_at : (ℕ → Bool) → List ℕ → List ℕ → ℕ → ℕ
symbol_at spoilt ds w y = cond (spoilt y) (get_or ds y 0) (get_or w y 0)

pub record Damaged (spoilt : ℕ → Bool) (ds w : List ℕ) (x : ℕ) (now : List ℕ) : Type 0 where
  pub size : length now ≡ length w
  pub done : (y : ℕ) → y < x → get_or now y 0 ≡ symbol_at spoilt ds w y
  pub rest : (y : ℕ) → x ≤ y → get_or now y 0 ≡ get_or w y 0

module _ (spoilt : ℕ → Bool) (ds w : List ℕ) where
  pub damage-start : Damaged spoilt ds w 0 w
  damage-start = record { size = refl; done = λ y l. absurd (omega arith); rest = λ y _. refl }

  module _ (x : ℕ) (now : List ℕ) (d : Damaged spoilt ds w x now) where
    -- the position is spoilt
    pub damage-put : x < length now → spoilt x ≡ true → Damaged spoilt ds w (x + 1) (set now x (get_or ds x 0))
    damage-put l e =
        record {
          size = length-same;
          done = λ y h. by-eq y x (λ _. get_or (set now x (get_or ds x 0)) y 0 ≡ symbol_at spoilt ds w y)
              (λ s. rw (s, e) (get_or-set_same now x (get_or ds x 0) 0 l))
              (λ o. get_or-set_other now x y (get_or ds x 0) 0 o ∙ d.done y (omega arith));
          rest = λ y h. get_or-set_other now x y (get_or ds x 0) 0 (λ s. absurd (omega arith)) ∙ d.rest y (omega arith);
        }
      where
        length-same : length (set now x (get_or ds x 0)) ≡ length w
        length-same = length-set now x (get_or ds x 0) ∙ d.size

    -- it is not
    pub damage-keep : spoilt x ≡ false → Damaged spoilt ds w (x + 1) now
    damage-keep e =
        record {
          size = d.size;
          done = λ y h. by-eq y x (λ _. get_or now y 0 ≡ symbol_at spoilt ds w y) (λ s. rw (s, e) (d.rest x (omega arith))) (λ o. d.done y (omega arith));
          rest = λ y h. d.rest y (omega arith);
        }

    pub damage-done : length w ≤ x → now ≡ damaged spoilt ds w
    unfolding damaged
    damage-done l =
        sym (ap (λ (n : ℕ). take n now) (sym d.size) ∙ take-length now)
        ∙ take-is (length w) 0 now (symbol_at spoilt ds w) (omega (arith, d.size)) (λ j h. rw (zero-add j) (d.done j (omega arith)))
