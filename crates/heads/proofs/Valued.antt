-- Laws of the value of index blocks, digit by digit and block by block, under a cap. Assumes nothing.
use mathlib.Core.Path.{◌≡◌, sym, ap, ◌∙◌}
use mathlib.Core.Logic.{◌≢◌}
use mathlib.Core.Bool.{false}
use mathlib.Core.List.{List, [], ◌∷◌, append-nil}
use Prim.Native.Nat.{ℕ, suc, ◌+◌, ◌-◌, ◌*◌, ◌≤◌, ◌<◌, min}
use native.Mathlib.Numerals.{add-one}
use native.Mathlib.Omega.{arith}
use lib.ListN.{length, get_or, take, drop, replicate, length-replicate}
use lib.Seq.{drop-cons}
use Rattle.combinatorics.proofs.Cases.{eqb-false}
use Rattle.combinatorics.proofs.Loops.{left-next}
use Rattle.cells.specs.Digits.{plain, span, value, places}
use Rattle.cells.proofs.Digits.{horner, horner-is, horner-capped, horner-same, horner-blocks}
use Rattle.cells.specs.Figures.{Params}
use Rattle.construction_a.specs.Figures.{head_of}
use Rattle.construction_a.specs.Reading.{looks_fixed, first_symbols_with, written_with}
use Rattle.heads.specs.Written.{plain_places}

-- ---- Digit by digit

-- the first i of some plain digits stand behind a value
pub record Taken (q cap high : ℕ) (ds : List ℕ) (i v : ℕ) : Type 0 where
  pub most : v ≤ cap
  pub same : min (horner q (replicate (length ds - i) plain) (drop i ds) v) cap ≡ min (horner q (plain_places ds) ds high) cap

module _ (q cap high : ℕ) (h : 2 ≤ q) (ds : List ℕ) where
  pub taken_none : high ≤ cap → Taken q cap high ds 0 high
  taken_none l =
      let e : length ds - 0 ≡ length ds = omega arith in
      record { most = l; same = rw e }

  module _ (i v : ℕ) where
    one-digit : i < length ds
        → horner q (replicate (length ds - i) plain) (drop i ds) v ≡ horner q (replicate (length ds - (i + 1)) plain) (drop (i + 1) ds) (v * q + get_or ds i 0)
    unfolding horner
    one-digit l =
        let e : length ds - i ≡ suc (length ds - (i + 1)) = omega arith in
        let z : get_or ds i 0 - 0 ≡ get_or ds i 0 = omega arith in
        rw (e, drop-cons ds i 0 l, ← add-one i) (ap (λ (y : ℕ). horner q (replicate (length ds - (i + 1)) plain) (drop (i + 1) ds) (v * q + y)) z)

    pub taken-plain : i < length ds → Taken q cap high ds i v → Taken q cap high ds (i + 1) (min (v * q + get_or ds i 0) cap)
    taken-plain l s =
        record {
          most = omega arith;
          same = horner-capped q (replicate (length ds - (i + 1)) plain) (drop (i + 1) ds) (v * q + get_or ds i 0) cap h
              ∙ ap (λ (y : ℕ). min y cap) (sym (one-digit l)) ∙ s.same;
        }

    pub taken-all : length ds ≤ i → Taken q cap high ds i v → v ≡ min (high * span q (plain_places ds) + value q (plain_places ds) ds) cap
    unfolding horner
    taken-all l s =
        let e : length ds - i ≡ 0 = omega arith in
        let all : min v cap ≡ min (horner q (plain_places ds) ds high) cap = rw e at s.same in
        omega (arith, s.most, all, horner-is q (plain_places ds) ds high)

-- a block's digits are its lead digit, and the plain ones behind it
module _ (q r cap high : ℕ) (h : 2 ≤ q) where
  lead-first : (block ds : List ℕ) → length ds ≡ r → ((i : ℕ) → i < r → get_or ds i 0 ≡ get_or block (suc i) 0) → r < length block
      → horner q (places 1 r) block high ≡ horner q (plain_places ds) ds (high * (q - 1) + (get_or block 0 0 - 1))
  unfolding horner places
  lead-first [] ds n at l = absurd (omega arith)
  lead-first (x ∷ xs) ds n at l =
      rw (append-nil (replicate r plain), n)
      (horner-same q (replicate r plain) xs ds (high * (q - 1) + (x - 1)) (λ i g. sym (at i (omega (arith, length-replicate r plain)))))

  pub block-digits : (block ds : List ℕ) → length ds ≡ r → ((i : ℕ) → i < r → get_or ds i 0 ≡ get_or block (suc i) 0) → r < length block
      → min (min (high * (q - 1) + (get_or block 0 0 - 1)) cap * span q (plain_places ds) + value q (plain_places ds) ds) cap
      ≡ min (high * span q (places 1 r) + value q (places 1 r) block) cap
  block-digits block ds n at l =
      let a = high * (q - 1) + (get_or block 0 0 - 1) in
      ap (λ (y : ℕ). min y cap) (sym (horner-is q (plain_places ds) ds (min a cap))) ∙ horner-capped q (plain_places ds) ds a cap h
      ∙ ap (λ (y : ℕ). min y cap) (sym (lead-first block ds n at l) ∙ horner-is q (places 1 r) block high)

-- ---- Block by block

-- the digits of the first j of a list of blocks are taken in
pub record Summed (r : ℕ) (f : Params) (w ks : List ℕ) (cap j v : ℕ) : Type 0 where
  pub most : v ≤ cap
  pub same : min (horner f.q (places (f.m - j) r) (first_symbols_with r f w (drop j (take f.m ks))) v) cap ≡ min (written_with r f w (take f.m ks)) cap

module _ (r : ℕ) (f : Params) (w ks : List ℕ) (cap : ℕ) (h : 2 ≤ f.q) where
  pub summed-none : Summed r f w ks cap 0 0
  summed-none =
      let e : f.m - 0 ≡ f.m = omega arith in
      let hs = first_symbols_with r f w (take f.m ks) in
      record {
        most = omega arith;
        same = rw e (ap (λ (y : ℕ). min y cap) (horner-is f.q (places f.m r) hs 0 ∙ omega arith));
      }

  module _ (j v : ℕ) where
    one_block : (part : List ℕ) → j < f.m → f.m ≤ length ks → ((i : ℕ) → i < suc r → get_or part i 0 ≡ get_or w (head_of f (get_or ks j 0) + i) 0)
        → horner f.q (places (f.m - j) r) (first_symbols_with r f w (drop j (take f.m ks))) v
        ≡ horner f.q (places (f.m - (j + 1)) r) (first_symbols_with r f w (drop (j + 1) (take f.m ks))) (horner f.q (places 1 r) part v)
    one_block part l g p =
        let e : f.m - j ≡ suc (f.m - (j + 1)) = omega arith in
        rw (e, left-next f.m j ks l g)
        (horner-blocks f.q r (head_of f) (λ x. get_or w x 0) (f.m - (j + 1)) (get_or ks j 0) (drop (j + 1) (take f.m ks)) part v p)

    pub summed-on : (part : List ℕ) → j < f.m → f.m ≤ length ks → ((i : ℕ) → i < suc r → get_or part i 0 ≡ get_or w (head_of f (get_or ks j 0) + i) 0)
        → Summed r f w ks cap j v → Summed r f w ks cap (j + 1) (min (v * span f.q (places 1 r) + value f.q (places 1 r) part) cap)
    summed-on part l g p s =
        let ps = places 1 r in
        let rest = places (f.m - (j + 1)) r in
        let hs = first_symbols_with r f w (drop (j + 1) (take f.m ks)) in
        record {
          most = omega arith;
          same = rw (← horner-is f.q ps part v)
              (horner-capped f.q rest hs (horner f.q ps part v) cap h ∙ ap (λ (y : ℕ). min y cap) (sym (one_block part l g p)) ∙ s.same);
        }

    pub summed-all : f.m ≤ j → Summed r f w ks cap j v → v ≡ min (written_with r f w (take f.m ks)) cap
    unfolding horner places
    summed-all l s =
        let e : f.m - j ≡ 0 = omega arith in
        let all : min v cap ≡ min (written_with r f w (take f.m ks)) cap = rw e at s.same in
        omega (arith, s.most, all)

-- ---- Blocks that don't look F

pub open-lead : (f : Params) (w : List ℕ) (k at : ℕ) → at ≡ head_of f k → looks_fixed f w k ≡ false → 1 ≤ get_or w at 0
unfolding looks_fixed
open-lead f w k at e h =
    let z : get_or w (head_of f k) 0 ≢ 0 = eqb-false (get_or w (head_of f k) 0) 0 h in
    rw e (omega arith)
