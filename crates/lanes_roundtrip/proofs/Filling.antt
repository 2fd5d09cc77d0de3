-- Words one after another that are filled lane by lane. Assumes nothing.
use mathlib.Core.Path.{◌≡◌, refl, sym, ap, ◌∙◌}
use mathlib.Core.List.{List, flat_map}
use Prim.Native.Nat.{ℕ, zero, suc, ◌+◌, ◌*◌, ◌/◌, ◌%◌, ◌≤◌, ◌<◌, ◌-◌}
use native.Mathlib.Nat.{mul-le-mul_right, div-lt_iff_lt-mul, mod-lt, div-add-mod'}
use native.Mathlib.Omega.{arith}
use lib.ListN.{length, get_or, drop, length-drop}
use lib.Seq.{length-take-le, ext_get_or}
use borrow.Rule.Slice.PartMut.{mid_of, put_mid, same_len_mid}
use Rattle.combinatorics.specs.Stretch.{consecutive}
use Rattle.combinatorics.proofs.Cases.{by_le}
use Rattle.lanes.specs.Interleaving.{lane}
use Rattle.lanes.proofs.Interleaving.{lane-at, length-lane, lane-of-words, length-words}
use Rattle.lanes.proofs.TileLaws.{put-inside, put-outside}

-- each lane ends within the words
pub lane-within : (n d j : ℕ) → j < d → j * n + n ≤ d * n
lane-within n d j h = let l : suc j * n ≤ d * n = mul-le-mul_right n h in omega arith

-- the part from a start to an end is the lane
pub part-is-lane : (n j : ℕ) (xs : List ℕ) → mid_of (j * n) (j * n + n - j * n) xs ≡ lane n j xs
unfolding lane
part-is-lane n j xs = let e : j * n + n - j * n ≡ n = omega arith in rw e

pub part-len : (n j : ℕ) (xs : List ℕ) → j * n + n ≤ length xs → length (mid_of (j * n) (j * n + n - j * n) xs) ≡ n
part-len n j xs fit =
    let e : j * n + n - j * n ≡ n = omega arith in
    rw e (length-take-le n (drop (j * n) xs) (omega (arith, length-drop (j * n) xs)))

-- the lanes say it all
pub lanes-same : (n d : ℕ) (xs ys : List ℕ) → length xs ≡ d * n → length ys ≡ d * n → ((i : ℕ) → i < d → lane n i xs ≡ lane n i ys) → xs ≡ ys
lanes-same n d xs ys ex ey same = ext_get_or 0 xs ys (ex ∙ sym ey) (λ t l. here t (omega arith))
  where
    some : (t : ℕ) → t < d * n → 0 < n
    some t l = go n l
      where
        go : (c : ℕ) → t < d * c → 0 < c
        go zero l = absurd (omega arith)
        go (suc c) l = omega arith

    here : (t : ℕ) → t < d * n → get_or xs t 0 ≡ get_or ys t 0
    here t l =
        let s = some t l in
        let i = t / n in
        let x : t % n < n = mod-lt t s in
        let e = div-add-mod' t n in
        ap (λ (y : ℕ). get_or xs y 0) (sym e)
        ∙ sym (lane-at n i (t % n) xs x)
        ∙ ap (λ (zs : List ℕ). get_or zs (t % n) 0) (same i ((div-lt_iff_lt-mul s).1 l))
        ∙ lane-at n i (t % n) ys x
        ∙ ap (λ (y : ℕ). get_or ys y 0) e

-- the first j lanes hold what they are to hold, the others what they held
pub record Filled (n d : ℕ) (g : ℕ → List ℕ) (before : List ℕ) (j : ℕ) (now : List ℕ) : Type 0 where
  pub size : length now ≡ d * n
  pub done : (i : ℕ) → i < j → lane n i now ≡ g i
  pub rest : (i : ℕ) → j ≤ i → i < d → lane n i now ≡ lane n i before

module _ (n d : ℕ) (g : ℕ → List ℕ) (before : List ℕ) where
  pub filled_none : length before ≡ d * n → Filled n d g before 0 before
  filled_none e = record { size = e; done = λ i l. absurd (omega arith); rest = λ i _ _. refl }

  -- one lane more
  filled-turn : (j : ℕ) (now part : List ℕ) → j < d → length part ≡ n → part ≡ g j → Filled n d g before j now
      → Filled n d g before (j + 1) (put_mid (j * n) n now part)
  filled-turn j now part h long is so =
      let next = put_mid (j * n) n now part in
      let fit : j * n + n ≤ length now = omega (arith, so.size, lane-within n d j h) in
      let mid : length (mid_of (j * n) n now) ≡ n = length-take-le n (drop (j * n) now) (omega (arith, length-drop (j * n) now)) in
      let size : length next ≡ d * n = same_len_mid (j * n) n now part (long ∙ sym mid) ∙ so.size in
      let other : (i : ℕ) → i < d → ((x y : ℕ) → x < n → y < n → i * n + x ≡ j * n + y → ⊥) → lane n i next ≡ lane n i now =
      λ i l apart.
      ext_get_or 0 (lane n i next) (lane n i now) (length-lane n d i next size l ∙ sym (length-lane n d i now so.size l))
      (λ x k.
      let hx : x < n = omega (arith, length-lane n d i next size l) in
      lane-at n i x next hx ∙ put-outside (j * n) n now part fit long (i * n + x) (λ y hy e. apart x y hx hy e) ∙ sym (lane-at n i x now hx)) in
      record {
        size = size;
        done = λ i l.
            by_le (suc i) j (λ _. lane n i next ≡ g i)
            (λ k. other i (omega arith) (λ x y hx hy e. omega (arith, lane-within n j i k)) ∙ so.done i k)
            (λ k.
            let e : i ≡ j = omega arith in
            rw e (ext_get_or 0 (lane n j next) (g j) (length-lane n d j next size h ∙ sym long ∙ ap length is)
            (λ x k.
            let hx : x < n = omega (arith, length-lane n d j next size h) in
            lane-at n j x next hx ∙ put-inside (j * n) n now part fit long x hx ∙ ap (λ (y : List ℕ). get_or y x 0) is)));
        rest = λ i l k. other i k (λ x y hx hy e. omega (arith, lane-within n i j (omega arith))) ∙ so.rest i (omega arith) k;
      }

  -- the same as it is lent: a part from a start to an end, which keeps its length
  pub filled_on : (j : ℕ) (now part : List ℕ) → j < d → Filled n d g before j now → length part ≡ length (mid_of (j * n) (j * n + n - j * n) now) → part ≡ g j
      → Filled n d g before (j + 1) (put_mid (j * n) (j * n + n - j * n) now part)
  filled_on j now part h so long is =
      let e : j * n + n - j * n ≡ n = omega arith in
      let fit : j * n + n ≤ length now = omega (arith, so.size, lane-within n d j h) in
      let mid : length (mid_of (j * n) n now) ≡ n = length-take-le n (drop (j * n) now) (omega (arith, length-drop (j * n) now)) in
      rw e (filled-turn j now part h (rw e at long ∙ mid) is so)

  pub filled-all : (j : ℕ) (now target : List ℕ) → d ≤ j → Filled n d g before j now → length target ≡ d * n → ((i : ℕ) → i < d → g i ≡ lane n i target)
      → now ≡ target
  filled-all j now target all so size same = lanes-same n d now target so.size size (λ i l. so.done i (omega arith) ∙ same i l)

  -- and where these are words one after another
  pub filled-words : (j : ℕ) (now : List ℕ) → d ≤ j → Filled n d g before j now → now ≡ flat_map g (consecutive d 0)
  filled-words j now all so =
      let long : (i : ℕ) → i < d → length (g i) ≡ n = λ i l. ap length (sym (so.done i (omega arith))) ∙ length-lane n d i now so.size l in
      filled-all j now (flat_map g (consecutive d 0)) all so (length-words n d 0 g (λ i _ l. long i (omega arith))) (λ i l. sym (lane-of-words n d i g long l))
