-- Laws of a word writer's tests: what each of them answers, what a caller learns, and that they are word write's behind its figures. Assumes nothing.
use mathlib.Core.Path.{◌≡◌, refl, ap, ◌∙◌}
use mathlib.Core.Logic.{◌≢◌}
use mathlib.Core.Bool.{Bool, true, false, ◌&&◌}
use mathlib.Core.List.{List}
use Prim.Native.Nat.{ℕ}
use native.Mathlib.Omega.{arith}
use lib.Dec.{eqb}
use lib.ListN.{length}
use Rattle.refusals.specs.Refusals.{must, served, wrong_length, bad_symbol, bad_starts}
use Rattle.combinatorics.specs.Bursts.{apart}
use Rattle.combinatorics.specs.Lists.{all_below}
use Rattle.combinatorics.proofs.Cases.{eqb_same, eqb-other, eqb-true}
use Rattle.combinatorics.proofs.Lists.{both}
use Rattle.cells.specs.Outcomes.{Coding, Held, in_use, unwritten, encode_under}
use Rattle.stretches.specs.declared.Walk.{Walk}
use Rattle.encoder.specs.MayWrite.{write_number}
use Rattle.encoder.proofs.Outcomes.{encode-served}

-- ---- Test by test

module _ (n m b q k : ℕ) (at : Held) (ms : List ℕ) (lent : ℕ) where
  pub number-count : at.count ≢ m → write_number n m b q k at ms lent ≡ wrong_length
  unfolding write_number
  number-count h = rw (eqb-other at.count m h)

  pub number-message : at.count ≡ m → length ms ≢ k → write_number n m b q k at ms lent ≡ wrong_length
  unfolding write_number
  number-message e h = rw (eqb_same at.count m e, eqb-other (length ms) k h)

  module _ (e : at.count ≡ m) (sent : length ms ≡ k) where
    pub number_word : lent ≢ n → write_number n m b q k at ms lent ≡ wrong_length
    unfolding write_number
    number_word h = rw (eqb_same at.count m e, eqb_same (length ms) k sent, eqb-other lent n h)

    module _ (room : lent ≡ n) where
      pub number-starts : apart b n 0 (in_use at) ≡ false → write_number n m b q k at ms lent ≡ bad_starts
      unfolding write_number
      number-starts h = rw (eqb_same at.count m e, eqb_same (length ms) k sent, eqb_same lent n room, h)

      module _ (placed : apart b n 0 (in_use at) ≡ true) where
        pub number-symbol : all_below q ms ≡ false → write_number n m b q k at ms lent ≡ bad_symbol
        unfolding write_number
        number-symbol h = rw (eqb_same at.count m e, eqb_same (length ms) k sent, eqb_same lent n room, placed, h)

        pub number-none : all_below q ms ≡ true → write_number n m b q k at ms lent ≡ served
        unfolding write_number
        number-none h = rw (eqb_same at.count m e, eqb_same (length ms) k sent, eqb_same lent n room, placed, h)

pub number_same : {n n' m m' b b' q q' k k' : ℕ} (at : Held) (ms : List ℕ) (lent : ℕ) → n ≡ n' → m ≡ m' → b ≡ b' → q ≡ q' → k ≡ k'
    → write_number n m b q k at ms lent ≡ write_number n' m' b' q' k' at ms lent
number_same at ms lent e₁ e₂ e₃ e₄ e₅ = rw (e₁, e₂, e₃, e₄, e₅)

-- by either of two walks that are one
pub number-walked : (w v : Walk) (q k : ℕ) (at : Held) (ms : List ℕ) (lent : ℕ) → w ≡ v
    → write_number w.n w.m w.b q k at ms lent ≡ write_number v.n v.m v.b q k at ms lent
number-walked w v q k at ms lent e = ap (λ (w : Walk). write_number w.n w.m w.b q k at ms lent) e

-- ---- Where none refuses

pub record Unrefused (n m b q k : ℕ) (at : Held) (ms : List ℕ) (lent : ℕ) : Type 0 where
  pub count : at.count ≡ m
  pub sent : length ms ≡ k
  pub room : lent ≡ n
  pub placed : apart b n 0 (in_use at) ≡ true
  pub below : all_below q ms ≡ true

all_three : (lengths placed below : Bool) → must lengths wrong_length (must placed bad_starts (must below bad_symbol served)) ≡ served
    → (lengths ≡ true) × (placed ≡ true) × (below ≡ true)
all_three false placed below e = absurd (omega (arith, e))
all_three true false below e = absurd (omega (arith, e))
all_three true true false e = absurd (omega (arith, e))
all_three true true true e = (refl, refl, refl)

pub unrefused : (n m b q k : ℕ) (at : Held) (ms : List ℕ) (lent : ℕ) → write_number n m b q k at ms lent ≡ served → Unrefused n m b q k at ms lent
unfolding write_number
unrefused n m b q k at ms lent e =
    let ok = all_three (eqb at.count m && eqb (length ms) k && eqb lent n) (apart b n 0 (in_use at)) (all_below q ms) e in
    let lengths = both (eqb at.count m && eqb (length ms) k) (eqb lent n) ok.0 in
    let counts = both (eqb at.count m) (eqb (length ms) k) lengths.0 in
    record {
      count = eqb-true at.count m counts.0;
      sent = eqb-true (length ms) k counts.1;
      room = eqb-true lent n lengths.1;
      placed = ok.1;
      below = ok.2;
    }

-- ---- Word write behind its figures

-- an order of these three either refuses, with the number that the tests have alone, or goes on
refuses-alike : {A : Type 0} (refuse : ℕ → A) (rest : A) (lengths placed below : Bool)
    → must lengths wrong_length (must placed bad_starts (must below bad_symbol served)) ≢ served
    → must lengths (refuse wrong_length) (must placed (refuse bad_starts) (must below (refuse bad_symbol) rest))
    ≡ refuse (must lengths wrong_length (must placed bad_starts (must below bad_symbol served)))
refuses-alike refuse rest false placed below h = refl
refuses-alike refuse rest true false below h = refl
refuses-alike refuse rest true true false h = refl
refuses-alike refuse rest true true true h = absurd (h refl)

module _ (d : Coding) (at : Held) (ms out : List ℕ) (range : d.in_range ≡ true) (fit : d.fits ≡ true) where
  abbrev pub number_under : ℕ
  number_under = write_number d.codec.word_len d.bursts d.burst_len d.codec.alphabet d.codec.message_len_of at ms (length out)

  pub encode-refused : (r : ℕ) → r ≡ number_under → r ≢ served → encode_under d at ms out ≡ unwritten out r
  unfolding write_number
  encode-refused r e h =
      let c = d.codec in
      let tests = eqb at.count d.bursts && eqb (length ms) c.message_len_of && eqb (length out) c.word_len in
      rw (range, fit, e)
      (refuses-alike (unwritten out) (record { answer = served; word = c.encode (in_use at) ms }) tests (apart d.burst_len c.word_len 0 (in_use at))
      (all_below c.alphabet ms)
      (λ z. h (e ∙ z)))

  pub encode-unrefused : number_under ≡ served → encode_under d at ms out ≡ record { answer = served; word = d.codec.encode (in_use at) ms }
  encode-unrefused e =
      let u = unrefused d.codec.word_len d.bursts d.burst_len d.codec.alphabet d.codec.message_len_of at ms (length out) e in
      encode-served d at ms out range fit u.count u.sent u.room u.placed u.below
