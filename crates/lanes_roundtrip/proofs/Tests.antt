-- What the call answers, test by test. Assumes nothing.
use mathlib.Core.Path.{◌≡◌, sym}
use mathlib.Core.Bool.{true, false, ◌&&◌}
use mathlib.Core.List.{List}
use Prim.Native.Nat.{ℕ, ◌*◌, ◌≤◌, ◌<◌}
use native.Mathlib.Omega.{arith}
use lib.Dec.{eqb}
use lib.ListN.{length}
use Rattle.refusals.specs.Refusals.{must, served, wrong_length, bad_symbol, uncovered, bad_depth}
use Rattle.combinatorics.specs.Lists.{all_below}
use Rattle.combinatorics.proofs.Cases.{by_bool, eqb-true, leb-holds, leb-fails}
use Rattle.combinatorics.proofs.Lists.{both}
use Rattle.cells.specs.Outcomes.{Coding, unserved, figures_under}
use Rattle.cells.proofs.Outcomes.{refused-alike}
use Rattle.lanes.specs.Interleaving.{in_depth, deinterleaved}
use Rattle.lanes_roundtrip.specs.LanesRoundTrip.{LanesRoundTrip, lanes_round_trip_as, lanes_sized, lanes_in_alphabet, lanes_covered, found_interleaved}
use Rattle.lanes_roundtrip.specs.LanesRoundTrip.{lanes_round_trip_under}

-- ---- Depth

pub too_few : (d : ℕ) → d < 1 → in_depth d ≡ false
too_few d h = rw (leb-fails 1 d h)

pub too-many : (d : ℕ) → 1 ≤ d → 16 < d → in_depth d ≡ false
too-many d l h = rw (leb-holds 1 d l, leb-fails d 16 h)

pub in-depth : (d : ℕ) → 1 ≤ d → d ≤ 16 → in_depth d ≡ true
in-depth d l m = rw (leb-holds 1 d l, leb-holds d 16 m)

-- ---- Lengths

-- what right lengths are
pub record Sizes (k : Coding) (d : ℕ) (map messages damage words strip read : List ℕ) : Type 0 where
  pub map-len : length map ≡ d * k.codec.word_len
  pub messages-len : length messages ≡ d * k.codec.message_len_of
  pub damage-len : length damage ≡ d * k.codec.word_len
  pub words-len : length words ≡ d * k.codec.word_len
  pub strip-len : length strip ≡ d * k.codec.word_len
  pub read-len : length read ≡ d * k.codec.message_len_of

pub sizes-of : (k : Coding) (d : ℕ) (map messages damage words strip read : List ℕ) → lanes_sized k d map messages damage words strip read ≡ true
    → Sizes k d map messages damage words strip read
sizes-of k d map messages damage words strip read e =
    let cells = d * k.codec.word_len in
    let sent = d * k.codec.message_len_of in
    let a₁ = eqb (length map) cells in
    let a₂ = a₁ && eqb (length messages) sent in
    let a₃ = a₂ && eqb (length damage) cells in
    let a₄ = a₃ && eqb (length words) cells in
    let e₅ = both (a₄ && eqb (length strip) cells) (eqb (length read) sent) e in
    let e₄ = both a₄ (eqb (length strip) cells) e₅.0 in
    let e₃ = both a₃ (eqb (length words) cells) e₄.0 in
    let e₂ = both a₂ (eqb (length damage) cells) e₃.0 in
    let e₁ = both a₁ (eqb (length messages) sent) e₂.0 in
    record {
      map-len = eqb-true (length map) cells e₁.0;
      messages-len = eqb-true (length messages) sent e₁.1;
      damage-len = eqb-true (length damage) cells e₂.1;
      words-len = eqb-true (length words) cells e₃.1;
      strip-len = eqb-true (length strip) cells e₄.1;
      read-len = eqb-true (length read) sent e₅.1;
    }

-- what right symbols are
pub record Symbols (k : Coding) (map messages damage : List ℕ) : Type 0 where
  pub bits : all_below 2 map ≡ true
  pub sent : all_below k.codec.alphabet messages ≡ true
  pub found : all_below k.codec.found_bound damage ≡ true

pub symbols-of : (k : Coding) (map messages damage : List ℕ) → lanes_in_alphabet k map messages damage ≡ true → Symbols k map messages damage
symbols-of k map messages damage e =
    let sent = all_below k.codec.alphabet messages in
    let found = all_below k.codec.found_bound damage in
    let e₂ = both (all_below 2 map && sent) found e in
    let e₁ = both (all_below 2 map) sent e₂.0 in
    record { bits = e₁.0; sent = e₁.1; found = e₂.1 }

-- ---- The outcome

module _ (k : Coding) (d : ℕ) (map messages damage words strip read : List ℕ) where
  abbrev outcome : LanesRoundTrip
  outcome = lanes_round_trip_under k d map messages damage words strip read

  -- 1 and 2, with the number that the figures have alone
  pub trip-unfit : (a : ℕ) → figures_under k ≡ unserved a → lanes_round_trip_as words strip read a ≡ outcome
  unfolding lanes_round_trip_under
  trip-unfit a e =
      let found = found_interleaved k d map messages damage in
      sym (refused-alike k a (lanes_round_trip_as words strip read)
      (must (in_depth d) (lanes_round_trip_as words strip read bad_depth)
      (must (lanes_sized k d map messages damage words strip read)
      (lanes_round_trip_as words strip read wrong_length)
      (must (lanes_in_alphabet k map messages damage) (lanes_round_trip_as words strip read bad_symbol)
      (must (lanes_covered k d map) (lanes_round_trip_as (deinterleaved d k.codec.word_len map) strip read uncovered)
      (lanes_round_trip_as (deinterleaved d k.codec.word_len found) found messages served))))) e)

  module _ (range : k.in_range ≡ true) (fit : k.fits ≡ true) where
    pub trip-depth : in_depth d ≡ false → lanes_round_trip_as words strip read bad_depth ≡ outcome
    unfolding lanes_round_trip_under
    trip-depth e = rw (e, fit, range)

    module _ (depth : in_depth d ≡ true) where
      pub trip-sizes : lanes_sized k d map messages damage words strip read ≡ false
          → lanes_round_trip_as words strip read wrong_length ≡ outcome
      unfolding lanes_round_trip_under
      trip-sizes e = rw (e, depth, fit, range)

      module _ (sizes : lanes_sized k d map messages damage words strip read ≡ true) where
        pub trip-symbols : lanes_in_alphabet k map messages damage ≡ false → lanes_round_trip_as words strip read bad_symbol ≡ outcome
        unfolding lanes_round_trip_under
        trip-symbols e = rw (e, sizes, depth, fit, range)

        module _ (symbols : lanes_in_alphabet k map messages damage ≡ true) where
          pub trip-uncovered : lanes_covered k d map ≡ false → lanes_round_trip_as (deinterleaved d k.codec.word_len map) strip read uncovered ≡ outcome
          unfolding lanes_round_trip_under
          trip-uncovered e = rw (e, symbols, sizes, depth, fit, range)

          pub trip-served : lanes_covered k d map ≡ true
              → (let found = found_interleaved k d map messages damage in
              lanes_round_trip_as (deinterleaved d k.codec.word_len found) found messages served ≡ outcome)
          unfolding lanes_round_trip_under
          trip-served e = rw (e, symbols, sizes, depth, fit, range)

  -- 6 comes of maps that can't be covered, and of nothing else
  pub six-uncovered : outcome.answer ≡ uncovered → (k.in_range ≡ true) × ((k.fits ≡ true) × (lanes_covered k d map ≡ false))
  unfolding lanes_round_trip_under
  six-uncovered e =
      let sizes = lanes_sized k d map messages damage words strip read in
      by_bool k.in_range
      (λ i. by_bool k.fits
      (λ j. by_bool (in_depth d)
      (λ t. by_bool sizes
      (λ l. by_bool (lanes_in_alphabet k map messages damage)
      (λ s. by_bool (lanes_covered k d map)
      (λ v. absurd (let z : ◌≡◌ {A = ℕ} 0 6 = rw (v, s, l, t, j, i) at e in omega arith))
      (λ v. (i, (j, v))))
      (λ s. absurd (let z : ◌≡◌ {A = ℕ} 4 6 = rw (s, l, t, j, i) at e in omega arith)))
      (λ l. absurd (let z : ◌≡◌ {A = ℕ} 3 6 = rw (l, t, j, i) at e in omega arith)))
      (λ t. absurd (let z : ◌≡◌ {A = ℕ} 18 6 = rw (t, j, i) at e in omega arith)))
      (λ j. absurd (let z : ◌≡◌ {A = ℕ} 2 6 = rw (j, i) at e in omega arith)))
      (λ i. absurd (let z : ◌≡◌ {A = ℕ} 1 6 = rw i at e in omega arith))
