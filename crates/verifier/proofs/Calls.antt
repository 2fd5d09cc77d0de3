-- That the check answers as its definition says, refusal by refusal: up to the word's own symbols it meets what writing meets. Assumes nothing.
use mathlib.Core.Path.{◌≡◌, refl, sym, ap, ◌∙◌}
use mathlib.Core.Logic.{◌≢◌}
use mathlib.Core.Bool.{Bool, true, false, not, cond, ◌&&◌}
use mathlib.Core.List.{List}
use Prim.Native.Nat.{ℕ}
use native.Mathlib.Omega.{arith}
use lib.Dec.{eqb}
use lib.ListN.{length}
use Rattle.refusals.specs.Refusals.{must, served, invalid, unfit, wrong_length, bad_symbol, bad_starts}
use Rattle.combinatorics.specs.Bursts.{apart, in_burst, covers}
use Rattle.combinatorics.specs.Lists.{all_below}
use Rattle.combinatorics.proofs.Cases.{eqb-other, eqb-true}
use Rattle.combinatorics.proofs.Lists.{both}
use Rattle.combinatorics.proofs.Stretch.{has-ext}
use Rattle.cells.specs.Codec.{Codec}
use Rattle.cells.specs.Outcomes.{Coding, Held, in_use, unserved, figures_under, Encoded, unwritten, encode_under}
use Rattle.cells.proofs.Outcomes.{refused-alike}
use Rattle.placements.specs.Bridge.{differ_at}
use Rattle.verifier.specs.Verify.{differs_at, agrees_outside, Verdict, agreeing, differing, unchecked, verify_under}

last-false : (a : Bool) → (a && false) ≡ false
last-false true = refl
last-false false = refl

module _ (d : Coding) (at : Held) (ms w : List ℕ) where
  -- 1 and 2, with the number that the figures have alone
  pub verify-unfit : (a : ℕ) → figures_under d ≡ unserved a → verify_under d at ms w ≡ unchecked a
  verify-unfit a e = refused-alike d a unchecked _ e

  module _ (range : d.in_range ≡ true) (fit : d.fits ≡ true) where
    -- 3 for a placement of other than m bursts
    pub verify-count : at.count ≢ d.bursts → verify_under d at ms w ≡ unchecked wrong_length
    verify-count other = rw (range, fit, eqb-other at.count d.bursts other)

    -- 3 for the word
    pub verify-short : length w ≢ d.codec.word_len → verify_under d at ms w ≡ unchecked wrong_length
    verify-short other =
        rw (
          range,
          fit,
          eqb-other (length w) d.codec.word_len other,
          last-false (eqb at.count d.bursts && eqb (length ms) d.codec.message_len_of),
        )

-- ---- What writing refuses, and what is left where it doesn't

-- the two orders side by side, over the tests of both: figures, lengths, starts, message; and that of the word
abbrev writes : Bool → Bool → Bool → Bool → Bool → List ℕ → List ℕ → Encoded
writes r t l p s out v =
    must r (unwritten out invalid)
    (must t (unwritten out unfit)
    (must l (unwritten out wrong_length)
    (must p (unwritten out bad_starts)
    (must s (unwritten out bad_symbol)
    (record { answer = served; word = v })))))

abbrev checks : Bool → Bool → Bool → Bool → Bool → Bool → Verdict → Verdict
checks r t l p s z told =
    must r (unchecked invalid)
    (must t (unchecked unfit)
    (must l (unchecked wrong_length)
    (must p (unchecked bad_starts)
    (must (s && z) (unchecked bad_symbol) told))))

-- a written word, and the check as far as the word's own symbols
pub record Wrote (d : Coding) (at : Held) (ms w out : List ℕ) : Type 0 where
  pub word-is : (encode_under d at ms out).word ≡ d.codec.encode (in_use at) ms
  pub count : at.count ≡ d.bursts
  pub rest : verify_under d at ms w ≡ must (all_below d.codec.found_bound w) (unchecked bad_symbol)
      (cond (agrees_outside d.codec w (in_use at) ms) agreeing differing)

refuses : (r t l p s z : Bool) (out v : List ℕ) (told : Verdict) → (writes r t l p s out v).answer ≢ served
    → checks r t l p s z told ≡ unchecked (writes r t l p s out v).answer
refuses false t l p s z out v told h = refl
refuses true false l p s z out v told h = refl
refuses true true false p s z out v told h = refl
refuses true true true false s z out v told h = refl
refuses true true true true false z out v told h = refl
refuses true true true true true z out v told h = absurd (h refl)

passes : (r t l p s z : Bool) (out v : List ℕ) (told : Verdict) → (writes r t l p s out v).answer ≡ served
    → ((writes r t l p s out v).word ≡ v) × (r ≡ true) × (l ≡ true) × (checks r t l p s z told ≡ must z (unchecked bad_symbol) told)
passes false t l p s z out v told h = absurd (omega (arith, h))
passes true false l p s z out v told h = absurd (omega (arith, h))
passes true true false p s z out v told h = absurd (omega (arith, h))
passes true true true false s z out v told h = absurd (omega (arith, h))
passes true true true true false z out v told h = absurd (omega (arith, h))
passes true true true true true z out v told h = (refl, refl, refl, refl)

module _ (d : Coding) (at : Held) (ms w out : List ℕ) (sized : length out ≡ length w) where
  abbrev lengths : Bool
  lengths = eqb at.count d.bursts && eqb (length ms) d.codec.message_len_of && eqb (length w) d.codec.word_len

  abbrev verdict : Verdict
  verdict = cond (agrees_outside d.codec w (in_use at) ms) agreeing differing

  written : encode_under d at ms out
      ≡ writes d.in_range d.fits lengths (apart d.burst_len d.codec.word_len 0 (in_use at)) (all_below d.codec.alphabet ms) out
      (d.codec.encode (in_use at) ms)
  written = rw sized

  pub verify-refused : (encode_under d at ms out).answer ≢ served → verify_under d at ms w ≡ unchecked (encode_under d at ms out).answer
  verify-refused h =
      rw written
      (refuses d.in_range d.fits lengths (apart d.burst_len d.codec.word_len 0 (in_use at)) (all_below d.codec.alphabet ms)
      (all_below d.codec.found_bound w) out (d.codec.encode (in_use at) ms) verdict (rw written at h))

  pub verify-passed : (encode_under d at ms out).answer ≡ served → Wrote d at ms w out
  verify-passed h =
      let p = passes d.in_range d.fits lengths (apart d.burst_len d.codec.word_len 0 (in_use at)) (all_below d.codec.alphabet ms)
      (all_below d.codec.found_bound w) out (d.codec.encode (in_use at) ms) verdict (rw written at h) in
      let sizes = both (eqb at.count d.bursts && eqb (length ms) d.codec.message_len_of) (eqb (length w) d.codec.word_len) p.2 in
      record {
        word-is = rw written p.0;
        count = eqb-true at.count d.bursts (both (eqb at.count d.bursts) (eqb (length ms) d.codec.message_len_of) sizes.0).0;
        rest = p.3;
      }

turned : (a b : Bool) → (a && not b) ≡ (not b && a)
turned true true = refl
turned true false = refl
turned false true = refl
turned false false = refl

-- the bursts cover every difference exactly where the word agrees outside them
pub agreement : (c : Codec) (b : ℕ) → ((starts : List ℕ) (x : ℕ) → c.spoilt starts x ≡ in_burst b starts x) → (w starts ms : List ℕ)
    → covers c.word_len b (differ_at w (c.encode starts ms)) starts ≡ agrees_outside c w starts ms
unfolding covers agrees_outside
agreement c b spoils w starts ms =
    ap not (has-ext c.word_len 0 (λ x. differ_at w (c.encode starts ms) x && not (in_burst b starts x)) (differs_at c w starts ms)
    (λ x _ _. turned (differ_at w (c.encode starts ms) x) (in_burst b starts x)
    ∙ ap (λ (t : Bool). not t && differ_at w (c.encode starts ms) x) (sym (spoils starts x))))
