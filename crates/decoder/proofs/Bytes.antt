-- Laws of the reader for C: starts as bytes, and its refusals. Assumes nothing.
use mathlib.Core.Path.{◌≡◌, refl, sym, ap, ◌∙◌}
use mathlib.Core.Logic.{◌≢◌}
use mathlib.Core.Bool.{true}
use mathlib.Core.List.{List, [], ◌∷◌}
use Prim.Native.Nat.{ℕ, zero, suc, ◌+◌, ◌*◌, ◌/◌, ◌%◌, ◌≤◌, ◌<◌}
use native.Mathlib.Omega.{arith}
use lib.Dec.{eqb}
use lib.ListN.{length, get_or, take, set, length-set}
use lib.Seq.{take_all}
use Rattle.refusals.specs.Refusals.{must, served, wrong_length}
use Rattle.combinatorics.proofs.Cases.{eqb_same, eqb-other}
use Rattle.combinatorics.proofs.Lists.{fill-turn, fill_done}
use Rattle.cells.specs.Bytes.{byte_values}
use Rattle.cells.specs.Figures.{max_bursts}
use Rattle.cells.specs.Outcomes.{Coding, unserved, figures_under, rank_is, Decoded as Outcome, decode_under}
use Rattle.cells.proofs.Outcomes.{refused-alike}
use Rattle.placements.specs.Bridge.{starts_in}
use Rattle.decoder.specs.declared.Decoded.{Decoded}
use Rattle.std.specs.Prelude.{Ok, Err}
use Rattle.refusals.specs.declared.Refusal.{Refusal}
use Rattle.decoder.specs.Answer.{answer_as, decoded_by, decoded_as}
use Rattle.decoder.specs.Exported.{lent_as, start_bytes, exported_as, exported_under}
use Rattle.decoder.specs.Reader.{StartsFit}

-- ---- Starts as bytes

pub length-bytes : (ss : List ℕ) → length (start_bytes ss) ≡ 2 * length ss
unfolding start_bytes
length-bytes [] = refl
length-bytes (s ∷ ss) = omega (arith, length-bytes ss)

pub byte_high : (ss : List ℕ) (i : ℕ) → i < length ss → get_or (start_bytes ss) (2 * i) 0 ≡ get_or ss i 0 / byte_values
unfolding start_bytes
byte_high [] i h = absurd (omega arith)
byte_high (s ∷ ss) zero h = refl
byte_high (s ∷ ss) (suc i) h =
    let e : 2 * suc i ≡ suc (suc (2 * i)) = omega arith in
    rw e (byte_high ss i (omega arith))

pub byte_low : (ss : List ℕ) (i : ℕ) → i < length ss → get_or (start_bytes ss) (2 * i + 1) 0 ≡ get_or ss i 0 % byte_values
unfolding start_bytes
byte_low [] i h = absurd (omega arith)
byte_low (s ∷ ss) zero h = refl
byte_low (s ∷ ss) (suc i) h =
    let e : 2 * suc i + 1 ≡ suc (suc (2 * i + 1)) = omega arith in
    rw e (byte_low ss i (omega arith))

-- as a loop goes: one start more
module _ (ss out : List ℕ) (j : ℕ) (size : length out ≡ 2 * length ss) (so_far : take (2 * j) out ≡ take (2 * j) (start_bytes ss)) where
  pub bytes-turn : j < length ss
      → take (2 * (j + 1)) (set (set out (2 * j) (get_or ss j 0 / byte_values)) (2 * j + 1) (get_or ss j 0 % byte_values)) ≡ take (2 * (j + 1)) (start_bytes ss)
  bytes-turn h =
      let t = start_bytes ss in
      let e : 2 * (j + 1) ≡ 2 * j + 1 + 1 = omega arith in
      let high = fill-turn out t (2 * j) (omega arith) (omega (arith, length-bytes ss)) so_far in
      rw (e, ← byte_high ss j h, ← byte_low ss j h)
      (fill-turn (set out (2 * j) (get_or t (2 * j) 0)) t (2 * j + 1) (simp length-set (omega arith)) (omega (arith, length-bytes ss)) high)

  pub bytes-done : j ≡ length ss → out ≡ start_bytes ss
  bytes-done e =
      fill_done out (start_bytes ss) (2 * j) (omega arith) so_far (omega arith) ∙ take_all (length out) (start_bytes ss) (omega (arith, length-bytes ss))

-- ---- "word read 1 2 3 4 7 8 9"

module _ (d : Coding) (w out bytes : List ℕ) where
  -- 1 and 2, with the number that the figures have alone
  pub exported-unfit : (a : ℕ) → figures_under d ≡ unserved a → exported_under d w out bytes ≡ lent_as a out bytes
  exported-unfit a e =
      refused-alike d a (λ x. lent_as x out bytes)
      (must (eqb (length bytes) (2 * d.bursts)) (lent_as wrong_length out bytes)
      (exported_as bytes (decode_under d w out))) e

  module _ (range : d.in_range ≡ true) (fit : d.fits ≡ true) where
    -- 3, for the starts
    pub exported-length : length bytes ≢ 2 * d.bursts → exported_under d w out bytes ≡ lent_as wrong_length out bytes
    exported-length size = rw (range, fit, eqb-other (length bytes) (2 * d.bursts) size)

    -- and what the word reader answers
    exported-read : length bytes ≡ 2 * d.bursts → exported_under d w out bytes ≡ exported_as bytes (decode_under d w out)
    exported-read size = rw (range, fit, eqb_same (length bytes) (2 * d.bursts) size)

    -- put into the lent buffers
    pub exported-put : length bytes ≡ 2 * d.bursts → (r : Decoded Refusal) (left : List ℕ) → decoded_as r left ≡ decode_under d w out
        → (a : ℕ) (starts : List ℕ) → lent_as a left starts ≡ exported_as bytes (decoded_as r left) → lent_as a left starts ≡ exported_under d w out bytes
    exported-put size r left e a starts put = put ∙ ap (exported_as bytes) e ∙ sym (exported-read size)

  -- an accepted word has as many starts as the figures have bursts
  pub starts_fit : (m : ℕ) → ((v : ℕ) → (decode_under d w out).answer ≡ rank_is v → (decode_under d w out).placement.count ≡ m) → m ≤ max_bursts
      → length bytes ≡ 2 * m
      → (r : Decoded Refusal) (left : List ℕ) → decoded_as r left ≡ decode_under d w out → StartsFit r bytes
  starts_fit m counts few size r left e v told =
      let count : r.placement.count ≡ m =
      ap (λ (o : Outcome). o.placement.count) e ∙ counts v (sym (ap (λ (o : Outcome). o.answer) e) ∙ ap answer_as told) in
      (omega (arith, count), omega (arith, count))

-- the word reader's answer in code, taken apart
module _ {E : Type 0} (number : E → ℕ) (bytes out : List ℕ) (d : Decoded E) where
  pub exported-refused : (a : E) → d.answer ≡ Err a → exported_as bytes (decoded_by number d out) ≡ lent_as (number a) out bytes
  exported-refused a e = rw e

  pub exported-served : (v : ℕ) → d.answer ≡ Ok v
      → exported_as bytes (decoded_by number d out) ≡ lent_as served out (start_bytes (starts_in d.placement))
  exported-served v e = rw e
