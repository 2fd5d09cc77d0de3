-- Demand 1 of the calls on words: figures, writing, covering, reading, checking, and words side by side. Assumes nothing.
use mathlib.Core.Path.{◌≡◌, refl}
use mathlib.Core.Bool.{Bool, true, false, cond, ◌&&◌}
use mathlib.Core.List.{List, [], ◌∷◌}
use Prim.Native.Nat.{ℕ, suc, ◌*◌}
use native.Mathlib.Omega.{arith}
use lib.Dec.{eqb, ltb}
use lib.ListN.{length}
use Rattle.refusals.specs.Refusals.{served}
use Rattle.combinatorics.specs.Lists.{all, any, all_below}
use Rattle.combinatorics.specs.Bursts.{apart, cover_rank}
use Rattle.cells.specs.Outcomes.{Coding, Held, held, in_use, FiguresOut, figures_number, figures_under, encode_under, defect_at, Covered, cover_under}
use Rattle.cells.specs.Outcomes.{answer_number, Decoded, decoded_from, decode_under}
use Rattle.jobcodec.specs.DemandThree.{is_refusal}
use Rattle.lanes.specs.Interleaving.{in_depth, interleaved, deinterleaved}
use Rattle.lanes.specs.Outcomes.{Rearranged, rearranged, interleave_under, deinterleave_under}
use Rattle.verifier.specs.Verify.{agrees_outside, agreeing, differing, unchecked, verify_under}
use Rattle.lent.specs.Check.{differs}
use Rattle.demands.specs.Orders.{figures_alone, word_write, covering, rearrangement}
use Rattle.demands.proofs.Answering.{keep, done, tested, Owns, by-own, Begins}
use Rattle.demands.proofs.Answering.{Writes}
use Rattle.demands.specs.DemandOne.{AnswersBy, ChecksBy}

-- ---- Words

pub figures-alone : (d : Coding) → AnswersBy {A = Unit {0}} figures_alone (figures_number (figures_under d)) tt tt
unfolding is_refusal all any
figures-alone d = tested P d.in_range (keep refl refl) (tested P d.fits (keep refl refl) (done refl))
  where
    P : FiguresOut → Type 0
    P o = AnswersBy {A = Unit {0}} figures_alone (figures_number o) tt tt

pub word-write : (d : Coding) (at : Held) (ms out : List ℕ) → Writes word_write out (encode_under d at ms out)
unfolding is_refusal all any
word-write d at ms out =
    let P = Writes word_write out in
    let c = d.codec in
    tested P d.in_range (keep refl refl)
    (tested P d.fits (keep refl refl)
    (tested P (eqb at.count d.bursts && eqb (length ms) c.message_len_of && eqb (length out) c.word_len) (keep refl refl)
    (tested P (apart d.burst_len c.word_len 0 (in_use at)) (keep refl refl)
    (tested P (all_below c.alphabet ms) (keep refl refl)
    (done refl)))))

abbrev Covers : Covered → Type 0
Covers o = AnswersBy covering o.answer (held []) o.placement

pub cover : (d : Coding) (map : List ℕ) → Covers (cover_under d map)
unfolding is_refusal all any
cover d map =
    let n = d.codec.word_len in
    tested Covers d.in_range (keep refl refl)
    (tested Covers d.fits (keep refl refl)
    (tested Covers (eqb (length map) n) (keep refl refl)
    (tested Covers (all_below 2 map) (keep refl refl)
    (tested Covers (ltb (cover_rank n d.bursts d.burst_len (defect_at map)) d.placement_count_of) (keep refl refl)
    (done refl)))))

abbrev Reads : List ℕ → List ℕ → Decoded → Type 0
Reads order out o = AnswersBy {A = Held × List ℕ} order (answer_number o.answer) (held [], out) (o.placement, o.message)

-- behind them the code's own reading answers by the order
abbrev pub ReadsBehind : List ℕ → Coding → Type 0
ReadsBehind order d = (w out : List ℕ) → Reads order out (decoded_from d.burst_len out (d.codec.decode w))

pub word-read : (order : List ℕ) → Begins order → (d : Coding) → ReadsBehind order d → (w out : List ℕ) → Reads order out (decode_under d w out)
word-read order b d behind w out =
    let P = Reads order out in
    let c = d.codec in
    tested P d.in_range (keep b.numbers b.one)
    (tested P d.fits (keep b.numbers b.two)
    (tested P (eqb (length w) c.word_len && eqb (length out) c.message_len_of) (keep b.numbers b.three)
    (tested P (all_below c.found_bound w) (keep b.numbers b.four)
    (behind w out))))

-- of any code whose refusals the order has
pub behind : (order : List ℕ) → all is_refusal order ≡ true → (d : Coding) → Owns order d → ReadsBehind order d
behind order n d own w out =
    by-own (λ r. Reads order out (decoded_from d.burst_len out r)) (λ a h. keep n h) (λ ss ms. done n) (d.codec.decode w) (own w)

-- a refusal of the check: its number is not 0
pub turned-away : (a : ℕ) → any (eqb (suc a)) (served ∷ word_write) ≡ true → any (eqb (suc a)) (served ∷ differs ∷ word_write) ≡ true
    → ChecksBy (unchecked (suc a))
unfolding is_refusal any
turned-away a r n = record { refusal = r; number = n; only_yes = λ e. absurd (omega (arith, e)); no-refusal = refl }

told : (b : Bool) → ChecksBy (cond b agreeing differing)
unfolding is_refusal any
told true = record { refusal = refl; number = refl; only_yes = λ _. refl; no-refusal = refl }
told false = record { refusal = refl; number = refl; only_yes = λ e. absurd (omega (arith, e)); no-refusal = refl }

pub verify : (d : Coding) (at : Held) (ms w : List ℕ) → ChecksBy (verify_under d at ms w)
unfolding any
verify d at ms w =
    let c = d.codec in
    tested ChecksBy d.in_range (turned-away 0 refl refl)
    (tested ChecksBy d.fits (turned-away 1 refl refl)
    (tested ChecksBy (eqb at.count d.bursts && eqb (length ms) c.message_len_of && eqb (length w) c.word_len) (turned-away 2 refl refl)
    (tested ChecksBy (apart d.burst_len c.word_len 0 (in_use at)) (turned-away 4 refl refl)
    (tested ChecksBy (all_below c.alphabet ms && all_below c.found_bound w) (turned-away 3 refl refl)
    (told (agrees_outside c w (in_use at) ms))))))

-- ---- Words side by side

module _ (c : Coding) (d : ℕ) where
  rearranges : (bound : ℕ) (from out filled : List ℕ)
      → AnswersBy rearrangement (rearranged c d bound from out filled).answer out (rearranged c d bound from out filled).buffer
  unfolding is_refusal all any
  rearranges bound from out filled =
      let P : Rearranged → Type 0 = λ o. AnswersBy rearrangement o.answer out o.buffer in
      let n = c.codec.word_len in
      tested P c.in_range (keep refl refl)
      (tested P c.fits (keep refl refl)
      (tested P (in_depth d) (keep refl refl)
      (tested P (eqb (length from) (d * n) && eqb (length out) (d * n)) (keep refl refl)
      (tested P (all_below bound from) (keep refl refl)
      (done refl)))))

  pub interleave : (words out : List ℕ) → AnswersBy rearrangement (interleave_under c d words out).answer out (interleave_under c d words out).buffer
  interleave words out = rearranges c.codec.alphabet words out (interleaved d c.codec.word_len words)

  pub deinterleave : (strip out : List ℕ) → AnswersBy rearrangement (deinterleave_under c d strip out).answer out (deinterleave_under c d strip out).buffer
  deinterleave strip out = rearranges c.codec.found_bound strip out (deinterleaved d c.codec.word_len strip)
