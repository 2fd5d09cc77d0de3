-- A word that is damaged inside its bursts reads back. Assumes nothing.
use mathlib.Core.Path.{◌≡◌, sym, ap, ◌∙◌}
use mathlib.Core.Bool.{Bool, true, false, cond}
use mathlib.Core.List.{List}
use Prim.Native.Nat.{ℕ, ◌≤◌, ◌<◌}
use native.Mathlib.Nat.{zero-add}
use native.Mathlib.Omega.{arith}
use lib.ListN.{length, get_or}
use Rattle.combinatorics.specs.Bursts.{in_burst}
use Rattle.combinatorics.specs.Lists.{all_below}
use Rattle.combinatorics.proofs.Cases.{by_bool}
use Rattle.combinatorics.proofs.Lists.{below_at, at-below}
use Rattle.combinatorics.proofs.Members.{length-tabulate, tabulate-at}
use Rattle.cells.specs.Codec.{LeadsTo}
use Rattle.cells.specs.Figures.{max_bursts}
use Rattle.cells.specs.Outcomes.{Coding, Held, in_use, Encoded, encode_under, decoded_from, decode_under}
use Rattle.codes.specs.Bridge.{coding_of}
use Rattle.codes.specs.declared.Figures.{Figures}
use Rattle.codes.proofs.Layouts.{small}
use Rattle.codes.proofs.Exact.{demand-two, placed-is, more-found, spoilt-is}
use Rattle.encoder.proofs.Outcomes.{encode-served}
use Rattle.decoder.proofs.Calls.{decode-read}
use Rattle.roundtrip.specs.Damage.{damaged}
use Rattle.roundtrip.specs.RoundTrip.{Writable, read_back}

module _ (spoilt : ℕ → Bool) (ds w : List ℕ) where
  pub damaged-length : length (damaged spoilt ds w) ≡ length w
  unfolding damaged
  damaged-length = length-tabulate (length w) 0 (λ x. cond (spoilt x) (get_or ds x 0) (get_or w x 0))

  damaged-at : (x : ℕ) → x < length w → get_or (damaged spoilt ds w) x 0 ≡ cond (spoilt x) (get_or ds x 0) (get_or w x 0)
  unfolding damaged
  damaged-at x l = tabulate-at (length w) 0 x (λ y. cond (spoilt y) (get_or ds y 0) (get_or w y 0)) l ∙ rw (zero-add x)

  -- outside nothing is changed
  pub sound : (x : ℕ) → x < length w → spoilt x ≡ false → get_or (damaged spoilt ds w) x 0 ≡ get_or w x 0
  sound x l e = damaged-at x l ∙ rw e

  pub damaged-below : (q bound : ℕ) → 0 < q → q ≤ bound → all_below bound ds ≡ true → all_below q w ≡ true → all_below bound (damaged spoilt ds w) ≡ true
  damaged-below q bound some more d s =
      at-below bound (damaged spoilt ds w)
      (λ x l. rw (damaged-at x (omega (arith, damaged-length)))
      (by_bool (spoilt x) (λ e. rw e (below_at bound ds (omega arith) d x)) (λ e. rw e (omega (arith, below_at q w some s x)))))

-- ---- Under the figures of each code

module _ (f : Figures) (at : Held) (ms ds w out : List ℕ) (h : Writable (coding_of f) at ms ds w out) where
  abbrev d : Coding
  d = coding_of f

  pub is-written : (encode_under (coding_of f) at ms w).word ≡ (coding_of f).codec.encode (in_use at) ms
  is-written =
      ap (λ (o : Encoded). o.word) (encode-served d at ms w h.range h.fit h.count h.sent h.word-len (placed-is f (in_use at) h.placed).1
      h.symbols)

  -- what is written, and what is found once it is damaged
  abbrev codeword : List ℕ
  codeword = (coding_of f).codec.encode (in_use at) ms

  abbrev found : List ℕ
  found = damaged (in_burst (coding_of f).burst_len (in_use at)) ds codeword

  pub few-bursts : at.count ≤ max_bursts
  few-bursts = omega (arith, h.count, (small f h.range).bursts-most)

  pub written-len : length codeword ≡ (coding_of f).codec.word_len
  written-len = ((demand-two f h.range h.fit).written (in_use at) ms h.placed h.sent h.symbols).0

  found-len : length found ≡ d.codec.word_len
  found-len = damaged-length (in_burst d.burst_len (in_use at)) ds codeword ∙ written-len

  found_below : all_below d.codec.found_bound found ≡ true
  found_below =
      damaged-below (in_burst d.burst_len (in_use at)) ds codeword d.codec.alphabet d.codec.found_bound
      (omega (arith, (small f h.range).alphabet-least)) (more-found f)
      h.damage-symbols
      ((demand-two f h.range h.fit).written (in_use at) ms h.placed h.sent h.symbols).1

  leads : LeadsTo d.codec found (in_use at) ms
  leads =
      record {
        placement = h.placed;
        count = h.sent;
        symbols = h.symbols;
        outside = λ x l e. sound (in_burst d.burst_len (in_use at)) ds codeword x (omega (arith, written-len)) (sym (spoilt-is f (in_use at) x) ∙ e);
      }

  pub reads-back : decode_under (coding_of f) found out ≡ read_back (coding_of f) (in_use at) ms
  reads-back =
      decode-read d found out h.range h.fit found-len h.read-len found_below
      ∙ ap (decoded_from d.burst_len out) (((demand-two f h.range h.fit).exactly found (in_use at) ms
      (record { complete = found-len; symbols = found_below })).1 leads)
