-- What word write answers where the figures are refused, and where nothing is. Assumes nothing.
use mathlib.Core.Path.{◌≡◌, sym, ap}
use mathlib.Core.Bool.{true, ◌&&◌}
use mathlib.Core.List.{List}
use Prim.Native.Nat.{ℕ}
use lib.Dec.{eqb}
use lib.ListN.{length}
use Rattle.refusals.specs.Refusals.{must, served, wrong_length, bad_symbol, bad_starts}
use Rattle.combinatorics.specs.Bursts.{apart}
use Rattle.combinatorics.specs.Lists.{all_below}
use Rattle.combinatorics.proofs.Cases.{eqb_same}
use Rattle.cells.specs.Outcomes.{Coding, Held, in_use, unserved, figures_under, Encoded, unwritten, encode_under}
use Rattle.cells.proofs.Outcomes.{refused-alike}

-- what a caller is told: the answer, and what the lent word then holds
abbrev pub Told : ℕ → List ℕ → Encoded → Type 0
Told answer out o = (answer ≡ o.answer) × (out ≡ o.word)

pub told : (o o' : Encoded) → o ≡ o' → Told o'.answer o'.word o
told o o' e = (ap (λ (x : Encoded). x.answer) (sym e), ap (λ (x : Encoded). x.word) (sym e))

module _ (d : Coding) (at : Held) (ms out : List ℕ) where
  -- 1 and 2, with the number that the figures have alone
  pub encode-unfit : (a : ℕ) → figures_under d ≡ unserved a → encode_under d at ms out ≡ unwritten out a
  encode-unfit a e =
      let c = d.codec in
      refused-alike d a (unwritten out)
      (must (eqb at.count d.bursts && eqb (length ms) c.message_len_of && eqb (length out) c.word_len) (unwritten out wrong_length)
      (must (apart d.burst_len c.word_len 0 (in_use at)) (unwritten out bad_starts)
      (must (all_below c.alphabet ms) (unwritten out bad_symbol)
      (record { answer = served; word = c.encode (in_use at) ms })))) e

  module _ (range : d.in_range ≡ true) (fit : d.fits ≡ true) where
    pub encode-served : at.count ≡ d.bursts → length ms ≡ d.codec.message_len_of → length out ≡ d.codec.word_len
        → apart d.burst_len d.codec.word_len 0 (in_use at) ≡ true → all_below d.codec.alphabet ms ≡ true
        → encode_under d at ms out ≡ record { answer = served; word = d.codec.encode (in_use at) ms }
    encode-served e k n a h =
        rw (range, fit, eqb_same at.count d.bursts e, eqb_same (length ms) d.codec.message_len_of k, eqb_same (length out) d.codec.word_len n, a, h)
