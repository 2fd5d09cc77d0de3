-- Laws of words on bytes, under any figures. Assumes nothing.
use mathlib.Core.Path.{◌≡◌, ap₂}
use mathlib.Core.Logic.{◌≢◌}
use mathlib.Core.Bool.{true}
use mathlib.Core.List.{List}
use Prim.Native.Nat.{ℕ, ◌*◌, ◌≤◌}
use native.Mathlib.Omega.{arith}
use lib.Dec.{eqb}
use lib.ListN.{length}
use Rattle.refusals.specs.Refusals.{must, wrong_length}
use Rattle.combinatorics.proofs.Cases.{by-eq, by_bool, eqb_same, eqb-other, leb-holds}
use Rattle.cells.specs.Figures.{max_bursts}
use Rattle.cells.specs.Outcomes.{Coding, Held, held, unserved, figures_under, Encoded, unwritten, encode_under}
use Rattle.cells.proofs.Outcomes.{refused-alike}
use Rattle.lent.specs.Starts.{starts_from, placement_from}
use Rattle.lent.specs.Words.{encode_bytes_under}

-- ---- "word write 1 2 3 5 4": a placement without starts is refused where the bytes of the starts are

pub encode-bytes : (d : Coding) → (d.in_range ≡ true → (1 ≤ d.bursts) × (d.bursts ≤ max_bursts)) → (starts ms out : List ℕ)
    → encode_under d (placement_from d.bursts starts) ms out ≡ encode_bytes_under d starts ms out
unfolding encode_bytes_under
encode-bytes d some-bursts starts ms out =
    let m = d.bursts in
    by_bool d.in_range
    (λ i. by_bool d.fits
    (λ h. by-eq (length starts) (2 * m) (λ _. encode_under d at ms out ≡ encode_bytes_under d starts ms out)
    (λ e. rw (i, h, leb-holds m max_bursts (some-bursts i).1, eqb_same (length starts) (2 * m) e))
    (λ e. rw (i, h, leb-holds m max_bursts (some-bursts i).1, eqb-other (length starts) (2 * m) e)
    (rw (eqb-other 0 m (λ z. absurd (omega (arith, (some-bursts i).0, z)))))))
    (λ h. rw (i, h)))
    (λ i. rw i)
  where
    at : Held
    at = placement_from d.bursts starts

-- ---- The same refusal by refusal

module _ (d : Coding) (starts ms out : List ℕ) where
  -- 1 and 2, with the number that the figures have alone
  pub encode-unfit : (a : ℕ) → figures_under d ≡ unserved a → encode_bytes_under d starts ms out ≡ unwritten out a
  unfolding encode_bytes_under
  encode-unfit a e =
      refused-alike d a (unwritten out)
      (must (eqb (length starts) (2 * d.bursts)) (unwritten out wrong_length) (encode_under d (held (starts_from starts)) ms out)) e

  module _ (range : d.in_range ≡ true) (fit : d.fits ≡ true) where
    -- 3 for the bytes of the starts
    pub encode-length : length starts ≢ 2 * d.bursts → encode_bytes_under d starts ms out ≡ unwritten out wrong_length
    unfolding encode_bytes_under
    encode-length e = rw (range, fit, eqb-other (length starts) (2 * d.bursts) e)

    -- and otherwise word write
    pub encode-placed : length starts ≡ 2 * d.bursts → encode_bytes_under d starts ms out ≡ encode_under d (held (starts_from starts)) ms out
    unfolding encode_bytes_under
    encode-placed e = rw (range, fit, eqb_same (length starts) (2 * d.bursts) e)

-- ---- Word write's answer and word

-- what a caller of word write is told: the answer, and what the lent word then holds
pub all_told : {w : List ℕ} {n : ℕ} (o : Encoded) → w ≡ o.word → n ≡ o.answer → unwritten w n ≡ o
all_told o = ap₂ (λ (w : List ℕ) (n : ℕ). unwritten w n)
