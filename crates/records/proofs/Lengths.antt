-- The layout of the last accepted figures, and how long a record is by its letter. Assumes nothing.
use mathlib.Core.Path.{◌≡◌, refl, sym, ap, ap₂, subst, ◌∙◌}
use mathlib.Core.Logic.{◌≢◌}
use mathlib.Core.Bool.{Bool, true, false, cond}
use mathlib.Core.Option.{Option, none, some, none-ne-some, some-injective}
use Prim.Native.Nat.{ℕ, ◌+◌, ◌*◌, ◌≤◌}
use native.Mathlib.Nat.{div-le_self}
use native.Mathlib.Omega.{arith}
use lib.Dec.{eqb}
use Rattle.combinatorics.proofs.Cases.{eqb-other}
use Rattle.cells.specs.Bytes.{byte_width, payload_len}
use Rattle.cells.specs.Figures.{max_bursts, max_word, max_alphabet}
use Rattle.cells.specs.Outcomes.{FiguresOut, figured, unserved, figures_under}
use Rattle.cells.proofs.Outcomes.{figured-fits}
use Rattle.codes.specs.Answer.{figured_as, LaidAs, ServesAs}
use Rattle.codes.specs.Bridge.{coding_of}
use Rattle.codes.specs.declared.Figures.{Figures}
use Rattle.codes.specs.declared.WordLayout.{WordLayout}
use Rattle.std.specs.Prelude.{Result, Ok, Err, Some, None}
use Rattle.std.specs.Prelude.{Option as Optional}
use Rattle.refusals.specs.declared.Refusal.{Refusal}
use Rattle.records.specs.declared.LaidFigures.{LaidFigures}
use Rattle.codes.proofs.Layouts.{small}
use Rattle.codes.proofs.Answered.{laid-learnt, serves}
use Rattle.jobs.specs.Letters.{is_letter}
use Rattle.jobs.proofs.Letters.{no_kind}
use Rattle.records.specs.Session.{Session}
use Rattle.lines.specs.Lines.{letter_s, letter_l, letter_w, letter_r}
use Rattle.records.specs.Records.{record_head_len, if_fit, current, payload_len_of, write_len, read_len, record_len, max_record}
use Rattle.records.specs.Bridge.{IsCurrent, Current}

-- ---- The last accepted figures

-- "figures alone" answers for them
pub laid-current : (f : Figures) (r : Result WordLayout Refusal) (l : WordLayout) → r ≡ Ok l → figured_as r ≡ figures_under (coding_of f) → LaidAs f r → IsCurrent (some f) f l
laid-current f r l e answer laid =
    let is = laid-learnt f r l e answer laid in
    record { are = ap (if_fit f) (sym answer ∙ ap figured_as e); laid = subst (LaidAs f) e laid; numbers = is.2; small = is.3 }

pub refused-current : (f : Figures) (r : Result WordLayout Refusal) (a : Refusal) → r ≡ Err a → figured_as r ≡ figures_under (coding_of f) → current (some f) ≡ none
refused-current f r a e answer = ap (if_fit f) (sym answer ∙ ap figured_as e)

pub payload-within : (q k : ℕ) → payload_len q k ≤ k
unfolding payload_len
payload-within q k = div-le_self k (byte_width q)

module _ (last : Option Figures) (f : Figures) (l : WordLayout) (is : IsCurrent last f l) where
  pub word-short : l.n ≤ max_word
  word-short = omega (arith, is.numbers.word-is, is.small.word-most)

  pub bursts-few : l.m ≤ max_bursts
  bursts-few = omega (arith, is.numbers.bursts-is, is.small.bursts-most)

  pub alphabet-few : l.q ≤ max_alphabet
  alphabet-few = omega (arith, is.numbers.alphabet-is, is.small.alphabet-most)

  pub payload-is : payload_len l.q l.message_len ≡ payload_len_of f
  payload-is = ap₂ payload_len is.numbers.alphabet-is is.numbers.len_is

  pub payload-short : payload_len l.q l.message_len ≤ max_word
  payload-short = omega (arith, payload-within l.q l.message_len, is.numbers.len_is, is.small.message-most, is.small.word-most)

  pub write-len-is : some (record_head_len + 2 * l.m + payload_len l.q l.message_len) ≡ write_len (current last)
  write-len-is = rw (is.are, is.numbers.bursts-is, payload-is)

  pub read-len-is : some (record_head_len + l.n) ≡ read_len (current last)
  read-len-is = rw (is.are, is.numbers.word-is)

-- figures that are the last accepted ones fit
accepted-fit : (last : Option Figures) (f : Figures) → current last ≡ some f → ((coding_of f).in_range ≡ true) × ((coding_of f).fits ≡ true)
accepted-fit none f e = absurd (none-ne-some f e)
accepted-fit (some g) f e = go (figures_under (coding_of g)) refl e
  where
    go : (o : FiguresOut) → figures_under (coding_of g) ≡ o → if_fit g o ≡ some f → ((coding_of f).in_range ≡ true) × ((coding_of f).fits ≡ true)
    go (figured t r k) h e =
        subst (λ (x : Figures). ((coding_of x).in_range ≡ true) × ((coding_of x).fits ≡ true)) (some-injective g f e)
        (figured-fits (coding_of g) t r k h)
    go (unserved a) h e = absurd (none-ne-some f e)

-- .. and their layout gives what they give
pub current-serves : (last : Option Figures) (f : Figures) (l : WordLayout) → IsCurrent last f l → ServesAs f l
current-serves last f l is =
    let fit = accepted-fit last f is.are in
    let n = is.numbers in
    serves f (Ok l) l refl (rw (fit.0, fit.1, n.count-is, n.tail-is, n.len_is)) is.laid

-- ---- No record is longer than the buffer for it

-- a length, or 0 where there is none
abbrev pub or_zero : Option ℕ → ℕ
or_zero none = 0
or_zero (some k) = k

current-most : (last : Option Figures) → (or_zero (write_len (current last)) ≤ max_record) × (or_zero (read_len (current last)) ≤ max_record)
current-most none = (omega arith, omega arith)
current-most (some f) = go (figures_under (coding_of f)) refl
  where
    go : (o : FiguresOut) → figures_under (coding_of f) ≡ o → (or_zero (write_len (if_fit f o)) ≤ max_record) × (or_zero (read_len (if_fit f o)) ≤ max_record)
    go (figured t r k) e =
        let is = small f (figured-fits (coding_of f) t r k e).0 in
        let c = (coding_of f).codec in
        (omega (arith, is.word-most, is.bursts-most, is.message-most, payload-within c.alphabet c.message_len_of), omega (arith, is.word-most))
    go (unserved a) e = (omega arith, omega arith)

pub record-most : (s : Session) (letter : ℕ) → or_zero (record_len s letter) ≤ max_record
unfolding record_len
record-most s letter = go (eqb letter letter_s) (eqb letter letter_l) (is_letter letter) (eqb letter letter_w) (eqb letter letter_r)
  where
    go : (a l b c d : Bool)
        → or_zero (cond a (some (record_head_len + 6)) (cond l (some (record_head_len + 5))
        (cond b (some (record_head_len + 4)) (cond c (write_len (current s.figures)) (cond d (read_len (current s.figures)) none))))) ≤ max_record
    go true l b c d = omega arith
    go false true b c d = omega arith
    go false false true c d = omega arith
    go false false false true d = (current-most s.figures).0
    go false false false false true = (current-most s.figures).1
    go false false false false false = omega arith

-- ---- A letter of no record

pub len-other : (s : Session) (letter : ℕ) → letter ≢ 83 → letter ≢ 76 → letter ≢ 79 → letter ≢ 67 → letter ≢ 70 → letter ≢ 87 → letter ≢ 82
    → record_len s letter ≡ none
unfolding record_len
len-other s letter a l b c d e f = rw (eqb-other letter 83 a, eqb-other letter 76 l, no_kind letter b c d, eqb-other letter 87 e, eqb-other letter 82 f)
