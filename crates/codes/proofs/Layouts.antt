-- What every layout has, whichever code laid it out. Assumes nothing.
use mathlib.Core.Path.{◌≡◌, refl, sym, ap, ap₂, subst, ◌∙◌}
use mathlib.Core.Bool.{true}
use mathlib.Core.List.{List}
use Prim.Native.Nat.{ℕ, ◌≤◌}
use native.Mathlib.Omega.{arith}
use Rattle.combinatorics.specs.Bursts.{apart, in_burst}
use Rattle.cells.specs.Erasures.{found_bound}
use Rattle.cells.specs.Outcomes.{Coding}
use Rattle.cells.specs.Figures.{max_word, max_alphabet, max_bursts}
use Rattle.cells.proofs.Figures.{ranged}
use Rattle.construction_a.specs.Figures.{message_len_of as message_len_a}
use Rattle.construction_b.specs.Figures.{message_len_of as message_len_b}
use Rattle.construction_b.proofs.Figures.{ranged as ranged-b}
use Rattle.larsson.specs.Figures.{message_len_of as message_len_larsson}
use Rattle.params.specs.Answer.{Small}
use Rattle.params.specs.Bridge.{given, given_long}
use Rattle.params.specs.Given.{figures_of, coding_with}
use Rattle.params.specs.declared.Layout.{Layout}
use Rattle.params.specs.declared.Spells.{Spells}
use Rattle.params.specs.declared.Spells.TheVariants.{Rank, EndOffset}
use Rattle.params.proofs.Either.{in-shape, in_order as blocks-in-order, numbers-in as blocks-numbers}
use Rattle.params.proofs.Shape.{long as blocks-long}
use Rattle.larsson_params.specs.declared.LarssonLayout.{LarssonLayout}
use Rattle.larsson_params.specs.Given.{LarssonLayoutFits}
use Rattle.larsson_params.proofs.Shape.{long as sub-blocks-long}
use Rattle.codes.specs.declared.Figures.{Figures}
use Rattle.codes.specs.declared.Figures.TheVariants.{Ranked, Long, Larsson}
use Rattle.codes.specs.declared.Laid.{Laid}
use Rattle.codes.specs.declared.Laid.TheVariants.{Blocks, SubBlocks}
use Rattle.codes.specs.declared.WordLayout.{WordLayout}
use Rattle.codes.specs.Bridge.{coding_of}
use Rattle.codes.proofs.Exact.{found-is, spoilt-is}
use Rattle.codes.specs.Given.{coding_by, coding_in, FitsBy, HasNumbers, Serves, of_blocks, of_sub_blocks}

-- ---- The limits

pub small : (f : Figures) → (coding_of f).in_range ≡ true → Small (coding_of f)
unfolding message_len_a message_len_b message_len_larsson
small (Ranked p) e =
    let r = ranged (given p) e in
    record { word-most = r.n-most; message-most = omega arith; alphabet-least = r.q-least; alphabet-most = r.q-most; bursts-most = r.m-most }
small (Long p) e =
    let r = ranged-b (given_long p) e in
    record { word-most = r.n-most; message-most = omega arith; alphabet-least = r.q-least; alphabet-most = r.q-most; bursts-most = omega arith }
small (Larsson p) e =
    let r = ranged (given p) e in
    record { word-most = r.n-most; message-most = omega arith; alphabet-least = r.q-least; alphabet-most = r.q-most; bursts-most = r.m-most }

-- ---- Code by code

order-by : (x : Laid) → FitsBy x → ((coding_by x).in_range ≡ true) × ((coding_by x).fits ≡ true)
order-by (Blocks l) g = blocks-in-order l g
order-by (SubBlocks l) g = (g.range, g.fit)

-- a burst is no longer than the word
long-by : (x : Laid) → FitsBy x → (coding_by x).burst_len ≤ (coding_by x).codec.word_len
long-by (Blocks l) g = let is = blocks-numbers l g in omega (arith, blocks-long l (in-shape l g), is.word-is, is.burst-is)
long-by (SubBlocks l) g = sub-blocks-long l g

-- ---- The figures of a layout

blocks-figures : Spells → Layout → Figures
blocks-figures Rank l = Ranked (record { n = l.n; q = l.q; m = l.m; b = l.b })
blocks-figures EndOffset l = Long (record { n = l.n; q = l.q; b = l.b })

figures-by : Laid → Figures
figures-by (Blocks l) = blocks-figures l.spells l
figures-by (SubBlocks l) = Larsson (record { n = l.n; q = l.q; m = l.m; b = l.b })

blocks-same : (s : Spells) (l : Layout) → coding_of (blocks-figures s l) ≡ coding_with s (figures_of l)
unfolding blocks-figures
blocks-same Rank l = refl
blocks-same EndOffset l = refl

same_by : (x : Laid) → coding_of (figures-by x) ≡ coding_by x
unfolding figures-by
same_by (Blocks l) = blocks-same l.spells l
same_by (SubBlocks l) = refl

-- what holds under figures that fit holds under a layout that serves
pub under-layout : (P : Coding → Type 0) → ((f : Figures) → (coding_of f).in_range ≡ true → (coding_of f).fits ≡ true → P (coding_of f)) → (l : WordLayout) → Serves l
    → P (coding_in l)
under-layout P holds l g =
    let e = same_by l.laid in
    let order = order-by l.laid g.fitting in
    subst P e (holds (figures-by l.laid) (ap (λ (d : Coding). d.in_range) e ∙ order.0) (ap (λ (d : Coding). d.fits) e ∙ order.1))

-- ---- The layout alone

-- its numbers, as facts that arithmetic can use
pub record Bounded (l : WordLayout) : Type 0 where
  pub n-most : l.n ≤ max_word
  pub q-least : 2 ≤ l.q
  pub q-most : l.q ≤ max_alphabet
  pub m-most : l.m ≤ max_bursts
  pub k-most : l.message_len ≤ max_word
  pub long : l.b ≤ l.n

module _ (l : WordLayout) (g : Serves l) where
  pub in_order : ((coding_in l).in_range ≡ true) × ((coding_in l).fits ≡ true)
  in_order = order-by l.laid g.fitting

  pub numbers-in : HasNumbers (coding_in l) l
  numbers-in = g.numbers

  pub small-in : Small (coding_in l)
  small-in = under-layout Small (λ f i _. small f i) l g

  pub bound : Bounded l
  bound =
      let is = g.numbers in
      let few = small-in in
      record {
        n-most = omega (arith, is.word-is, few.word-most);
        q-least = omega (arith, is.alphabet-is, few.alphabet-least);
        q-most = omega (arith, is.alphabet-is, few.alphabet-most);
        m-most = omega (arith, is.bursts-is, few.bursts-most);
        k-most = omega (arith, is.len_is, few.message-most, few.word-most);
        long = omega (arith, is.word-is, is.burst-is, long-by l.laid g.fitting);
      }

  -- the test of starts, by the layout's own numbers
  pub apart_in : (ss : List ℕ) → apart (coding_in l).burst_len (coding_in l).codec.word_len 0 ss ≡ apart l.b l.n 0 ss
  apart_in ss = let is = g.numbers in sym (ap₂ (λ (b n : ℕ). apart b n 0 ss) is.burst-is is.word-is)

  pub found_in : (coding_in l).codec.found_bound ≡ found_bound l.q
  found_in =
      under-layout (λ (d : Coding). d.codec.found_bound ≡ found_bound d.codec.alphabet) (λ f _ _. found-is f) l g
      ∙ ap found_bound (sym g.numbers.alphabet-is)

  pub spoilt-in : (ss : List ℕ) (x : ℕ) → (coding_in l).codec.spoilt ss x ≡ in_burst l.b ss x
  spoilt-in ss x =
      under-layout (λ (d : Coding). d.codec.spoilt ss x ≡ in_burst d.burst_len ss x) (λ f _ _. spoilt-is f ss x) l g
      ∙ ap (λ (b : ℕ). in_burst b ss x) (sym g.numbers.burst-is)

-- ---- From a code's own layout

pub of-blocks : (l : Layout) → FitsBy (Blocks l) → Serves (of_blocks l)
of-blocks l g =
    let is = blocks-numbers l g in
    record {
      fitting = g;
      numbers = record {
        word-is = is.word-is;
        alphabet-is = is.alphabet-is;
        bursts-is = is.bursts-is;
        burst-is = is.burst-is;
        count-is = is.count-is;
        tail-is = is.tail-is;
        len_is = is.len_is;
      };
    }

pub of-sub-blocks : (l : LarssonLayout) → LarssonLayoutFits l → Serves (of_sub_blocks l)
of-sub-blocks l g =
    let is = g.laid in
    record {
      fitting = g;
      numbers = record {
        word-is = is.n-is;
        alphabet-is = is.q-is;
        bursts-is = is.m-is;
        burst-is = is.b-is;
        count-is = is.count-is;
        tail-is = is.sub_is;
        len_is = is.len_is;
      };
    }
