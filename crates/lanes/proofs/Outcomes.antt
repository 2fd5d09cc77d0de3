-- What the calls answer, test by test; what was laid side by side is taken apart again by them, and the other way round. Assumes nothing.
use mathlib.Core.Path.{◌≡◌, sym, ap, ap₂, ◌∙◌}
use mathlib.Core.Logic.{◌≢◌}
use mathlib.Core.Bool.{true, false, ◌&&◌}
use mathlib.Core.List.{List}
use Prim.Native.Nat.{ℕ, suc, ◌*◌, ◌≤◌, ◌<◌}
use native.Mathlib.Nat.{mul_comm}
use native.Mathlib.Omega.{arith}
use lib.Dec.{eqb}
use lib.ListN.{length}
use Rattle.refusals.specs.Refusals.{must, served, wrong_length, bad_symbol, bad_depth}
use Rattle.combinatorics.specs.Lists.{all_below}
use Rattle.combinatorics.proofs.Cases.{by_bool, eqb_same, eqb-other, eqb-true, leb-holds, leb-fails}
use Rattle.combinatorics.proofs.Lists.{below_more}
use Rattle.cells.specs.Erasures.{found_bound}
use Rattle.cells.specs.Outcomes.{Coding, unserved, figures_under}
use Rattle.cells.proofs.Outcomes.{refused-alike}
use Rattle.codes.specs.declared.Figures.{Figures}
use Rattle.codes.specs.declared.WordLayout.{WordLayout}
use Rattle.codes.specs.Bridge.{coding_of}
use Rattle.codes.specs.Given.{coding_in, Serves}
use Rattle.codes.proofs.Layouts.{numbers-in, found_in}
use Rattle.codes.proofs.Exact.{more-found}
use Rattle.lanes.specs.Interleaving.{in_depth, interleaved, deinterleaved}
use Rattle.lanes.specs.Outcomes.{UndoEachOther, Rearranged, unfilled, rearranged, interleave_under, deinterleave_under}
use Rattle.lanes.proofs.Interleaving.{length-transposed, transposed-below, apart-again, together-again}

-- what passes every test, 1 2 18 3 4
pub record Passes (k : Coding) (d bound : ℕ) (from out : List ℕ) : Type 0 where
  pub range : k.in_range ≡ true
  pub fit : k.fits ≡ true
  pub depth : in_depth d ≡ true
  pub lent : length from ≡ d * k.codec.word_len
  pub room : length out ≡ d * k.codec.word_len
  pub symbols : all_below bound from ≡ true

pub passes : (k : Coding) (d bound : ℕ) (from out filled : List ℕ) → Passes k d bound from out
    → rearranged k d bound from out filled ≡ record { answer = served; buffer = filled }
passes k d bound from out filled p =
    rw (
      p.range,
      p.fit,
      p.depth,
      eqb_same (length from) (d * k.codec.word_len) p.lent,
      eqb_same (length out) (d * k.codec.word_len)
          p.room,
      p.symbols,
    )

-- by cases: a test refuses, and the buffer is kept; or every test is passed
by_tests : {P : Type 0} (k : Coding) (d bound : ℕ) (from out filled : List ℕ)
    → ((a : ℕ) → rearranged k d bound from out filled ≡ unfilled out (suc a) → P) → (Passes k d bound from out → P) → P
by_tests k d bound from out filled refused pass =
    let n = d * k.codec.word_len in
    by_bool k.in_range
    (λ i. by_bool k.fits
    (λ j. by_bool (in_depth d)
    (λ t. by_bool (eqb (length from) n)
    (λ l. by_bool (eqb (length out) n)
    (λ m. by_bool (all_below bound from)
    (λ s. pass (record { range = i; fit = j; depth = t; lent = eqb-true (length from) n l; room = eqb-true (length out) n m; symbols = s }))
    (λ s. refused 3 (rw (i, j, t, l, m, s))))
    (λ m. refused 2 (rw (i, j, t, l, m))))
    (λ l. refused 2 (rw (i, j, t, l))))
    (λ t. refused 17 (rw (i, j, t))))
    (λ j. refused 1 (rw (i, j))))
    (λ i. refused 0 (rw i))

pub passed : (k : Coding) (d bound : ℕ) (from out filled : List ℕ) → (rearranged k d bound from out filled).answer ≡ served → Passes k d bound from out
passed k d bound from out filled h =
    by_tests k d bound from out filled
    (λ a e. absurd (let z : ◌≡◌ {A = ℕ} (suc a) 0 = sym (ap (λ (x : Rearranged). x.answer) e) ∙ h in omega arith))
    (λ p. p)

-- ---- As the code goes

module _ (k : Coding) (d bound : ℕ) (from out filled : List ℕ) where
  -- 1 and 2, with the number that the figures have alone
  pub unfit-alike : (a : ℕ) → figures_under k ≡ unserved a → rearranged k d bound from out filled ≡ unfilled out a
  unfit-alike a e =
      refused-alike k a (unfilled out)
      (must (in_depth d) (unfilled out bad_depth)
      (must (eqb (length from) (d * k.codec.word_len) && eqb (length out) (d * k.codec.word_len)) (unfilled out wrong_length)
      (must (all_below bound from) (unfilled out bad_symbol)
      (record { answer = served; buffer = filled })))) e

  -- "Every refusal returns its number only; output buffers .. keep their contents."
  refusal-keeps : (rearranged k d bound from out filled).answer ≢ served
      → unfilled out (rearranged k d bound from out filled).answer ≡ rearranged k d bound from out filled
  refusal-keeps h =
      by_tests k d bound from out filled
      (λ a e. ap (λ (x : Rearranged). unfilled out x.answer) e ∙ sym e)
      (λ p. absurd (h (ap (λ (x : Rearranged). x.answer) (passes k d bound from out filled p))))

  -- what a judgement says: the outcome of a refusal, or that every test is passed
  module _ (r : ℕ) (judged : r ≡ (rearranged k d bound from out filled).answer) where
    pub judged-refused : r ≢ served → unfilled out r ≡ rearranged k d bound from out filled
    judged-refused h = ap (unfilled out) judged ∙ refusal-keeps (λ e. h (judged ∙ e))

    pub judged-passed : r ≡ served → Passes k d bound from out
    judged-passed e = passed k d bound from out filled (sym judged ∙ e)

  -- 18 3 4, test by test, for figures that fit and the n of their layout
  module _ (range : k.in_range ≡ true) (fit : k.fits ≡ true) (n : ℕ) (word-is : n ≡ k.codec.word_len) where
    pub too_few : d < 1 → bad_depth ≡ (rearranged k d bound from out filled).answer
    too_few h = rw (range, fit, leb-fails 1 d h)

    pub too-many : 1 ≤ d → 16 < d → bad_depth ≡ (rearranged k d bound from out filled).answer
    too-many l h = rw (range, fit, leb-holds 1 d l, leb-fails d 16 h)

    module _ (least : 1 ≤ d) (most : d ≤ 16) where
      pub words-length : length from ≢ d * n → wrong_length ≡ (rearranged k d bound from out filled).answer
      words-length h = rw (range, fit, leb-holds 1 d least, leb-holds d 16 most, sym word-is, eqb-other (length from) (d * n) h)

      pub room-length : length from ≡ d * n → length out ≢ d * n → wrong_length ≡ (rearranged k d bound from out filled).answer
      room-length e h =
          rw (range, fit, leb-holds 1 d least, leb-holds d 16 most, sym word-is, eqb_same (length from) (d * n) e, eqb-other (length out) (d * n) h)

      module _ (lent : length from ≡ d * n) (room : length out ≡ d * n) where
        pub symbol-refused : all_below bound from ≡ false → bad_symbol ≡ (rearranged k d bound from out filled).answer
        symbol-refused h =
            rw (range, fit, leb-holds 1 d least, leb-holds d 16 most, sym word-is, eqb_same (length from) (d * n) lent, eqb_same (length out) (d * n) room, h)

        pub nothing-refused : all_below bound from ≡ true → served ≡ (rearranged k d bound from out filled).answer
        nothing-refused h =
            rw (range, fit, leb-holds 1 d least, leb-holds d 16 most, sym word-is, eqb_same (length from) (d * n) lent, eqb_same (length out) (d * n) room, h)

-- ---- By the layout's own numbers, whichever code laid it out

module _ (l : WordLayout) (g : Serves l) (d : ℕ) where
  pub length-in : d * (coding_in l).codec.word_len ≡ d * l.n
  length-in = ap (λ (n : ℕ). d * n) (sym (numbers-in l g).word-is)

  pub interleave-in : (words out : List ℕ) → interleave_under (coding_in l) d words out ≡ rearranged (coding_in l) d l.q words out (interleaved d l.n words)
  interleave-in words out =
      let is = numbers-in l g in
      sym (ap₂ (λ (q n : ℕ). rearranged (coding_in l) d q words out (interleaved d n words)) is.alphabet-is is.word-is)

  pub deinterleave-in : (strip out : List ℕ)
      → deinterleave_under (coding_in l) d strip out ≡ rearranged (coding_in l) d (found_bound l.q) strip out (deinterleaved d l.n strip)
  deinterleave-in strip out =
      ap₂ (λ (bound n : ℕ). rearranged (coding_in l) d bound strip out (deinterleaved d n strip)) (found_in l g) (sym (numbers-in l g).word-is)

-- ---- Each other's inverse

-- "the rearrangement and its inverse over two lent buffers"
pub apart-back : (f : Figures) (d : ℕ) (words strip out : List ℕ) → (interleave_under (coding_of f) d words strip).answer ≡ served
    → length out ≡ d * (coding_of f).codec.word_len
    → deinterleave_under (coding_of f) d (interleave_under (coding_of f) d words strip).buffer out ≡ record { answer = served; buffer = words }
apart-back f d words strip out h l =
    let k = coding_of f in
    let n = k.codec.word_len in
    let q = k.codec.alphabet in
    let laid = interleaved d n words in
    let p = passed k d q words strip laid h in
    rw (passes k d q words strip laid p)
    (passes k d k.codec.found_bound laid out (deinterleaved d n laid)
    (record {
      range = p.range;
      fit = p.fit;
      depth = p.depth;
      lent = length-transposed d n words;
      room = l;
      symbols = below_more q k.codec.found_bound laid (more-found f) (transposed-below q d n words p.lent p.symbols);
    })
    ∙ ap (λ (x : List ℕ). record { answer = served; buffer = x }) (apart-again d n words p.lent))

-- of found symbols only those of the alphabet are laid side by side again
pub together-back : (f : Figures) (d : ℕ) (strip words out : List ℕ) → (deinterleave_under (coding_of f) d strip words).answer ≡ served
    → all_below (coding_of f).codec.alphabet strip ≡ true → length out ≡ d * (coding_of f).codec.word_len
    → interleave_under (coding_of f) d (deinterleave_under (coding_of f) d strip words).buffer out ≡ record { answer = served; buffer = strip }
together-back f d strip words out h s l =
    let k = coding_of f in
    let n = k.codec.word_len in
    let q = k.codec.alphabet in
    let taken = deinterleaved d n strip in
    let p = passed k d k.codec.found_bound strip words taken h in
    rw (passes k d k.codec.found_bound strip words taken p)
    (passes k d q taken out (interleaved d n taken)
    (record {
      range = p.range;
      fit = p.fit;
      depth = p.depth;
      lent = length-transposed n d strip ∙ mul_comm n d;
      room = l;
      symbols = transposed-below q n d strip (p.lent ∙ mul_comm d n) s;
    })
    ∙ ap (λ (x : List ℕ). record { answer = served; buffer = x }) (together-again d n strip p.lent))

pub inverse : UndoEachOther
inverse = record { words_back = apart-again; strip-back = together-again; taken-apart = apart-back; laid-again = together-back }
