-- What a caller learns of the figures of a construction from their layout. Assumes nothing.
use mathlib.Core.Path.{◌≡◌, sym, ap, ap₂, subst, ◌∙◌}
use mathlib.Core.Bool.{true}
use mathlib.Core.List.{List}
use Prim.Native.Nat.{ℕ}
use Rattle.combinatorics.specs.Bursts.{apart}
use Rattle.cells.specs.Outcomes.{Coding, figures_under}
use Rattle.cells.proofs.Outcomes.{figured-fits}
use Rattle.cells.specs.Figures.{Params}
use Rattle.construction_a.specs.Outcomes.{coding as coding_a}
use Rattle.construction_b.specs.Figures.{LongParams, long_params}
use Rattle.construction_b.specs.Figures as B
use Rattle.construction_b.specs.Outcomes.{coding as coding_b}
use Rattle.params.specs.declared.Layout.{Layout}
use Rattle.std.specs.Prelude.{Result, Ok}
use Rattle.refusals.specs.declared.Refusal.{Refusal}
use Rattle.params.specs.declared.Spells.{Spells}
use Rattle.params.specs.declared.Spells.TheVariants.{Rank, EndOffset}
use Rattle.params.specs.Answer.{blocks_figured, LaidOut, LaidIn, LongLaidOut, LongLaidIn, BlocksHaveNumbers}
use Rattle.params.specs.Given.{figures_of, long_of, LongLayoutFits, coding_with, blocks_coding, LayoutFitsWith, BlocksServe, Shaped}
use Rattle.params.proofs.Fitting.{laid-fits, shaped}
use Rattle.params.proofs.LongFitting.{long-shaped}

-- ---- The layout's numbers

numbered : {d : Coding} {l : Layout} → l.n ≡ d.codec.word_len → l.q ≡ d.codec.alphabet → l.m ≡ d.bursts → l.b ≡ d.burst_len
    → l.placement_count ≡ d.placement_count_of → l.index_tail ≡ d.index_tail_of → l.message_len ≡ d.codec.message_len_of → BlocksHaveNumbers d l
numbered n q m b count tail len =
    record { word-is = n; alphabet-is = q; bursts-is = m; burst-is = b; count-is = count; tail-is = tail; len_is = len }

ranked-numbers : (f : Params) (l : Layout) → LaidOut f l → BlocksHaveNumbers (coding_a f) l
ranked-numbers f l h = numbered h.n-is h.q-is h.m-is h.b-is h.count-is h.tail-is h.len_is

long-numbers : (f : LongParams) (l : Layout) → LongLaidOut f l → BlocksHaveNumbers (coding_b f) l
long-numbers f l h = numbered h.n-is h.q-is h.m-is h.b-is h.count-is h.tail-is h.len_is

-- ---- The layout alone, by what its index blocks spell

module _ (l : Layout) where
  pub in-shape : BlocksServe l → Shaped l
  in-shape g = go l.spells g
    where
      go : (s : Spells) → LayoutFitsWith s l → Shaped l
      go Rank g = shaped l g
      go EndOffset g = long-shaped l g

  pub in_order : BlocksServe l → ((blocks_coding l).in_range ≡ true) × ((blocks_coding l).fits ≡ true)
  in_order g = go l.spells g
    where
      go : (s : Spells) → LayoutFitsWith s l → ((coding_with s (figures_of l)).in_range ≡ true) × ((coding_with s (figures_of l)).fits ≡ true)
      go Rank g = (g.range, g.fit)
      go EndOffset g = (g.range, g.fit)

  pub numbers-in : BlocksServe l → BlocksHaveNumbers (blocks_coding l) l
  numbers-in g = go l.spells g
    where
      go : (s : Spells) → LayoutFitsWith s l → BlocksHaveNumbers (coding_with s (figures_of l)) l
      go Rank g = ranked-numbers (figures_of l) l g.laid
      go EndOffset g = long-numbers (long_of (figures_of l)) l g.laid

  -- the test of starts, by the layout's own numbers
  pub apart_in : BlocksServe l → (ss : List ℕ) → apart (blocks_coding l).burst_len (blocks_coding l).codec.word_len 0 ss ≡ apart l.b l.n 0 ss
  apart_in g ss = let is = numbers-in g in sym (ap₂ (λ (b n : ℕ). apart b n 0 ss) is.burst-is is.word-is)

-- figures that a layout is answered to are in range and fit
fitting : (d : Coding) (r : Result Layout Refusal) (l : Layout) → r ≡ Ok l → blocks_figured r ≡ figures_under d → (d.in_range ≡ true) × (d.fits ≡ true)
fitting d r l e answer = figured-fits d l.placement_count l.index_tail l.message_len (sym answer ∙ ap blocks_figured e)

long_same : {f : LongParams} {n q b : ℕ} → n ≡ f.n → q ≡ f.q → b ≡ f.b → long_params n q b ≡ f
long_same e₁ e₂ e₃ = rw (e₁, e₂, e₃)

-- what the layout gives is what the caller's figures give, and they fit
abbrev pub BlocksServeAs : Coding → Layout → Type 0
BlocksServeAs d l = (blocks_coding l ≡ d) × BlocksServe l

-- of an answer that was taken apart
pub ranked-serves : (f : Params) (r : Result Layout Refusal) (l : Layout) → r ≡ Ok l → blocks_figured r ≡ figures_under (coding_a f) → LaidIn f r → BlocksServeAs (coding_a f) l
ranked-serves f r l e answer laid =
    let fit = fitting (coding_a f) r l e answer in
    let is : LaidOut f l = subst (LaidIn f) e laid in
    let own = laid-fits f l fit.0 fit.1 is in
    (ap₂ coding_with is.spells-is own.0, subst (λ (s : Spells). LayoutFitsWith s l) (sym is.spells-is) own.1)

pub long-serves : (f : LongParams) (r : Result Layout Refusal) (l : Layout) → r ≡ Ok l → blocks_figured r ≡ figures_under (coding_b f) → LongLaidIn f r
    → BlocksServeAs (coding_b f) l
long-serves f r l e answer laid =
    let fit = fitting (coding_b f) r l e answer in
    let is : LongLaidOut f l = subst (LongLaidIn f) e laid in
    let same : long_of (figures_of l) ≡ f = long_same is.n-is is.q-is is.b-is in
    let own : LongLayoutFits l =
    record {
      range = ap B.in_range same ∙ fit.0;
      fit = ap B.fits same ∙ fit.1;
      laid = subst (λ (g : LongParams). LongLaidOut g l) (sym same) is;
    } in
    (ap (λ (s : Spells). coding_with s (figures_of l)) is.spells-is ∙ ap coding_b same, subst (λ (s : Spells). LayoutFitsWith s l) (sym is.spells-is) own)
