-- What a layout of Construction B gives: its words have the shape that inner functions ask for, with one burst and a part for a block. Assumes nothing.
use mathlib.Core.Path.{◌≡◌, sym, ap, ap₂, subst, ◌∙◌}
use mathlib.Core.Bool.{true}
use mathlib.Core.List.{List, [], ◌∷◌}
use Prim.Native.Nat.{ℕ, ◌+◌, ◌≤◌}
use native.Mathlib.Nat.{div-le_self}
use native.Mathlib.Omega.{arith}
use Rattle.cells.specs.Plan.{plan_in, Spares}
use Rattle.cells.specs.Figures.{Params, params, in_range, is_placement}
use Rattle.construction_a.specs.Figures.{parts, block_min}
use Rattle.construction_a.specs.Reading.{written_with}
use Rattle.construction_a.specs.Writing.{frame_with}
use Rattle.construction_b.specs.Figures as B
use Rattle.construction_b.specs.Figures.{LongParams}
use Rattle.construction_b.specs.Reading.{written}
use Rattle.construction_b.specs.Writing.{start_in, plan}
use Rattle.construction_b.proofs.Base.{as_base, plan-same, written_same, framed-base}
use Rattle.construction_b.proofs.Figures.{Served, serve, placed-start}
use Rattle.params.specs.declared.Layout.{Layout}
use Rattle.params.specs.Given.{figures_of, long_of, LongLayoutFits, frame_of, Shaped}
use Rattle.params.proofs.LongLaying.{range_same}

module _ (l : Layout) (g : LongLayoutFits l) where
  long-figures : LongParams
  long-figures = long_of (figures_of l)

  pub served-long : Served (long_of (figures_of l))
  served-long = serve (long_of (figures_of l)) g.range g.fit

  -- the layout's figures are the base's with one burst
  pub base-is : figures_of l ≡ as_base (long_of (figures_of l))
  base-is = ap (λ (m : ℕ). params l.n l.q m l.b) g.laid.m-is

  -- a placement is one start
  pub start_is : (ss : List ℕ) → is_placement (figures_of l) ss ≡ true → (ss ≡ start_in ss ∷ []) × (start_in ss + l.b ≤ l.n)
  unfolding is_placement B.is_placement
  start_is ss e = placed-start (long_of (figures_of l)) ss (sym (ap (λ (f : Params). is_placement f ss) base-is) ∙ e)

  -- what goes by the layout's r and the base's blocks goes by Construction B's parts
  frame_is : (ss : List ℕ) → frame_of l ss ≡ frame_with (B.index_tail_of (long_of (figures_of l))) (as_base (long_of (figures_of l))) ss
  frame_is ss = ap₂ (λ (r : ℕ) (f : Params). frame_with r f ss) g.laid.tail-is base-is

  pub long-plan-is : (ss : List ℕ) → is_placement (figures_of l) ss ≡ true → plan_in (frame_of l ss) ≡ plan (long_of (figures_of l)) (start_in ss)
  long-plan-is ss e =
      let p = start_is ss e in
      ap plan_in (frame_is ss ∙ ap (frame_with (B.index_tail_of (long_of (figures_of l))) (as_base (long_of (figures_of l)))) p.0)
      ∙ plan-same (long_of (figures_of l)) served-long (start_in ss) p.1

  pub long-written-is : (w : List ℕ) (i : ℕ) → written_with l.index_tail (figures_of l) w (i ∷ []) ≡ written (long_of (figures_of l)) w i
  long-written-is w i = ap₂ (λ (r : ℕ) (f : Params). written_with r f w (i ∷ [])) g.laid.tail-is base-is ∙ written_same (long_of (figures_of l)) w i

  spares : (ss : List ℕ) → is_placement (figures_of l) ss ≡ true → Spares (frame_of l ss)
  spares ss e =
      let p = start_is ss e in
      subst Spares (sym (frame_is ss ∙ ap (frame_with (B.index_tail_of (long_of (figures_of l))) (as_base (long_of (figures_of l)))) p.0))
      (framed-base (long_of (figures_of l)) served-long (start_in ss) p.1).spares

  pub long-shaped : Shaped l
  unfolding block_min parts B.message_len_of
  long-shaped =
      let ok = served-long in
      let m = g.laid.m-is in
      record {
        range = ap in_range base-is ∙ range_same (long_of (figures_of l)) ∙ g.range;
        parts_is = g.laid.parts_is ∙ sym (ap parts base-is);
        total = rw m (omega (arith, ok.short, div-le_self l.n 3));
        room = rw (m, g.laid.tail-is) (omega (arith, ok.room));
        short = rw m (omega (arith, ok.short));
        len_is = rw (m, g.laid.len_is, g.laid.parts_is, g.laid.tail-is) (omega (arith, ok.short, ok.room, ok.range.b-least, div-le_self l.n 3));
        spares = spares;
      }
