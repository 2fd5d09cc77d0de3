-- What a layout of figures that fit gives: its words have the shape that inner functions ask for. Assumes nothing.
use mathlib.Core.Path.{◌≡◌, sym, ap, ◌∙◌, subst}
use mathlib.Core.Bool.{true}
use mathlib.Core.List.{List}
use Prim.Native.Nat.{ℕ, ◌≤◌}
use native.Mathlib.Omega.{arith}
use Rattle.cells.specs.Plan.{plan_in, Spares}
use Rattle.cells.specs.Figures.{Params, params, in_range, is_placement}
use Rattle.construction_a.specs.Figures.{fits, block_min, message_len_of}
use Rattle.construction_a.specs.Outcomes.{figures_out}
use Rattle.construction_a.specs.Reading.{first_symbols_with, first_symbols, written_with, written}
use Rattle.construction_a.specs.Writing.{frame_with, kind_at, plan}
use Rattle.cells.proofs.Figures.{placed-starts}
use Rattle.construction_a.proofs.Figures.{Served, serve, message-room}
use Rattle.construction_a.proofs.Outcomes.{figured-fits}
use Rattle.construction_a.proofs.Plan as Plan
use Rattle.params.specs.declared.Layout.{Layout}
use Rattle.std.specs.Prelude.{Result, Ok}
use Rattle.refusals.specs.declared.Refusal.{Refusal}
use Rattle.params.specs.Answer.{blocks_figured, LaidOut, LaidIn}
use Rattle.params.specs.Given.{figures_of, LayoutFits, frame_of, Shaped}
use Rattle.params.proofs.Answered.{Bounds}
use Rattle.params.proofs.Shape as Shape

same-figures : {f : Params} {n q m b : ℕ} → n ≡ f.n → q ≡ f.q → m ≡ f.m → b ≡ f.b → params n q m b ≡ f
same-figures e₁ e₂ e₃ e₄ = rw (e₁, e₂, e₃, e₄)

-- a layout of figures that fit has these figures itself
pub laid-fits : (f : Params) (l : Layout) → in_range f ≡ true → fits f ≡ true → LaidOut f l → (figures_of l ≡ f) × LayoutFits l
laid-fits f l range fit is =
    let same : figures_of l ≡ f = same-figures is.n-is is.q-is is.m-is is.b-is in
    (same, record { range = ap in_range same ∙ range; fit = ap fits same ∙ fit; laid = subst (λ (g : Params). LaidOut g l) (sym same) is })

-- of an answer that was taken apart: the layout's figures are the caller's, and they fit
pub layout-fits : (f : Params) (r : Result Layout Refusal) (l : Layout) → r ≡ Ok l → blocks_figured r ≡ figures_out f → LaidIn f r → (figures_of l ≡ f) × LayoutFits l
layout-fits f r l e answer laid =
    let fit = figured-fits f l.placement_count l.index_tail l.message_len (sym answer ∙ ap blocks_figured e) in
    laid-fits f l fit.0 fit.1 (subst (LaidIn f) e laid)

module _ (l : Layout) (g : LayoutFits l) where
  pub served : Served (figures_of l)
  served = serve (figures_of l) g.range g.fit

  spares : (ss : List ℕ) → is_placement (figures_of l) ss ≡ true → Spares (frame_of l ss)
  spares ss e =
      let p = placed-starts (figures_of l) ss e in
      subst (λ (r : ℕ). Spares (frame_with r (figures_of l) ss)) (sym g.laid.tail-is) (Plan.spares (figures_of l) served ss p.0 p.1)

  pub shaped : Shaped l
  unfolding block_min message_len_of
  shaped =
      record {
        range = g.range;
        parts_is = g.laid.parts_is;
        total = served.total;
        room = omega (arith, served.room, g.laid.tail-is);
        short = omega (arith, served.short);
        len_is = rw (g.laid.len_is, g.laid.parts_is, g.laid.tail-is) (omega (arith, message-room (figures_of l) served));
        spares = spares;
      }

  pub bound : Bounds l
  bound = Shape.bound l shaped

  pub long : l.b ≤ l.n
  long = Shape.long l shaped

  -- ---- What goes by the layout's r goes by that of Construction A

  pub plan-is : (ss : List ℕ) → plan_in (frame_of l ss) ≡ plan (figures_of l) ss
  unfolding plan kind_at
  plan-is ss = ap (λ (r : ℕ). plan_in (frame_with r (figures_of l) ss)) g.laid.tail-is

  pub heads-are : (w ks : List ℕ) → first_symbols_with l.index_tail (figures_of l) w ks ≡ first_symbols (figures_of l) w ks
  unfolding first_symbols
  heads-are w ks = ap (λ (r : ℕ). first_symbols_with r (figures_of l) w ks) g.laid.tail-is

  pub written_is : (w ks : List ℕ) → written_with l.index_tail (figures_of l) w ks ≡ written (figures_of l) w ks
  unfolding written first_symbols
  written_is w ks = ap (λ (r : ℕ). written_with r (figures_of l) w ks) g.laid.tail-is
