-- How the answered spherical equivalent moves where a toric's sphere or cylinder is altered. Assumes nothing.
use Rattle.std.proofs.Common.{◌≡◌, ℕ, ℤ, ◌+ℤ◌, sym, refl, ap, ◌∙◌, ap₂, arith}
use mathlib.Core.Option.{Option, none, some}
use lib.Ieee.{Float}
use Rattle.refusals.specs.Refusals.{served, bad_prescription}
use Rattle.prescription.specs.declared.eyes.Eye.TheVariants.{Toric}
use Rattle.prescription.specs.Fractions.{fraction, count_of}
use Rattle.prescription.specs.Lens.{Lens, toric, keeps, equivalent}
use Rattle.prescription.specs.Eyes.{lens_of}
use Rattle.prescription.specs.Counts.{stored_of}
use Rattle.prescription.specs.Stored.{fields_of}
use Rattle.prescription.specs.Outcomes.{Answered, answered, or_refused, equivalent_out}
use Rattle.prescription.specs.Laws.{MovedBy, AnswersMove}
use Rattle.prescription.proofs.Lenses.{equivalent-moves}
use Rattle.prescription.proofs.LensOfEye.{ToricIs, toric-is, toric-lens, equivalents}

-- an eye that is answered stands for a lens
stands : (f : Lens → Float) (o : Option Lens) (x : Float) → or_refused f o ≡ answered x → (l : Lens) × (o ≡ some l)
stands f none x h = absurd (let e : bad_prescription ≡ served = ap (λ (r : Answered Float). r.number) h in omega arith)
stands f (some l) x h = (l, refl)

module _ (s c x : Float) (a : ℕ) (h : equivalent_out (Toric s c a) ≡ answered x) where
  toric-answered : ToricIs s c a
  unfolding equivalent_out
  toric-answered =
      let l = stands (λ l. fraction 16 (equivalent l)) (lens_of (Toric s c a)) x h in
      toric-is s c a (fields_of l.0) (sym (ap stored_of l.1))

  -- and the answer is its sixteenths
  sixteenths-answered : count_of 16 x ≡ some (equivalent (toric toric-answered.s toric-answered.c a))
  sixteenths-answered =
      let i = toric-answered in
      let e : some (fraction 16 (equivalent (toric i.s i.c a))) ≡ some x =
      ap (λ (r : Answered Float). r.value) (sym (equivalents (Toric s c a) (toric i.s i.c a) (toric-lens s c a i)) ∙ h) in
      let is : fraction 16 (equivalent (toric i.s i.c a)) ≡ x = cc in
      ap (count_of 16) (sym is) ∙ equivalent-moves.exact (toric i.s i.c a) i.kept

same_some : {o : Option ℤ} (m n : ℤ) → o ≡ some m → o ≡ some n → m ≡ n
same_some m n e d = cc

by-sphere : (s u c x y : Float) (a : ℕ) (t : ℤ) → MovedBy 8 t s u → equivalent_out (Toric s c a) ≡ answered x → equivalent_out (Toric u c a) ≡ answered y
    → MovedBy 16 (t +ℤ t) x y
by-sphere s u c x y a t m h k =
    let i = toric-answered s c x a h in
    let j = toric-answered u c y a k in
    let sphere : j.s ≡ i.s +ℤ t = same_some _ _ j.s-is m.after ∙ ap (λ (n : ℤ). n +ℤ t) (same_some _ _ m.before i.s-is) in
    let cylinder : j.c ≡ i.c = same_some _ _ j.c-is i.c-is in
    let altered : toric j.s j.c a ≡ toric (i.s +ℤ t) i.c a = ap₂ (λ (n k : ℤ). toric n k a) sphere cylinder in
    record {
      count = equivalent (toric i.s i.c a);
      before = sixteenths-answered s c x a h;
      after =
          sixteenths-answered u c y a k
          ∙ ap (λ (l : Lens). some (equivalent l)) altered
          ∙ ap some (equivalent-moves.by-sphere i.s i.c t a i.kept (sym (ap keeps altered) ∙ j.kept));
    }

by-cylinder : (s c d x y : Float) (a : ℕ) (t : ℤ) → MovedBy 8 t c d → equivalent_out (Toric s c a) ≡ answered x → equivalent_out (Toric s d a) ≡ answered y
    → MovedBy 16 t x y
by-cylinder s c d x y a t m h k =
    let i = toric-answered s c x a h in
    let j = toric-answered s d y a k in
    let sphere : j.s ≡ i.s = same_some _ _ j.s-is i.s-is in
    let cylinder : j.c ≡ i.c +ℤ t = same_some _ _ j.c-is m.after ∙ ap (λ (n : ℤ). n +ℤ t) (same_some _ _ m.before i.c-is) in
    let altered : toric j.s j.c a ≡ toric i.s (i.c +ℤ t) a = ap₂ (λ (n k : ℤ). toric n k a) sphere cylinder in
    record {
      count = equivalent (toric i.s i.c a);
      before = sixteenths-answered s c x a h;
      after =
          sixteenths-answered s d y a k
          ∙ ap (λ (l : Lens). some (equivalent l)) altered
          ∙ ap some (equivalent-moves.by-cylinder i.s i.c t a i.kept (sym (ap keeps altered) ∙ j.kept));
    }

pub answers-move : AnswersMove
answers-move = record { by-sphere = by-sphere; by-cylinder = by-cylinder }
