-- Laws of an eye as four values: what they give, test by test, and that they come back. Assumes nothing.
use mathlib.Core.Path.{◌≡◌, refl, sym, ap, ap₂, subst, ◌∙◌}
use mathlib.Core.Logic.{◌≢◌}
use mathlib.Core.Bool.{true, false, not, true≢false}
use mathlib.Core.List.{List, [], ◌∷◌}
use mathlib.Core.Option.{none, some}
use Prim.Native.Nat.{ℕ}
use native.Mathlib.Omega.{arith}
use lib.Dec.{T, eqb}
use lib.ListN.{length, set}
use lib.Ieee.{Float, binary64, to_bits, of_bits, eq, fits, is_nan, nan, inf, fin}
use lib.Ieee.Bits.{of_bits-to_bits}
use Rattle.refusals.specs.Refusals.{served, wrong_length}
use Rattle.combinatorics.proofs.Cases.{by_bool, by-eq, eqb_same, eqb-other, eqb-true}
use Rattle.prescription.specs.declared.eyes.Eye.{Eye}
use Rattle.prescription.specs.declared.eyes.Eye.TheVariants.{Plano, Sphere, Toric}
use Rattle.prescription.specs.Fractions.{count_of}
use Rattle.prescription.specs.Lens.{Lens, keeps}
use Rattle.prescription.specs.Eyes.{lens_of}
use Rattle.prescription.specs.Outcomes.{Answered, answered, transpose_out, equivalent_out}
use Rattle.prescription.proofs.Counting.{holds}
use Rattle.lent_prescriptions.specs.Eyes.{plus_zero, is_plus_zero, no_eye, eye_from, eye_kind, eye_sphere, eye_cylinder, eye_axis, marks_of, powers_of}
use Rattle.lent_prescriptions.specs.Eyes.{EyesComeBack, powers_lent, answer_lent, transpose_lent, power_lent, equivalent_lent_as, equivalent_lent}
use Rattle.lent_prescriptions.proofs.Filling.{stored-all}

-- ---- Plus zero

zero_bits : to_bits binary64 plus_zero ≡ 0
unfolding to_bits of_bits
zero_bits = refl

zero-equals : eq plus_zero plus_zero ≡ true
unfolding eq of_bits
zero-equals = refl

-- of 64-bit floats only one has these bits
pub zero_is : (x : Float) → fits binary64 x ≡ true → is_plus_zero x ≡ true → x ≡ plus_zero
zero_is x t h = sym (of_bits-to_bits binary64 x (holds t)) ∙ ap (of_bits binary64) (eqb-true (to_bits binary64 x) 0 h)

pub unequal-is-not : (x : Float) → fits binary64 x ≡ true → eq x plus_zero ≡ false → false ≡ is_plus_zero x
unequal-is-not x t e =
    by_bool (is_plus_zero x) (λ h. absurd (true≢false (sym zero-equals ∙ sym (ap (λ (y : Float). eq y plus_zero) (zero_is x t h)) ∙ e))) (λ h. sym h)

pub equal_no_nan : (x : Float) → eq x plus_zero ≡ true → T (not (is_nan x))
unfolding eq is_nan
equal_no_nan nan e = absurd (true≢false (sym e))
equal_no_nan (inf s) e = tt
equal_no_nan (fin s m e) h = tt

-- ---- The eye that four values give

module _ (kind : ℕ) (s c : Float) (a : ℕ) where
  pub from-toric : kind ≡ 2 → Toric s c a ≡ eye_from kind s c a
  unfolding eye_from
  from-toric e = rw e

  -- an unused value that isn't 0, the cylinder first
  pub from-cylinder : kind ≢ 2 → is_plus_zero c ≡ false → no_eye ≡ eye_from kind s c a
  unfolding eye_from
  from-cylinder k h =
      rw (eqb-other kind 2 k, h)
      (by_bool (eqb kind 0) (λ e. by_bool (is_plus_zero s) (λ z. rw (e, z)) (λ z. rw (e, z)))
      (λ e. by_bool (eqb kind 1) (λ d. rw (e, d)) (λ d. rw (e, d))))

  pub from-axis : kind ≢ 2 → is_plus_zero c ≡ true → a ≢ 0 → no_eye ≡ eye_from kind s c a
  unfolding eye_from
  from-axis k h n =
      rw (eqb-other kind 2 k, h, eqb-other a 0 n)
      (by_bool (eqb kind 0) (λ e. by_bool (is_plus_zero s) (λ z. rw (e, z)) (λ z. rw (e, z)))
      (λ e. by_bool (eqb kind 1) (λ d. rw (e, d)) (λ d. rw (e, d))))

  pub from-sphere : is_plus_zero c ≡ true → a ≡ 0 → kind ≡ 1 → Sphere s ≡ eye_from kind s c a
  unfolding eye_from
  from-sphere h n k = rw (k, h, n)

  pub from-power : kind ≢ 2 → kind ≢ 1 → is_plus_zero s ≡ false → no_eye ≡ eye_from kind s c a
  unfolding eye_from
  from-power k o h = rw (eqb-other kind 2 k, eqb-other kind 1 o, h) (by_bool (eqb kind 0) (λ e. rw e) (λ e. rw e))

  pub from-plano : is_plus_zero c ≡ true → a ≡ 0 → is_plus_zero s ≡ true → kind ≡ 0 → Plano ≡ eye_from kind s c a
  unfolding eye_from
  from-plano h n z k = rw (k, h, n, z)

  pub from-other : kind ≢ 2 → kind ≢ 1 → kind ≢ 0 → no_eye ≡ eye_from kind s c a
  unfolding eye_from
  from-other t o p = rw (eqb-other kind 2 t, eqb-other kind 1 o, eqb-other kind 0 p)

-- ---- They come back

no-lens : lens_of no_eye ≡ none
unfolding lens_of count_of keeps of_bits
no-lens = refl

come-back : (e : Eye) → eye_from (eye_kind e) (eye_sphere e) (eye_cylinder e) (eye_axis e) ≡ e
unfolding eye_from to_bits of_bits
come-back Plano = refl
come-back (Sphere p) = refl
come-back (Toric s c a) = refl

module _ (kind : ℕ) (s c : Float) (a : ℕ) (l : Lens) (fs : fits binary64 s ≡ true) (fc : fits binary64 c ≡ true) where
  abbrev Same : Eye → Type 0
  Same e = (marks_of e ≡ kind ∷ a ∷ []) × (powers_of e ≡ s ∷ c ∷ [])

  -- no eye has no lens
  refused : {P : Type 0} → lens_of no_eye ≡ some l → P
  refused h = absurd (let z : ◌≡◌ {A = ℕ} 0 1 = cc no-lens in omega arith)

  given_back : lens_of (eye_from kind s c a) ≡ some l → Same (eye_from kind s c a)
  given_back h =
      by-eq kind 2 (λ _. Same (eye_from kind s c a))
      (λ t. subst Same (from-toric kind s c a t) (ap (λ (k : ℕ). k ∷ a ∷ []) (sym t), refl))
      (λ t. by_bool (is_plus_zero c)
      (λ z. by-eq a 0 (λ _. Same (eye_from kind s c a))
      (λ n. by-eq kind 1 (λ _. Same (eye_from kind s c a))
      (λ o. subst Same (from-sphere kind s c a z n o) (ap₂ (λ (k x : ℕ). k ∷ x ∷ []) (sym o) (sym n), ap (λ (x : Float). s ∷ x ∷ []) (sym (zero_is c fc z))))
      (λ o. by_bool (is_plus_zero s)
      (λ y. by-eq kind 0 (λ _. Same (eye_from kind s c a))
      (λ p. subst Same (from-plano kind s c a z n y p)
      (ap₂ (λ (k x : ℕ). k ∷ x ∷ []) (sym p) (sym n), ap₂ (λ (x y : Float). x ∷ y ∷ []) (sym (zero_is s fs y)) (sym (zero_is c fc z))))
      (λ p. refused (ap lens_of (from-other kind s c a t o p) ∙ h)))
      (λ y. refused (ap lens_of (from-power kind s c a t o y) ∙ h))))
      (λ n. refused (ap lens_of (from-axis kind s c a t z n) ∙ h)))
      (λ z. refused (ap lens_of (from-cylinder kind s c a t z) ∙ h)))

pub eyes-come-back : EyesComeBack
eyes-come-back = record { back = come-back; outside = no-lens; given = given_back }

-- ---- Transposing and the spherical equivalent

module _ (e : Eye) (marks : List ℕ) (powers : List Float) where
  pub transpose-marks : length marks ≢ 2 → powers_lent marks powers wrong_length ≡ transpose_lent e marks powers
  unfolding transpose_lent
  transpose-marks m = rw (eqb-other (length marks) 2 m)

  pub transpose-powers : length marks ≡ 2 → length powers ≢ 2 → powers_lent marks powers wrong_length ≡ transpose_lent e marks powers
  unfolding transpose_lent
  transpose-powers m p = rw (eqb_same (length marks) 2 m, eqb-other (length powers) 2 p)

  module _ (m : length marks ≡ 2) (p : length powers ≡ 2) where
    -- what is answered, lent
    pub transpose-lent : {o : Answered Eye} → o ≡ transpose_out e → answer_lent marks_of powers_of marks powers o ≡ transpose_lent e marks powers
    unfolding transpose_lent
    transpose-lent h = rw (eqb_same (length marks) 2 m, eqb_same (length powers) 2 p) (ap (answer_lent marks_of powers_of marks powers) h)

    pub eye-put : {k a : ℕ} {s c : Float} (x : Eye) → k ≡ eye_kind x → a ≡ eye_axis x → s ≡ eye_sphere x → c ≡ eye_cylinder x
        → powers_lent (set (set marks 0 k) 1 a) (set (set powers 0 s) 1 c) served ≡ answer_lent marks_of powers_of marks powers (answered x)
    eye-put {k} {a} {s} {c} x hk ha hs hc =
        ap₂ (λ (ms : List ℕ) (ps : List Float). powers_lent ms ps served)
        (stored-all (k ∷ a ∷ []) marks 0 m ∙ ap₂ (λ (k a : ℕ). k ∷ a ∷ []) hk ha)
        (stored-all (s ∷ c ∷ []) powers 0 p ∙ ap₂ (λ (s c : Float). s ∷ c ∷ []) hs hc)

module _ (e : Eye) (power : List Float) where
  pub equivalent-length : length power ≢ 1 → power_lent power wrong_length ≡ equivalent_lent e power
  unfolding equivalent_lent
  equivalent-length p = rw (eqb-other (length power) 1 p)

  module _ (p : length power ≡ 1) where
    pub equivalent-lent : {o : Answered Float} → o ≡ equivalent_out e → equivalent_lent_as power o.number o.value ≡ equivalent_lent e power
    unfolding equivalent_lent
    equivalent-lent h = rw (eqb_same (length power) 1 p) (ap (λ (o : Answered Float). equivalent_lent_as power o.number o.value) h)

    pub power-put : (x : Float) → power_lent (set power 0 x) served ≡ power_lent (x ∷ []) served
    power-put x = ap (λ (ps : List Float). power_lent ps served) (stored-all (x ∷ []) power 0 p)
