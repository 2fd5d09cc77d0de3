-- Transposed twice for a program in another language, an eye has the values that were given. Assumes nothing.
use mathlib.Core.Path.{◌≡◌, refl, sym, ap, ap₂, ◌∙◌}
use mathlib.Core.Bool.{Bool, true, false, ◌&&◌}
use mathlib.Core.List.{List, [], ◌∷◌}
use mathlib.Core.Option.{Option, none, some}
use Prim.Native.Nat.{ℕ}
use native.Mathlib.Omega.{arith}
use lib.Dec.{eqb}
use lib.Ieee.{Float, binary64, of_bits, fits}
use lib.ListN.{length}
use Rattle.refusals.specs.Refusals.{must, served, wrong_length, bad_prescription}
use Rattle.combinatorics.proofs.Cases.{by_bool}
use Rattle.prescription.specs.declared.eyes.Eye.{Eye}
use Rattle.prescription.specs.Lens.{Lens, transposed}
use Rattle.prescription.specs.Eyes.{lens_of, eye_of, eye_fits}
use Rattle.prescription.specs.Outcomes.{answered, or_refused, transpose_out}
use Rattle.prescription.proofs.InMemory.{eye-holds}
use Rattle.prescription.proofs.LensOfEye.{lens-back, transposes}
use Rattle.prescription.proofs.Lenses.{transposed-keeps, transposed-back}
use Rattle.lent_prescriptions.specs.Eyes.{plus_zero, is_plus_zero, eye_from, eye_kind, eye_sphere, eye_cylinder, eye_axis, marks_of, powers_of, PowersLent}
use Rattle.lent_prescriptions.specs.Eyes.{powers_lent, answer_lent, transpose_lent, TransposesBack}
use Rattle.lent_prescriptions.proofs.EyeLaws.{eyes-come-back}

-- ---- The eye that values of 64 bits give has floats of 64 bits

zero-fits : fits binary64 plus_zero ≡ true
unfolding fits of_bits
zero-fits = refl

from-fits : (kind : ℕ) (s c : Float) (a : ℕ) → fits binary64 s ≡ true → fits binary64 c ≡ true → eye_fits (eye_from kind s c a) ≡ true
unfolding eye_from
from-fits kind s c a fs fc =
    by_bool (eqb kind 0)
    (λ e. by_bool (is_plus_zero s && is_plus_zero c && eqb a 0) (λ u. rw (e, u)) (λ u. rw (e, u) zero-fits))
    (λ e. by_bool (eqb kind 1)
    (λ o. by_bool (is_plus_zero c && eqb a 0) (λ u. rw (e, o, u) fs) (λ u. rw (e, o, u) zero-fits))
    (λ o. by_bool (eqb kind 2) (λ t. rw (e, o, t, fs, fc)) (λ t. rw (e, o, t) zero-fits)))

-- ---- An accepted answer

pub record Accepted (e : Eye) (k b : ℕ) (t d : Float) (marks : List ℕ) (powers : List Float) : Type 0 where
  pub room : (eqb (length marks) 2 && eqb (length powers) 2) ≡ true
  pub lens : Lens
  pub stands : lens_of e ≡ some lens
  pub marks-are : marks_of (eye_of (transposed lens)) ≡ k ∷ b ∷ []
  pub powers-are : powers_of (eye_of (transposed lens)) ≡ t ∷ d ∷ []

accepted : (e : Eye) (k b : ℕ) (t d : Float) (marks : List ℕ) (powers : List Float)
    → transpose_lent e marks powers ≡ powers_lent (k ∷ b ∷ []) (t ∷ d ∷ []) served → Accepted e k b t d marks powers
unfolding transpose_lent transpose_out
accepted e k b t d marks powers h = go (eqb (length marks) 2 && eqb (length powers) 2) refl (lens_of e) refl h
  where
    go : (r : Bool) → (eqb (length marks) 2 && eqb (length powers) 2) ≡ r → (o : Option Lens) → lens_of e ≡ o
        → must r (powers_lent marks powers wrong_length) (answer_lent marks_of powers_of marks powers (or_refused (λ l. eye_of (transposed l)) o))
        ≡ powers_lent (k ∷ b ∷ []) (t ∷ d ∷ []) served
        → Accepted e k b t d marks powers
    go false i o j h = absurd (let z : wrong_length ≡ served = ap (λ (x : PowersLent). x.answer) h in omega arith)
    go true i none j h = absurd (let z : bad_prescription ≡ served = ap (λ (x : PowersLent). x.answer) h in omega arith)
    go true i (some l) j h =
        record { room = i; lens = l; stands = j; marks-are = ap (λ (x : PowersLent). x.marks) h; powers-are = ap (λ (x : PowersLent). x.powers) h }

-- ---- Again

pub transposes-back : TransposesBack
unfolding transpose_lent
transposes-back kind a k b s c t d marks powers fs fc h =
    let e = eye_from kind s c a in
    let w = accepted e k b t d marks powers h in
    let l = w.lens in
    let holds = eye-holds e l w.stands in
    let g = eye_of (transposed l) in
    let again : eye_from k t d b ≡ g = values k b t d g w.marks-are w.powers-are in
    let first : transpose_out g ≡ answered e =
    transposes g (transposed l) (lens-back (transposed l) (transposed-keeps l holds.kept))
    ∙ ap (λ (m : Lens). answered (eye_of m)) (transposed-back l holds.kept)
    ∙ ap (λ (x : Eye). answered x) (sym (holds.is (from-fits kind s c a fs fc))) in
    let same = eyes-come-back.given kind s c a l fs fc w.stands in
    rw (again, w.room, first)
    (ap₂ (λ (ms : List ℕ) (ps : List Float). powers_lent ms ps served) same.0 same.1)
  where
    values : (k b : ℕ) (t d : Float) (g : Eye) → marks_of g ≡ k ∷ b ∷ [] → powers_of g ≡ t ∷ d ∷ [] → eye_from k t d b ≡ g
    values k b t d g m p =
        let hk : k ≡ eye_kind g = cc in
        let hb : b ≡ eye_axis g = cc in
        let ht : t ≡ eye_sphere g = cc in
        let hd : d ≡ eye_cylinder g = cc in
        rw (hk, hb, ht, hd) (eyes-come-back.back g)
