-- `stored_sphere` meets its contract: its count decides. Assumes nothing.
use Rattle.std.proofs.Common.{ℕ, Bool, not, ◌&&◌, eqb, sym, ap, ◌∙◌}
use mathlib.Core.Option.{none, some}
use Rattle.combinatorics.proofs.Cases.{eqb_same, eqb-other}
use Rattle.prescription.specs.Fractions.{count_of}
use Rattle.prescription.specs.Lens.{in_power_range}
use Rattle.prescription.specs.Eyes.{lens_of}
use Rattle.prescription.specs.Stored.{count_in, fields}
use Rattle.prescription.specs.Counts.{stored_as}
use Rattle.prescription.proofs.Storing.{eighths, sphere-out, sphere-stored, no_second, must-not, must-be}
use Rattle.prescription.proofs.fields.stored_sphere.Goals as goal
use Rattle.prescription.proofs.fields.stored_sphere.Goals.{then-bits-eq0-via-then-bits-eq0, then-bits-eq0-via-else-bits-eq0+then-not-in_range}

pub count_of-requires : goal.count_of-requires
count_of-requires c = eighths

pub returns-in_err-bits : goal.returns-in_err-bits
unfolding lens_of
returns-in_err-bits c = ap stored_as c.from_residual.ensures ∙ sphere-out (count_of 8 c.args.power) c.in_err-bits.ensures

pub returns-then-bits-eq0 : goal.returns-then-bits-eq0
unfolding lens_of
returns-then-bits-eq0 c =
    let u = c.in_ok-bits.bits in
    sym (sphere-stored (count_of 8 c.args.power) u c.in_ok-bits.ensures
    ∙ must-not (in_power_range (count_in u) && not (eqb u 0)) none (some (fields 1 u 0 0))
    (elim c.then-bits-eq0.branch [
      | then-bits-eq0-via-then-bits-eq0 w ↦ no_second (in_power_range (count_in u)) (not (eqb u 0)) (ap not (eqb_same u 0 w.if-bits-eq0.true))
      | then-bits-eq0-via-else-bits-eq0+then-not-in_range w ↦ ap (λ (t : Bool). t && not (eqb u 0)) (sym w.in_range.ensures ∙ w.if-not-in_range.true)
    ]))

pub returns : goal.returns
unfolding lens_of
returns c =
    let u = c.in_ok-bits.bits in
    ap (λ (k : ℕ). some (fields k u 0 0)) c.from.ensures
    ∙ sym (sphere-stored (count_of 8 c.args.power) u c.in_ok-bits.ensures
    ∙ must-be (in_power_range (count_in u) && not (eqb u 0)) none (some (fields 1 u 0 0))
    (ap (λ (t : Bool). t && not (eqb u 0)) (sym c.in_range.ensures ∙ c.if-not-in_range.false)
    ∙ ap not (eqb-other u 0 c.if-bits-eq0.false)))
