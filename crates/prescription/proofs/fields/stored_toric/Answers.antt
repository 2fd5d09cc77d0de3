-- `stored_toric` meets its contract: the three counts decide. Assumes nothing.
use Rattle.std.proofs.Common.{◌≡◌, ℕ, Bool, true, false, sym, ap, ◌∙◌}
use mathlib.Core.Option.{none, some}
use Rattle.refusals.specs.Refusals.{must}
use Rattle.prescription.specs.Fractions.{count_of}
use Rattle.prescription.specs.Eyes.{toric_of, lens_of}
use Rattle.prescription.specs.Stored.{fields}
use Rattle.prescription.specs.Counts.{stored_as, stored_of}
use Rattle.prescription.proofs.Storing.{eighths, toric-out-sphere, toric-out-cylinder, toric-out-sum, toric-stored}
use Rattle.prescription.proofs.fields.stored_toric.Goals as goal
use Rattle.prescription.proofs.fields.stored_toric.Goals.{After-toric_keeps}

-- past the three counts the rules decide
decided : (k : After-toric_keeps) (b : Bool) → k.toric_keeps.result ≡ b
    → let a = k.args in
    must b none (some (fields 2 k.in_ok-sphere_count.sphere_count k.in_ok-cylinder_count.cylinder_count a.axis))
    ≡ stored_of (toric_of (count_of 8 a.sphere) (count_of 8 a.cylinder) a.axis)
decided k b is =
    let a = k.args in
    let u = k.in_ok-sphere_count.sphere_count in
    let v = k.in_ok-cylinder_count.cylinder_count in
    sym (toric-stored a.sphere a.cylinder u v k.in_ok-sum_count.sum_count a.axis k.in_ok-sphere_count.ensures k.in_ok-cylinder_count.ensures
    k.in_ok-sum_count.ensures
    ∙ ap (λ (t : Bool). must t none (some (fields 2 u v a.axis))) (sym k.toric_keeps.ensures ∙ is))

pub count_of-requires : goal.count_of-requires
count_of-requires c = eighths

pub count_of-requires-2 : goal.count_of-requires-2
count_of-requires-2 c = eighths

pub count_of-requires-3 : goal.count_of-requires-3
count_of-requires-3 c = eighths

pub returns-in_err-sphere_count : goal.returns-in_err-sphere_count
unfolding lens_of
returns-in_err-sphere_count c =
    let a = c.args in
    ap stored_as c.from_residual.ensures ∙ toric-out-sphere (count_of 8 a.sphere) (count_of 8 a.cylinder) a.axis c.in_err-sphere_count.ensures

pub returns-in_err-cylinder_count : goal.returns-in_err-cylinder_count
unfolding lens_of
returns-in_err-cylinder_count c =
    let a = c.args in
    ap stored_as c.from_residual-in_err-cylinder_count.ensures
    ∙ toric-out-cylinder (count_of 8 a.sphere) (count_of 8 a.cylinder) a.axis c.in_err-cylinder_count.ensures

pub returns-in_err-sum_count : goal.returns-in_err-sum_count
unfolding lens_of
returns-in_err-sum_count c =
    let a = c.args in
    ap stored_as c.from_residual-in_err-sum_count.ensures
    ∙ toric-out-sum a.sphere a.cylinder _ _ a.axis c.in_ok-sphere_count.ensures c.in_ok-cylinder_count.ensures c.in_err-sum_count.ensures

pub returns-then-not-toric_keeps : goal.returns-then-not-toric_keeps
unfolding lens_of
returns-then-not-toric_keeps c = decided (goal.at.returns-then-not-toric_keeps c).After-toric_keeps false (c.if-not-toric_keeps.true)

pub returns : goal.returns
unfolding lens_of
returns c =
    ap (λ (k : ℕ). some (fields k c.in_ok-sphere_count.sphere_count c.in_ok-cylinder_count.cylinder_count c.args.axis)) c.from.ensures
    ∙ decided (goal.at.returns c).After-toric_keeps true (c.if-not-toric_keeps.false)
