-- `Eye::spherical_equivalent` meets its contract: half the cylinder and the sum are exact. Assumes nothing.
use Rattle.std.proofs.Common.{sym, refl, ap, ◌∙◌, rules}
use lib.Ieee.{round, size, units, odd, of_bits}
use Rattle.prescription.specs.declared.eyes.Eye.TheVariants.{Plano}
use Rattle.prescription.specs.Fractions.{fraction}
use Rattle.prescription.specs.Lens.{plano, equivalent}
use Rattle.prescription.specs.Eyes.{lens_of}
use Rattle.prescription.specs.Outcomes.{equivalent_out}
use Rattle.prescription.proofs.LensOfEye.{sphere-told, toric-told, equivalents, sphere-equivalent, toric-equivalent}
use Rattle.prescription.proofs.eyes.Eye.spherical_equivalent.Goals as goal

pub returns-in_err-ok_or : goal.returns-in_err-ok_or
unfolding equivalent_out
returns-in_err-ok_or c = search rules

pub returns-in-Plano : goal.returns-in-Plano
unfolding lens_of equivalent fraction round size units odd of_bits
returns-in-Plano c = sym (equivalents Plano plano refl) ∙ ap equivalent_out (sym c.in-Plano.is)

pub returns-in-Sphere : goal.returns-in-Sphere
returns-in-Sphere c =
    let is = c.in-Sphere.is in
    let i = sphere-told c.in_ok-ok_or.ensures.ok_part c.stored.ensures is in
    sphere-equivalent c.in-Sphere.power i (search rules) ∙ ap equivalent_out (sym is)

pub returns-in-Toric : goal.returns-in-Toric
unfolding of_bits
returns-in-Toric c =
    let is = c.in-Toric.is in
    let i = toric-told c.in_ok-ok_or.ensures.ok_part c.stored.ensures is in
    toric-equivalent c.in-Toric.sphere c.in-Toric.cylinder c.in-Toric.axis i ∙ ap equivalent_out (sym is)
