-- `Eye::transpose` meets its contract: the float sum and the negation are those of the counts. Assumes nothing.
use Rattle.std.proofs.Common.{◌≡◌, sym, refl, ap, ◌∙◌, rules}
use lib.Ieee.{binary64, add, neg}
use Rattle.prescription.specs.declared.eyes.Eye.TheVariants.{Plano, Sphere, Toric}
use Rattle.prescription.specs.Lens.{plano, sphere, toric, keeps, transposed}
use Rattle.prescription.specs.Eyes.{lens_of, eye_of}
use Rattle.prescription.specs.Outcomes.{answered, transpose_out}
use Rattle.prescription.proofs.Lenses.{toric-kept}
use Rattle.prescription.proofs.LensOfEye.{sphere-told, toric-told, sphere-lens, toric-lens, sphere-eye, toric-eye, transposes}
use Rattle.prescription.proofs.LensOfEye.{toric-transposed, restored}
use Rattle.prescription.proofs.eyes.Eye.transpose.Goals as goal

pub turned-requires : goal.turned-requires
turned-requires c =
    let i = toric-told c.in_ok-ok_or.ensures.ok_part c.stored.ensures c.in-Toric.is in
    (toric-kept i.s i.c c.in-Toric.axis i.kept).high

pub returns-in-Plano-clause-answer : goal.returns-in-Plano-clause-answer
unfolding lens_of eye_of transposed keeps
returns-in-Plano-clause-answer c =
    let is = c.in-Plano.is in
    sym (transposes Plano plano refl) ∙ ap transpose_out (sym is)

pub returns-in-Plano-clause-bits : goal.returns-in-Plano-clause-bits
unfolding lens_of eye_of transposed keeps
returns-in-Plano-clause-bits c =
    let is = c.in-Plano.is in
    restored _ Plano plano refl is refl

pub returns-in-Sphere-clause-answer : goal.returns-in-Sphere-clause-answer
unfolding transposed
returns-in-Sphere-clause-answer c =
    let self = c.args.self in
    let p = c.in-Sphere.power in
    let is = c.in-Sphere.is in
    let i = sphere-told c.in_ok-ok_or.ensures.ok_part c.stored.ensures is in
    let l = sphere i.count in
    let eye : Sphere p ≡ eye_of l = sphere-eye p i (search rules) in
    ap answered eye ∙ sym (transposes (Sphere p) l (sphere-lens p i)) ∙ ap transpose_out (sym is)

pub returns-in-Sphere-clause-bits : goal.returns-in-Sphere-clause-bits
unfolding transposed
returns-in-Sphere-clause-bits c =
    let self = c.args.self in
    let p = c.in-Sphere.power in
    let is = c.in-Sphere.is in
    let i = sphere-told c.in_ok-ok_or.ensures.ok_part c.stored.ensures is in
    let l = sphere i.count in
    let eye : Sphere p ≡ eye_of l = sphere-eye p i (search rules) in
    restored self (Sphere p) l i.kept (is ∙ eye) eye

pub returns-in-Toric-clause-answer : goal.returns-in-Toric-clause-answer
returns-in-Toric-clause-answer c =
    let self = c.args.self in
    let is = c.in-Toric.is in
    let i = toric-told c.in_ok-ok_or.ensures.ok_part c.stored.ensures is in
    let x = c.in-Toric.sphere in
    let y = c.in-Toric.cylinder in
    let a = c.in-Toric.axis in
    let l = toric i.s i.c a in
    let f : Toric (add binary64 x y) (neg y) c.turned.result ≡ eye_of (transposed l) =
    ap (Toric (add binary64 x y) (neg y)) c.turned.ensures ∙ toric-transposed x y a i (search rules) in ap answered f ∙ sym (transposes (Toric x y a) l (toric-lens x y a i))
    ∙ ap transpose_out (sym is)

pub returns-in-Toric-clause-bits : goal.returns-in-Toric-clause-bits
returns-in-Toric-clause-bits c =
    let self = c.args.self in
    let is = c.in-Toric.is in
    let i = toric-told c.in_ok-ok_or.ensures.ok_part c.stored.ensures is in
    let x = c.in-Toric.sphere in
    let y = c.in-Toric.cylinder in
    let a = c.in-Toric.axis in
    let l = toric i.s i.c a in
    let f : Toric (add binary64 x y) (neg y) c.turned.result ≡ eye_of (transposed l) =
    ap (Toric (add binary64 x y) (neg y)) c.turned.ensures ∙ toric-transposed x y a i (search rules) in restored self (Toric (add binary64 x y) (neg y) c.turned.result) l i.kept
    (is ∙ toric-eye x y a i (search rules) (search rules)) f

pub returns-in_err-ok_or-clause-answer : goal.returns-in_err-ok_or-clause-answer
unfolding transpose_out
returns-in_err-ok_or-clause-answer c = search rules
