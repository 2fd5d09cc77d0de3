-- `eye_of` meets its contract, kind by kind; an unused field that isn't 0 is refused as an unknown kind is. Assumes nothing.
use Rattle.std.proofs.Common.{◌<◌, Bool, ◌&&◌, eqb, sym, ap, ◌∙◌, rules, arith}
use mathlib.Core.Option.{none, some}
use Rattle.combinatorics.proofs.Cases.{eqb_same, eqb-other}
use Rattle.prescription.specs.Lens.{plano, sphere}
use Rattle.prescription.specs.Eyes.{eye_of, ruled}
use Rattle.prescription.specs.Kinds.{byte_of}
use Rattle.prescription.specs.Stored.{count_in}
use Rattle.prescription.specs.Outcomes.{or_refused}
use Rattle.prescription.proofs.Storing.{no_second, no_third, no-first-of-three, must-not, must-be}
use Rattle.prescription.proofs.Reading.{plano-in, sphere-in, toric-in, other-in, refused-in, sphere-read, toric-read}
use Rattle.prescription.proofs.fields.eye_of.Goals as goal

pub returns-in_err-try_from : goal.returns-in_err-try_from
returns-in_err-try_from c =
    let f = c.args.stored in
    let far : 2 < f.kind = c.in_err-try_from.ensures.1 in
    let h = refused-in f (other-in f (λ e. omega arith) (λ e. omega arith) (λ e. omega arith)) in
    search (rules, h)

pub returns-in-Plano : goal.returns-in-Plano
unfolding eye_of
returns-in-Plano c =
    let f = c.args.stored in
    sym (ap (or_refused eye_of) (plano-in f (sym c.in_ok-try_from.ensures ∙ ap byte_of c.in-Plano.is)
    ∙ must-be (eqb f.sphere 0 && eqb f.cylinder 0 && eqb f.axis 0) none (some plano)
    (ap (λ (t : Bool). t && eqb f.cylinder 0 && eqb f.axis 0) (eqb_same f.sphere 0 c.if-sphere-eq0.true)
    ∙ ap (λ (t : Bool). t && eqb f.axis 0) (eqb_same f.cylinder 0 c.if-cylinder-eq0.true) ∙ eqb_same f.axis 0 c.if-axis-eq0.true)))

pub returns-in_default-3 : goal.returns-in_default-3
returns-in_default-3 c =
    let f = c.args.stored in
    refused-in f (plano-in f (sym c.in_ok-try_from.ensures ∙ ap byte_of c.in-Plano.is)
    ∙ must-not (eqb f.sphere 0 && eqb f.cylinder 0 && eqb f.axis 0) none (some plano)
    (no-first-of-three (eqb f.sphere 0) (eqb f.cylinder 0) (eqb f.axis 0) (eqb-other f.sphere 0 c.if-sphere-eq0.false)))

pub returns-in_default-2 : goal.returns-in_default-2
returns-in_default-2 c =
    let f = c.args.stored in
    refused-in f (plano-in f (sym c.in_ok-try_from.ensures ∙ ap byte_of c.in-Plano.is)
    ∙ must-not (eqb f.sphere 0 && eqb f.cylinder 0 && eqb f.axis 0) none (some plano)
    (ap (λ (t : Bool). t && eqb f.axis 0) (no_second (eqb f.sphere 0) (eqb f.cylinder 0) (eqb-other f.cylinder 0 c.if-cylinder-eq0.false))))

pub returns-in_default : goal.returns-in_default
returns-in_default c =
    let f = c.args.stored in
    refused-in f (plano-in f (sym c.in_ok-try_from.ensures ∙ ap byte_of c.in-Plano.is)
    ∙ must-not (eqb f.sphere 0 && eqb f.cylinder 0 && eqb f.axis 0) none (some plano)
    (no_third (eqb f.sphere 0) (eqb f.cylinder 0) (eqb f.axis 0) (eqb-other f.axis 0 c.if-axis-eq0.false)))

pub returns-in-Sphere : goal.returns-in-Sphere
returns-in-Sphere c =
    let f = c.args.stored in
    c.kept.ensures ∙ sphere-read f.sphere c.power_of.result c.power_of.ensures
    ∙ sym (ap (or_refused eye_of) (sphere-in f (sym c.in_ok-try_from.ensures ∙ ap byte_of c.in-Sphere.is)
    ∙ must-be (eqb f.cylinder 0 && eqb f.axis 0) none (ruled (sphere (count_in f.sphere)))
    (ap (λ (t : Bool). t && eqb f.axis 0) (eqb_same f.cylinder 0 c.if-cylinder-eq0-2.true)
    ∙ eqb_same f.axis 0 c.if-axis-eq0-2.true)))

pub returns-in_default-5 : goal.returns-in_default-5
returns-in_default-5 c =
    let f = c.args.stored in
    refused-in f (sphere-in f (sym c.in_ok-try_from.ensures ∙ ap byte_of c.in-Sphere.is)
    ∙ must-not (eqb f.cylinder 0 && eqb f.axis 0) none (ruled (sphere (count_in f.sphere)))
    (ap (λ (t : Bool). t && eqb f.axis 0) (eqb-other f.cylinder 0 c.if-cylinder-eq0-2.false)))

pub returns-in_default-4 : goal.returns-in_default-4
returns-in_default-4 c =
    let f = c.args.stored in
    refused-in f (sphere-in f (sym c.in_ok-try_from.ensures ∙ ap byte_of c.in-Sphere.is)
    ∙ must-not (eqb f.cylinder 0 && eqb f.axis 0) none (ruled (sphere (count_in f.sphere)))
    (no_second (eqb f.cylinder 0) (eqb f.axis 0) (eqb-other f.axis 0 c.if-axis-eq0-2.false)))

pub returns-in-Toric : goal.returns-in-Toric
returns-in-Toric c =
    let f = c.args.stored in
    c.kept-in-Toric.ensures
    ∙ toric-read f.sphere f.cylinder f.axis c.power_of-in-Toric.result c.power_of-in-Toric-2.result
    c.power_of-in-Toric.ensures c.power_of-in-Toric-2.ensures
    ∙ sym (ap (or_refused eye_of) (toric-in f (sym c.in_ok-try_from.ensures ∙ ap byte_of c.in-Toric.is)))
