-- `eye_from` meets its contract, kind by kind. Assumes nothing.
use mathlib.Core.Path.{◌≡◌, sym, ap}
use mathlib.Core.Logic.{◌≢◌}
use Prim.Native.Nat.{ℕ, ◌<◌}
use native.Mathlib.Omega.{arith}
use Rattle.prescription.specs.Kinds.{byte_of}
use Rattle.lent_prescriptions.proofs.EyeLaws.{from-toric, from-cylinder, from-axis, from-sphere, from-power, from-plano, from-other}
use Rattle.lent_prescriptions.proofs.eyes.eye_from.Goals as goal

below : (kind a b : ℕ) → kind ≡ a → a < b → kind ≢ b
below kind a b e h k = omega arith

above : (kind b : ℕ) → 2 < kind → b < 3 → kind ≢ b
above kind b h l k = omega arith

pub returns-in-Ok-Plano : goal.returns-in-Ok-Plano
returns-in-Ok-Plano c =
    let a = c.args in
    from-plano a.kind a.sphere a.cylinder a.axis (sym c.if-is_plus_zero-2.ensures) c.if-axis-eq0.true (sym c.if-is_plus_zero.ensures)
    (omega (arith, c.in-Ok-Plano.ensures, ap byte_of c.in-Ok-Plano.field-0-is))

pub returns-in_default : goal.returns-in_default
returns-in_default c =
    let a = c.args in
    from-axis a.kind a.sphere a.cylinder a.axis (below a.kind 0 2 (omega (arith, c.in-Ok-Plano.ensures, ap byte_of c.in-Ok-Plano.field-0-is)) (omega arith))
    (sym c.if-is_plus_zero-2.ensures) c.if-axis-eq0.false

pub returns-in_default-2 : goal.returns-in_default-2
returns-in_default-2 c =
    let a = c.args in
    from-cylinder a.kind a.sphere a.cylinder a.axis (below a.kind 0 2 (omega (arith, c.in-Ok-Plano.ensures, ap byte_of c.in-Ok-Plano.field-0-is)) (omega arith))
    (sym c.if-is_plus_zero-2.ensures)

pub returns-in_default-3 : goal.returns-in_default-3
returns-in_default-3 c =
    let a = c.args in
    let plano : a.kind ≡ 0 = omega (arith, c.in-Ok-Plano.ensures, ap byte_of c.in-Ok-Plano.field-0-is) in
    from-power a.kind a.sphere a.cylinder a.axis (below a.kind 0 2 plano (omega arith)) (below a.kind 0 1 plano (omega arith))
    (sym c.if-is_plus_zero.ensures)

pub returns-in-Ok-Sphere : goal.returns-in-Ok-Sphere
returns-in-Ok-Sphere c =
    let a = c.args in
    from-sphere a.kind a.sphere a.cylinder a.axis (sym c.if-is_plus_zero-3.ensures) c.if-axis-eq0-2.true
    (omega (arith, c.in-Ok-Sphere.ensures, ap byte_of c.in-Ok-Sphere.field-0-is))

pub returns-in_default-4 : goal.returns-in_default-4
returns-in_default-4 c =
    let a = c.args in
    from-axis a.kind a.sphere a.cylinder a.axis (below a.kind 1 2 (omega (arith, c.in-Ok-Sphere.ensures, ap byte_of c.in-Ok-Sphere.field-0-is)) (omega arith))
    (sym c.if-is_plus_zero-3.ensures) c.if-axis-eq0-2.false

pub returns-in_default-5 : goal.returns-in_default-5
returns-in_default-5 c =
    let a = c.args in
    from-cylinder a.kind a.sphere a.cylinder a.axis (below a.kind 1 2 (omega (arith, c.in-Ok-Sphere.ensures, ap byte_of c.in-Ok-Sphere.field-0-is)) (omega arith))
    (sym c.if-is_plus_zero-3.ensures)

pub returns-in-Ok-Toric : goal.returns-in-Ok-Toric
returns-in-Ok-Toric c =
    let a = c.args in
    from-toric a.kind a.sphere a.cylinder a.axis (omega (arith, c.in-Ok-Toric.ensures, ap byte_of c.in-Ok-Toric.field-0-is))

pub returns-in_default-6 : goal.returns-in_default-6
returns-in_default-6 c =
    let a = c.args in
    let named = rw c.in_default.is at c.try_from.ensures in
    let large : 2 < a.kind = omega (arith, named.1) in
    from-other a.kind a.sphere a.cylinder a.axis (above a.kind 2 large (omega arith)) (above a.kind 1 large (omega arith))
    (above a.kind 0 large (omega arith))
