-- `beside` meets its contract: no block of the part before j is a burst block. Assumes nothing.
use mathlib.Core.Path.{◌≡◌, sym, ap, ◌∙◌}
use Prim.Native.Nat.{◌+◌, ◌*◌}
use native.Mathlib.Omega.{arith}
use Rattle.combinatorics.proofs.StretchLoops.{first-here, first_on, first-over}
use Rattle.cells.specs.Round.{next}
use Rattle.construction_a.specs.Writing.{row, beside as beside_in}
use Rattle.blocks.specs.Numbers.{kind_numbers}
use Rattle.blocks.specs.Blocks.{burst_set}
use Rattle.blocks.proofs.Numbers.{burst-tested}
use Rattle.blocks.proofs.beside.Goals as goal

pub returns-then-eq : goal.returns-then-eq
unfolding beside_in
returns-then-eq c =
    let a = c.args in
    let w = row a.m (burst_set (kind_numbers a.kinds.now)) a.part in
    c.following.ensures
    ∙ ap (next a.m) (sym (first-here a.m c.loop-j.j w (omega arith)
    (burst-tested a.kinds.now (a.part * a.m + c.loop-j.j) ∙ sym c.if-eq.ensures))
    ∙ c.loop-j.invariant)

pub loop-j-preserved : goal.loop-j-preserved
loop-j-preserved c =
    let a = c.args in
    let w = row a.m (burst_set (kind_numbers a.kinds.now)) a.part in
    sym (first_on a.m c.loop-j.j w (omega arith) (burst-tested a.kinds.now (a.part * a.m + c.loop-j.j) ∙ sym c.if-eq.ensures))
    ∙ c.loop-j.invariant

pub returns : goal.returns
unfolding beside_in
returns c =
    let a = c.args in
    let w = row a.m (burst_set (kind_numbers a.kinds.now)) a.part in
    let e : a.m ≡ c.loop-j.j = omega arith in
    c.following-2.ensures ∙ ap (next a.m) (e ∙ sym (first-over a.m c.loop-j.j w (omega arith)) ∙ c.loop-j.invariant)
