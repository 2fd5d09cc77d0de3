-- `part_with` meets its contract: no part before i has so many. Assumes nothing.
use mathlib.Core.Path.{◌≡◌, sym, ◌∙◌}
use mathlib.Core.Bool.{Bool}
use Prim.Native.Nat.{ℕ}
use native.Mathlib.Omega.{arith}
use lib.Dec.{eqb}
use Rattle.combinatorics.proofs.StretchLoops.{first-here, first_on, first-over}
use Rattle.construction_a.specs.Writing.{part_count, part_with}
use Rattle.blocks.specs.Numbers.{kind_numbers}
use Rattle.blocks.specs.Blocks.{burst_set}
use Rattle.blocks.proofs.part_with.Goals as goal

pub returns-then-has_bursts : goal.returns-then-has_bursts
unfolding part_with
returns-then-has_bursts c =
    let a = c.args in
    let w : ℕ → Bool = λ x. eqb (part_count a.m (burst_set (kind_numbers a.kinds.now)) x) a.wanted in
    sym (first-here a.parts c.loop-i.i w (omega arith) (sym c.has_bursts.ensures ∙ c.if-has_bursts.true)) ∙ c.loop-i.invariant

pub loop-i-preserved : goal.loop-i-preserved
loop-i-preserved c =
    let a = c.args in
    let w : ℕ → Bool = λ x. eqb (part_count a.m (burst_set (kind_numbers a.kinds.now)) x) a.wanted in
    sym (first_on a.parts c.loop-i.i w (omega arith) (sym c.has_bursts.ensures ∙ c.if-has_bursts.false)) ∙ c.loop-i.invariant

pub returns : goal.returns
unfolding part_with
returns c =
    let a = c.args in
    let e : a.parts ≡ c.loop-i.i = omega arith in
    e ∙ sym (first-over a.parts c.loop-i.i (λ x. eqb (part_count a.m (burst_set (kind_numbers a.kinds.now)) x) a.wanted) (omega arith)) ∙ c.loop-i.invariant
