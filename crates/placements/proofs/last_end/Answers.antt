-- `last_end` meets its contract: no defect stands from x on. Assumes nothing.
use mathlib.Core.Path.{◌≡◌, sym, ap, ◌∙◌}
use Prim.Native.Nat.{◌+◌, ◌-◌}
use native.Mathlib.Omega.{arith}
use borrow.Author.Rules.{rules}
use lib.ListN.{get_or}
use Rattle.combinatorics.proofs.Cases.{eqb_same, eqb-other}
use Rattle.combinatorics.specs.Stretch.{last_end}
use Rattle.combinatorics.proofs.Scan.{last_none, last-here, last-before}
use Rattle.construction_a.specs.Outcomes.{defect_at}
use Rattle.placements.proofs.last_end.Goals as goal

pub returns-then-map-x-eq1 : goal.returns-then-map-x-eq1
returns-then-map-x-eq1 c =
    let map = c.args.map.now in
    let e : c.loop-x.x - 1 + 1 ≡ c.loop-x.x = omega arith in
    e ∙ sym (last-here (defect_at map) c.loop-x.x (omega arith) (eqb_same (get_or map (c.loop-x.x - 1) 0) 1 (search rules))) ∙ c.loop-x.invariant

pub loop-x-preserved : goal.loop-x-preserved
loop-x-preserved c =
    let map = c.args.map.now in
    sym (last-before (defect_at map) c.loop-x.x (eqb-other (get_or map (c.loop-x.x - 1) 0) 1 (search rules))) ∙ c.loop-x.invariant

pub returns : goal.returns
returns c =
    let map = c.args.map.now in
    let e : c.loop-x.x ≡ 0 = omega arith in
    sym (last_none (defect_at map)) ∙ ap (last_end (defect_at map)) (sym e) ∙ c.loop-x.invariant
