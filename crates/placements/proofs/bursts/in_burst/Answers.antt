-- `in_burst` meets its contract: the bursts before j don't have the position. Assumes nothing.
use mathlib.Core.Path.{◌≡◌, sym, ap, ◌∙◌}
use mathlib.Core.List.{◌∷◌}
use Prim.Native.Nat.{◌+◌}
use native.Mathlib.Omega.{arith}
use borrow.Author.Rules.{rules}
use lib.ListN.{length, drop, get_or}
use Rattle.combinatorics.specs.Bursts.{in_burst}
use Rattle.combinatorics.proofs.Loops.{left-next, left-none}
use Rattle.cells.specs.Figures.{max_bursts}
use Rattle.placements.specs.Bridge.{starts_in}
use Rattle.placements.proofs.Positions.{burst-next, burst-found, burst-none}
use Rattle.placements.proofs.bursts.in_burst.Goals as goal
use Rattle.placements.proofs.bursts.in_burst.Goals.{In-loop-j}

-- the bursts from j on begin with burst j + 1
next : (c : In-loop-j) → in_burst c.args.b
    (get_or c.args.at.starts c.loop-j.j 0 ∷ drop (c.loop-j.j + 1) (starts_in c.args.at))
    c.args.x
    ≡ in_burst c.args.b (starts_in c.args.at) c.args.x
next c =
    let a = c.args in
    let l : length a.at.starts ≡ max_bursts = search rules in
    ap (λ ss. in_burst a.b ss a.x)
    (sym (left-next a.at.count c.loop-j.j a.at.starts (omega arith) (omega (arith, c.requires))))
    ∙ c.loop-j.invariant

pub returns-then-has : goal.returns-then-has
returns-then-has c =
    let a = c.args in
    sym (burst-found a.b (get_or a.at.starts c.loop-j.j 0) a.x (drop (c.loop-j.j + 1) (starts_in a.at))
    (sym c.has.ensures ∙ c.if-has.true))
    ∙ next (goal.at.returns-then-has c).In-loop-j

pub loop-j-preserved : goal.loop-j-preserved
loop-j-preserved c =
    let a = c.args in
    sym (burst-next a.b (get_or a.at.starts c.loop-j.j 0) a.x (drop (c.loop-j.j + 1) (starts_in a.at))
    (sym c.has.ensures ∙ c.if-has.false))
    ∙ next (goal.at.loop-j-preserved c).In-loop-j

pub returns : goal.returns
returns c =
    let a = c.args in
    sym (burst-none a.b a.x)
    ∙ ap (λ ss. in_burst a.b ss a.x) (sym (left-none a.at.count c.loop-j.j a.at.starts (omega arith))) ∙ c.loop-j.invariant
