-- `Placement::apart` meets its contract: the bursts from j on are apart past `free` exactly when all are. Assumes nothing.
use mathlib.Core.Path.{◌≡◌, sym, ap, ◌∙◌}
use mathlib.Core.List.{◌∷◌}
use Prim.Native.Nat.{◌+◌}
use native.Mathlib.Omega.{arith}
use borrow.Author.Rules.{rules}
use mir.Syntax.{w16}
use mir.Val.{Fits}
use lib.ListN.{length, drop, get_or}
use Rattle.combinatorics.specs.Bursts.{apart}
use Rattle.combinatorics.proofs.Loops.{left-next, left-none, apart_next, apart-not, apart-last}
use Rattle.cells.specs.Figures.{max_bursts}
use Rattle.placements.specs.Bridge.{starts_in}
use Rattle.placements.proofs.Placement.apart.Goals as goal
use Rattle.placements.proofs.Placement.apart.Goals.{In-loop-j}

-- the bursts from j on begin with burst j + 1
next : (c : In-loop-j) → drop c.loop-j.j (starts_in c.args.self)
    ≡ get_or c.args.self.starts c.loop-j.j 0 ∷ drop (c.loop-j.j + 1) (starts_in c.args.self)
next c =
    let p = c.args.self in
    let l : length p.starts ≡ max_bursts = search rules in
    left-next p.count c.loop-j.j p.starts (omega arith) (omega arith)

-- and so does the test of them
test : (c : In-loop-j) → apart c.args.b c.args.n c.loop-j.free
    (get_or c.args.self.starts c.loop-j.j 0 ∷ drop (c.loop-j.j + 1) (starts_in c.args.self))
    ≡ apart c.args.b c.args.n 0 (starts_in c.args.self)
test c = ap (apart c.args.b c.args.n c.loop-j.free) (sym (next c)) ∙ c.loop-j.invariant.1

pub returns-then-start-free : goal.returns-then-start-free
returns-then-start-free c =
    let a = c.args in
    sym (apart-not a.b a.n c.loop-j.free (get_or a.self.starts c.loop-j.j 0) (drop (c.loop-j.j + 1) (starts_in a.self)) c.if-start-free.true)
    ∙ test (goal.at.returns-then-start-free c).In-loop-j

pub loop-j-preserved : goal.loop-j-preserved
loop-j-preserved c =
    let a = c.args in
    let f : Fits w16 (get_or a.self.starts c.loop-j.j 0) = search rules in (
      omega arith,
      sym (apart_next a.b a.n c.loop-j.free (get_or a.self.starts c.loop-j.j 0) (drop (c.loop-j.j + 1) (starts_in a.self)) c.if-start-free.false)
          ∙ test (goal.at.loop-j-preserved c).In-loop-j,
    )

pub returns : goal.returns
returns c =
    let a = c.args in
    sym (apart-last a.b a.n c.loop-j.free)
    ∙ ap (apart a.b a.n c.loop-j.free) (sym (left-none a.self.count c.loop-j.j a.self.starts (omega arith))) ∙ c.loop-j.invariant.1
