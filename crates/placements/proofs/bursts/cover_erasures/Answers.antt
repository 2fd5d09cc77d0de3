-- `cover_erasures` meets its contract: the erasures before `from` lie in bursts, and those from burst j on decide. Assumes nothing.
use mathlib.Core.Path.{◌≡◌, sym, ◌∙◌, subst}
use mathlib.Core.List.{List, ◌∷◌}
use Prim.Native.Nat.{ℕ, ◌+◌, ◌≤◌}
use native.Mathlib.Omega.{arith}
use borrow.Author.Rules.{rules}
use lib.ListN.{length, drop, get_or}
use Rattle.combinatorics.proofs.Bursts.{placed_end}
use Rattle.combinatorics.proofs.Loops.{left-next, left-none}
use Rattle.cells.specs.Figures.{max_bursts}
use Rattle.placements.specs.Bridge.{starts_in}
use Rattle.placements.proofs.Positions.{Tested, tested-start, tested-not, tested-on, tested-end}
use Rattle.placements.proofs.bursts.cover_erasures.Goals as goal
use Rattle.placements.proofs.bursts.cover_erasures.Goals.{In-loop-j}

-- the bursts from j on begin with burst j + 1
left : (c : In-loop-j) → (let a = c.args in
    Tested a.b a.q a.word.now (starts_in a.at) c.loop-j.from
    (get_or a.at.starts c.loop-j.j 0 ∷ drop (c.loop-j.j + 1) (starts_in a.at)))
left c =
    let a = c.args in
    let l : length a.at.starts ≡ max_bursts = search rules in
    subst (λ (r : List ℕ). Tested a.b a.q a.word.now (starts_in a.at) c.loop-j.from r)
    (left-next a.at.count c.loop-j.j a.at.starts (omega arith) (omega (arith, c.requires.few))) c.loop-j.invariant

-- and burst j + 1 ends within the word
ends : (c : In-loop-j) → (let a = c.args in
    get_or a.at.starts c.loop-j.j 0 + a.b ≤ length a.word.now)
ends c =
    let a = c.args in
    placed_end a.b (length a.word.now) (get_or a.at.starts c.loop-j.j 0 + a.b) (drop (c.loop-j.j + 1) (starts_in a.at))
    (left c).placed.1

pub loop-j-init : goal.loop-j-init
loop-j-init c =
    (tested-start c.args.b c.args.q c.args.word.now (starts_in c.args.at) c.requires.valid)

pub slice_bounds-all_below-end : goal.slice_bounds-all_below-end
slice_bounds-all_below-end c = omega (arith, ends (goal.at.slice_bounds-all_below-end c).In-loop-j)

pub returns-then-not-all_below : goal.returns-then-not-all_below
returns-then-not-all_below c =
    let a = c.args in
    let t = c.loop-j in
    sym (tested-not a.b a.q a.word.now (starts_in a.at) t.from (get_or a.at.starts t.j 0) (drop (t.j + 1) (starts_in a.at))
    (left (goal.at.returns-then-not-all_below c).In-loop-j)
    (sym c.all_below.ensures ∙ c.if-not-all_below.true))

pub loop-j-preserved : goal.loop-j-preserved
loop-j-preserved c =
    let a = c.args in
    let t = c.loop-j in
    tested-on a.b a.q a.word.now (starts_in a.at) t.from (get_or a.at.starts t.j 0) (drop (t.j + 1) (starts_in a.at))
    (left (goal.at.loop-j-preserved c).In-loop-j)
    (sym c.all_below.ensures ∙ c.if-not-all_below.false)

pub returns : goal.returns
returns c =
    let a = c.args in
    let t = c.loop-j in
    c.all_below-2.ensures
    ∙ tested-end a.b a.q a.word.now (starts_in a.at) t.from
    (subst (λ (r : List ℕ). Tested a.b a.q a.word.now (starts_in a.at) t.from r)
    (left-none a.at.count t.j a.at.starts (omega arith)) t.invariant)
