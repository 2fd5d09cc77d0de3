-- `Placement::rank` meets its contract: what is summed and what the bursts from j on add make the rank. Assumes nothing.
use mathlib.Core.Path.{◌≡◌, ap, ◌∙◌}
use Prim.Native.Nat.{ℕ, ◌+◌, ◌-◌, ◌*◌, ◌≤◌, ◌<◌}
use native.Mathlib.Omega.{arith}
use borrow.Author.Rules.{rules}
use lib.ListN.{length, drop, get_or}
use lib.Seq.{get_or-take, length-take-le}
use Rattle.combinatorics.specs.Choose.{choose}
use Rattle.combinatorics.proofs.Bursts.{placed_of}
use Rattle.combinatorics.proofs.Loops.{left-next, left-none, placed_at, reduces, rank_left, rank-first, rank-next, rank-none}
use Rattle.cells.specs.Figures.{max_word, max_bursts}
use Rattle.placements.specs.Bridge.{starts_in}
use Rattle.placements.proofs.Placement.rank.Goals as goal
use Rattle.placements.proofs.Placement.rank.Goals.{In-loop-j}

record Here (b j s : ℕ) : Type 0 where
  reduced : j * (b - 1) ≤ s
  ends : s + b ≤ max_word

here : (c : In-loop-j)
    → Here c.args.b c.loop-j.j (get_or c.args.self.starts c.loop-j.j 0)
here c =
    let a = c.args in
    let j = c.loop-j.j in
    let p = placed_of a.b max_word 0 (starts_in a.self) c.requires.valid in
    let l : length a.self.starts ≡ max_bursts = search rules in
    let k : j < length (starts_in a.self) = rw (length-take-le a.self.count a.self.starts (omega arith)) (omega arith) in
    let e = get_or-take a.self.count a.self.starts j 0 (omega arith) in
    record {
      reduced = omega (arith, e, reduces a.b max_word j (starts_in a.self) p k);
      ends = omega (arith, e, (placed_at a.b max_word 0 j (starts_in a.self) p k).1);
    }

pub loop-j-init : goal.loop-j-init
loop-j-init c = (omega (arith, rank-first c.args.b (starts_in c.args.self)))

pub overflow_sub-reduced : goal.overflow_sub-reduced
overflow_sub-reduced c = omega (arith, here (goal.at.overflow_sub-reduced c).In-loop-j)

-- what burst j + 1 adds, and those behind it
share : (c : In-loop-j)
    → (let a = c.args in let j = c.loop-j.j in let d = a.b - 1 in
    rank_left d j (drop j (starts_in a.self)) ≡ choose (get_or a.self.starts j 0 - j * d) (j + 1) + rank_left d (j + 1) (drop (j + 1) (starts_in a.self)))
share c =
    let a = c.args in
    let j = c.loop-j.j in
    let d = a.b - 1 in
    let l : length a.self.starts ≡ max_bursts = search rules in
    ap (rank_left d j) (left-next a.self.count j a.self.starts (omega arith) (omega arith))
    ∙ rank-next d j (get_or a.self.starts j 0) (drop (j + 1) (starts_in a.self))

pub choose-rank-requires : goal.choose-rank-requires
choose-rank-requires c =
    (omega (arith, here (goal.at.choose-rank-requires c).In-loop-j), omega arith, omega (arith, share (goal.at.choose-rank-requires c).In-loop-j, c.loop-j.invariant, c.requires.small))

pub overflow_add-rank : goal.overflow_add-rank
overflow_add-rank c =
    omega (arith, share (goal.at.overflow_add-rank c).In-loop-j, c.choose-rank.ensures, c.loop-j.invariant, c.requires.small)

pub loop-j-preserved : goal.loop-j-preserved
loop-j-preserved c =
    (omega (arith, share (goal.at.loop-j-preserved c).In-loop-j, c.choose-rank.ensures, c.loop-j.invariant))

pub returns : goal.returns
returns c =
    let a = c.args in
    let d = a.b - 1 in
    omega (arith, ap (rank_left d c.loop-j.j) (left-none a.self.count c.loop-j.j a.self.starts (omega arith)), rank-none d c.loop-j.j)
