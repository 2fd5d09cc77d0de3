-- `has_bursts` meets its contract: what is missing and the burst blocks among the first j of the part are as many as wanted. Assumes nothing.
use mathlib.Core.Path.{◌≡◌, refl, sym, ap, ◌∙◌}
use mathlib.Core.Bool.{Bool}
use Prim.Native.Nat.{ℕ, ◌+◌, ◌*◌}
use native.Mathlib.Omega.{arith}
use lib.Dec.{eqb}
use Rattle.combinatorics.specs.Stretch.{sum, count}
use Rattle.combinatorics.proofs.Cases.{by-eq, eqb_same, eqb-other}
use Rattle.construction_a.specs.Writing.{row, part_count}
use Rattle.blocks.specs.Numbers.{kind_numbers}
use Rattle.blocks.specs.Blocks.{burst_set}
use Rattle.blocks.proofs.Numbers.{burst-tested}
use Rattle.blocks.proofs.BlockSets.{one_more, none_more, count-rest}
use Rattle.blocks.proofs.has_bursts.Goals as goal
use Rattle.blocks.proofs.has_bursts.Goals.{then-eq+else-missing-eq0, else-eq, Joined-eq, Start}

abbrev blocks : Start → ℕ → Bool
blocks s = row s.args.m (burst_set (kind_numbers s.args.kinds.now)) s.args.part

-- one block more is seen
seen : (c : Joined-eq)
    → (count (c.loop-j.j + 1) 0 (blocks c.before.before.before.before.before) + c.if-eq.missing ≡ c.args.wanted)
seen c =
    let l = c.loop-j in
    let found = count l.j 0 (blocks c.before.before.before.before.before) in
    elim c.if-eq.branch [
      | then-eq+else-missing-eq0 w ↦
          omega (
            arith,
            l.invariant,
            one_more (kind_numbers c.args.kinds.now) c.args.m c.args.part l.j found refl
                (burst-tested c.args.kinds.now (c.args.part * c.args.m + l.j) ∙ sym w.if-eq.ensures),
          )
      | else-eq w ↦
          omega (
            arith,
            l.invariant,
            none_more (kind_numbers c.args.kinds.now) c.args.m c.args.part l.j found refl
                (burst-tested c.args.kinds.now (c.args.part * c.args.m + l.j) ∙ sym w.if-eq.ensures),
          )
    ]

pub loop-j-init : goal.loop-j-init
unfolding sum
loop-j-init c = omega arith

pub returns-then-missing-eq0 : goal.returns-then-missing-eq0
unfolding part_count
returns-then-missing-eq0 c =
    let l = c.loop-j in
    let more = one_more (kind_numbers c.args.kinds.now) c.args.m c.args.part l.j (count l.j 0 (blocks (goal.at.returns-then-missing-eq0 c).Start)) refl
    (burst-tested c.args.kinds.now (c.args.part * c.args.m + l.j) ∙ sym c.if-eq.ensures) in
    let rest = count-rest (l.j + 1) c.args.m (blocks (goal.at.returns-then-missing-eq0 c).Start) (omega arith) in
    sym (eqb-other (count c.args.m 0 (blocks (goal.at.returns-then-missing-eq0 c).Start)) c.args.wanted (λ e. absurd (omega (arith, l.invariant, c.if-missing-eq0.true, more, rest.0))))

pub returns-then-m-j : goal.returns-then-m-j
unfolding part_count
returns-then-m-j c =
    let l = c.loop-j in
    let rest = count-rest (l.j + 1) c.args.m (blocks (goal.at.returns-then-m-j c).Start) (omega arith) in
    sym (eqb-other (count c.args.m 0 (blocks (goal.at.returns-then-m-j c).Start)) c.args.wanted (λ e. absurd (omega (arith, seen (goal.at.returns-then-m-j c).Joined-eq, c.if-m-j.true, rest.1))))

pub loop-j-preserved : goal.loop-j-preserved
loop-j-preserved c = seen (goal.at.loop-j-preserved c).Joined-eq

pub returns : goal.returns
unfolding part_count
returns c =
    let l = c.loop-j in
    let e : l.j ≡ c.args.m = omega arith in
    let all : count c.args.m 0 (blocks (goal.at.returns c).Start) + l.missing ≡ c.args.wanted = ap (λ (y : ℕ). count y 0 (blocks (goal.at.returns c).Start) + l.missing) (sym e) ∙ l.invariant in
    by-eq l.missing 0 (λ t. t ≡ eqb (count c.args.m 0 (blocks (goal.at.returns c).Start)) c.args.wanted)
    (λ z. sym (eqb_same (count c.args.m 0 (blocks (goal.at.returns c).Start)) c.args.wanted (omega arith)))
    (λ z. sym (eqb-other (count c.args.m 0 (blocks (goal.at.returns c).Start)) c.args.wanted (λ d. z (omega arith))))
