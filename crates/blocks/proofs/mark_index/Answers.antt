-- `mark_index` meets its contract, case by case. Assumes nothing.
use mathlib.Core.Path.{◌≡◌, sym, ap, ◌∙◌, subst}
use Prim.Native.Nat.{suc, ◌≤◌, ◌<◌}
use native.Mathlib.Nat.{mul-le-mul_right}
use native.Mathlib.Omega.{arith}
use lib.ListN.{get_or}
use Rattle.cells.specs.Round.{next}
use Rattle.construction_a.specs.Writing.{Chosen, whole, chosen, is_index_in, part_with}
use Rattle.cells.proofs.Round.{next-lt}
use Rattle.blocks.specs.Numbers.{kind_numbers}
use Rattle.blocks.specs.Blocks.{burst_set, marked}
use Rattle.blocks.proofs.Marks.{chosen-full, chosen-bare, chosen-each, each-some}
use Rattle.blocks.proofs.mark_index.Goals as goal

pub mark_part-requires : goal.mark_part-requires
mark_part-requires c =
    let a = c.args in
    let l : suc c.following.result ≤ a.parts =
    omega (arith, c.following.ensures, next-lt a.parts c.part_with-full.result (omega arith)) in
    (c.requires.0, omega (arith, mul-le-mul_right a.m l), c.requires.4)

pub returns-then-full-parts : goal.returns-then-full-parts
returns-then-full-parts c =
    let a = c.args in
    let B = burst_set (kind_numbers a.kinds.now) in
    let l : part_with a.parts a.m B a.m < a.parts = omega (arith, c.part_with-full.ensures) in
    let e : whole c.following.result ≡ chosen a.parts a.m B =
    ap whole (c.following.ensures ∙ ap (next a.parts) c.part_with-full.ensures) ∙ sym (chosen-full a.parts a.m B c.requires.5 l) in
    λ k _. subst (λ (x : Chosen). get_or (kind_numbers c.mark_part.new.kinds) k 0 ≡ marked (is_index_in a.m B x) (kind_numbers a.kinds.now) k) e (c.mark_part.ensures k)

pub returns-then-bare-parts : goal.returns-then-bare-parts
returns-then-bare-parts c =
    let a = c.args in
    let B = burst_set (kind_numbers a.kinds.now) in
    let bare = c.part_with-bare in
    let e : whole bare.result ≡ chosen a.parts a.m B =
    ap whole bare.ensures ∙ sym (chosen-bare a.parts a.m B c.requires.5 (omega (arith, c.part_with-full.ensures)) (omega (arith, bare.ensures))) in
    λ k _. subst (λ (x : Chosen). get_or (kind_numbers c.mark_part-then-bare-parts.new.kinds) k 0 ≡ marked (is_index_in a.m B x) (kind_numbers a.kinds.now) k) e (c.mark_part-then-bare-parts.ensures k)

pub mark_one_each-requires : goal.mark_one_each-requires
mark_one_each-requires c =
    let a = c.args in
    (c.requires.1, c.requires.4, each-some a.parts a.m (burst_set (kind_numbers a.kinds.now)) (omega (arith, c.part_with-bare.ensures)))

pub returns : goal.returns
returns c =
    let a = c.args in
    let B = burst_set (kind_numbers a.kinds.now) in
    let e = sym (chosen-each a.parts a.m B c.requires.5 (omega (arith, c.part_with-full.ensures))
    (omega (arith, c.part_with-bare.ensures))) in
    λ k l. subst (λ (x : Chosen). get_or (kind_numbers c.mark_one_each.new.kinds) k 0 ≡ marked (is_index_in a.m B x) (kind_numbers a.kinds.now) k) e (c.mark_one_each.ensures k l)
