-- `fill_block` meets its contract: the head cells, then burst after burst, then the rest. Assumes nothing.
use mathlib.Core.Path.{◌≡◌}
use Prim.Native.Nat.{suc, ◌-◌}
use lib.ListN.{get_or}
use Rattle.blocks.specs.Numbers.{kind_numbers}
use Rattle.stretches.specs.Fill.{HeadPassed, FilledTo}
use Rattle.stretches.proofs.fill.fill_block.Given as goal

abbrev pub invariant-loop-here : goal.invariant-loop-here
invariant-loop-here l =
    (l.edge ≡ get_or l.heads (suc l.block) 0) × HeadPassed l.walk l.at l.heads (kind_numbers l.kinds) l.block l.here × FilledTo l.walk l.at l.heads (kind_numbers l.kinds) l.digits l.message l.word l.here

abbrev pub decreases-loop-here : goal.decreases-loop-here
decreases-loop-here l = l.walk.m - l.here.passed
