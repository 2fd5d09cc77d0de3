-- `take_block` meets its contract: past the head cells, then burst after burst, then the rest. Assumes nothing.
use mathlib.Core.Path.{◌≡◌}
use Prim.Native.Nat.{suc, ◌-◌}
use lib.ListN.{get_or}
use Rattle.placements.specs.Bridge.{starts_in}
use Rattle.blocks.specs.Numbers.{kind_numbers}
use Rattle.stretches.specs.Walk.{frame_by, next_start}
use Rattle.stretches.specs.ByBlock.{Past}
use Rattle.stretches.specs.Take.{TakenTo}
use Rattle.stretches.proofs.taking.take_block.Given as goal

abbrev pub invariant-loop-here : goal.invariant-loop-here
invariant-loop-here l =
    (l.edge ≡ get_or l.heads (suc l.block) 0) × (l.here.stop ≡ next_start l.walk.n (starts_in l.at) l.here.passed)
    × Past (frame_by l.walk l.heads (kind_numbers l.kinds) (starts_in l.at)) l.walk.b (starts_in l.at) l.block l.here.at l.here.passed × TakenTo l.walk l.at l.heads (kind_numbers l.kinds) l.word l.message l.here

abbrev pub decreases-loop-here : goal.decreases-loop-here
decreases-loop-here l = l.walk.m - l.here.passed
