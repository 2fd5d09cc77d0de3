-- `value_of` meets its contract: the part of the word is the sub-block's. Assumes nothing.
use Prim.Native.Nat.{◌+◌, ◌-◌}
use native.Mathlib.Omega.{arith}
use lib.ListN.{get_or, take, drop}
use Rattle.larsson_params.proofs.Shape.{bound}
use Rattle.sub_blocks.proofs.Room.{Reached, reached}
use Rattle.sub_blocks.proofs.Holding.{spelled_is}
use Rattle.sub_blocks.proofs.Voting.{part-is}
use Rattle.sub_blocks.proofs.held.value_of.Goals as goal
use Rattle.sub_blocks.proofs.held.value_of.Goals.{Start}

there : (s : Start) → Reached s.args.layout s.args.starts.now s.args.i
there s = reached s.args.layout s.requires.0.layout s.args.starts.now s.requires.1 s.args.i s.requires.2

pub offset_bounds-starts-i : goal.offset_bounds-starts-i
offset_bounds-starts-i c = omega (arith, there (goal.at.offset_bounds-starts-i c).Start)

pub bounds-starts-i : goal.bounds-starts-i
bounds-starts-i c = omega (arith, there (goal.at.bounds-starts-i c).Start)

pub overflow_add-end : goal.overflow_add-end
overflow_add-end c = omega (arith, there (goal.at.overflow_add-end c).Start)

pub slice_bounds-with_digits-end : goal.slice_bounds-with_digits-end
slice_bounds-with_digits-end c =
    omega (arith, there (goal.at.slice_bounds-with_digits-end c).Start, c.requires.0.complete)

pub with_digits-requires : goal.with_digits-requires
with_digits-requires c =
    ((bound c.args.layout c.requires.0.layout).q-least, omega arith)

pub returns : goal.returns
returns c =
    let a = c.args in
    let w = a.word.now in
    let from = get_or a.starts.now a.i 0 in
    let is = part-is a.layout w c.requires.0 a.i from c.requires.2 (c.requires.1.0 a.i c.requires.2) in
    rw (spelled_is a.layout w a.i (take (from + a.layout.sub_len - from) (drop from w)) is) at c.with_digits.ensures
