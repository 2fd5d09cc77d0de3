-- `byte_width` meets its contract: the values are those that so many symbols spell, and no smaller number was enough. Assumes nothing.
use mathlib.Core.Path.{sym}
use Prim.Native.Nat.{◌^◌, ◌≤◌}
use native.Mathlib.Omega.{arith}
use Rattle.combinatorics.proofs.Cases.{leb-holds}
use Rattle.combinatorics.proofs.Stretch.{first-is, first-none}
use Rattle.cells.specs.Bytes.{byte_values, max_byte_width, byte_width}
use Rattle.cells.proofs.Bytes.{spells_byte}
use Rattle.params.proofs.bytes.byte_width.Goals as goal

pub returns-then-values-ge-BYTE_VALUES : goal.returns-then-values-ge-BYTE_VALUES
unfolding byte_width
returns-then-values-ge-BYTE_VALUES c =
    let q = c.args.q in
    let s = c.loop-width in
    let h : byte_values ≤ q ^ s.width = omega (arith, s.invariant.0) in
    sym (first-is max_byte_width 0 s.width (spells_byte q) (omega arith) (omega arith) (λ x _ l. s.invariant.1 x l) (leb-holds byte_values (q ^ s.width) h))

pub returns : goal.returns
unfolding byte_width
returns c =
    let s = c.loop-width in
    sym (first-none max_byte_width 0 (spells_byte c.args.q) (λ x _ l. s.invariant.1 x (omega arith)))
