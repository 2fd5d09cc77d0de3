-- `piece_len` meets its contract, and a longer piece is no longer than the total. Assumes nothing.
use Prim.Native.Nat.{◌-◌, ◌%◌}
use native.Mathlib.Omega.{arith}
use Rattle.combinatorics.proofs.Cases.{leb-holds, leb-fails}
use Rattle.cells.specs.Cut.{piece_len}
use Rattle.params.proofs.cut.piece_len.Goals as goal

pub returns-then-i-pieces : goal.returns-then-i-pieces
unfolding piece_len
returns-then-i-pieces c =
    let a = c.args in
    rw (leb-fails (a.pieces - a.total % a.pieces) a.i (omega (arith, c.if-i-pieces.true))) (omega arith)

pub returns : goal.returns
unfolding piece_len
returns c =
    let a = c.args in
    rw (leb-holds (a.pieces - a.total % a.pieces) a.i (omega (arith, c.if-i-pieces.false)))
