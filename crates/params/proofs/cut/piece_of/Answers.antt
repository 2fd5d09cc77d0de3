-- `piece_of` meets its contract. Assumes nothing.
use Prim.Native.Nat.{◌+◌, ◌-◌, ◌*◌, ◌/◌, ◌%◌, ◌<◌}
use native.Mathlib.Nat.{le-div_iff_mul-le}
use native.Mathlib.Omega.{arith}
use Rattle.cells.proofs.Cut.{InPiece, piece-short, piece-long}
use Rattle.params.proofs.cut.piece_of.Goals as goal
use Rattle.params.proofs.cut.piece_of.Goals.{Else-x-edge, Start}

-- no piece is empty
some-each : (s : Start) → 0 < s.args.total / s.args.pieces
some-each s = (le-div_iff_mul-le {x = 1} {y = s.args.total} s.requires.0).1 (omega arith)

pub returns-then-x-edge : goal.returns-then-x-edge
returns-then-x-edge c =
    let a = c.args in
    let p = piece-short a.total a.pieces a.x c.requires.0 (some-each (goal.at.returns-then-x-edge c).Start) c.if-x-edge.true in
    (p.below, p.reach, p.past)

-- a position that is not among the shorter pieces
long : (c : Else-x-edge)
    → InPiece c.args.total c.args.pieces c.args.x
    (c.args.pieces - c.args.total % c.args.pieces
    + (c.args.x - (c.args.pieces - c.args.total % c.args.pieces) * (c.args.total / c.args.pieces))
    / (c.args.total / c.args.pieces + 1))
long c = piece-long c.args.total c.args.pieces c.args.x c.requires.0 (omega arith) (omega arith)

pub returns : goal.returns
returns c =
    let p = long (goal.at.returns c).Else-x-edge in
    (p.below, p.reach, p.past)
