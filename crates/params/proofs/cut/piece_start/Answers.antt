-- `piece_start` meets its contract, by the closed form of a piece's start, and no number on the way passes the total. Assumes nothing.
use native.Mathlib.Omega.{arith}
use Rattle.cells.proofs.Cut.{piece_is}
use Rattle.params.proofs.cut.piece_start.Goals as goal

pub returns-then-i-short : goal.returns-then-i-short
returns-then-i-short c = let a = c.args in omega (arith, piece_is a.total a.pieces a.i)

pub returns : goal.returns
returns c = let a = c.args in omega (arith, piece_is a.total a.pieces a.i)
