-- `move_by` meets its contract: lines in, turned, lines out. Assumes nothing.
use mathlib.Core.Path.{ap, ◌∙◌, subst}
use mathlib.Core.List.{List}
use Prim.Native.Nat.{ℕ, ◌+◌, ◌*◌}
use native.Mathlib.Nat.{mul_comm}
use native.Mathlib.Omega.{arith}
use lib.ListN.{length}
use Rattle.lanes.specs.Transposing.{LinesCopied}
use Rattle.lanes.proofs.Interleaving.{length-transposed}
use Rattle.lanes.proofs.TileLaws.{tile-within, tile-moved}
use Rattle.lanes.proofs.tile.move_by.Goals as goal

pub copy_lines-requires-2 : goal.copy_lines-requires-2
copy_lines-requires-2 c = (
  record {
    apart = omega arith;
    within = omega (
      arith,
      ap length c.turn.ensures,
      length-transposed 16 16
          c.copy_lines.new.to,
    );
  },
  tile-within c.args.columns c.args.rows c.args.top c.args.left c.args.to.now
      (c.requires.0.room ∙ mul_comm c.args.rows c.args.columns) c.requires.2 c.requires.1,
)

pub returns : goal.returns
returns c =
    let a = c.args in
    let taken = c.copy_lines in
    let turned = c.turn in
    let put = c.copy_lines-2 in
    tile-moved a.rows a.columns a.left a.top a.from.now a.to.now put.new.to a.cells.now
    taken.new.to c.requires.1 c.requires.2 taken.ensures
    (subst (λ (x : List ℕ). LinesCopied 0 16 x (a.left * a.rows + a.top) a.rows 16 a.to.now put.new.to) turned.ensures put.ensures)
