-- `turn` meets its contract: four shuffles. Assumes nothing.
use mathlib.Core.Path.{ap, ◌∙◌}
use mathlib.Core.List.{List}
use Prim.Native.Nat.{ℕ}
use Rattle.lanes.specs.Interleaving.{transposed_table}
use Rattle.lanes.proofs.TileLaws.{four-shuffles}
use Rattle.lanes.proofs.tile.turn.Goals as goal

pub returns : goal.returns
returns c =
    let first = c.shuffle_twice in
    c.shuffle_twice-2.ensures ∙ ap (λ (x : List ℕ). transposed_table 2 128 (transposed_table 2 128 x))
    first.ensures ∙ four-shuffles
    c.args.cells.now
