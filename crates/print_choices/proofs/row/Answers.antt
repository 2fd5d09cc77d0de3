use native.Mathlib.Omega.{arith}
use Rattle.choices.specs.Choices.{max_tabled_chosen}
use Rattle.binomials.proofs.Bounds.{ways-fit}
use Rattle.print_choices.proofs.row.Goals as goal

pub worked_out-requires : goal.worked_out-requires
worked_out-requires g c =
    let n = c.args.c in
    let i = c.loop-i.i in
    (omega arith, omega arith, ways-fit n max_tabled_chosen i (omega arith) (omega arith) (omega arith))
